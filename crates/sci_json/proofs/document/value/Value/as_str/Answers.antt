use Rattle.std.proofs.Common.{ap, ◌∙◌, option_map}
use Rattle.serde_json.specs.Find.{as_str}
use Rattle.sci_json.specs.View.{view}
use Rattle.sci_json.proofs.Fields.{text_found}
use Rattle.sci_json.proofs.document.value.Value.as_str.Goals as goal

pub returns : goal.returns
returns c = text_found c.self.inside.element c.self.invariant (option_map (λ s. s.now) c.as_str.result) c.as_str.ensures ∙ ap (λ ts. as_str (view ts)) c.self.view_is
