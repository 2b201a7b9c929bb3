use Rattle.std.proofs.Common.{ap, ◌∙◌}
use Rattle.serde_json.specs.Find.{as_bool}
use Rattle.sci_json.specs.View.{view}
use Rattle.sci_json.proofs.Fields.{flag_found}
use Rattle.sci_json.proofs.document.value.Value.as_bool.Goals as goal

pub returns : goal.returns
returns c = flag_found c.self.inside.element c.self.invariant c.as_bool.result c.as_bool.ensures ∙ ap (λ ts. as_bool (view ts)) c.self.view_is
