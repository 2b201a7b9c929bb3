use Rattle.std.proofs.Common.{is_some, ap, ◌∙◌}
use Rattle.serde_json.specs.Find.{as_object}
use Rattle.sci_json.specs.View.{view}
use Rattle.sci_json.proofs.Fields.{fields_found}
use Rattle.sci_json.proofs.document.value.Value.is_object.Goals as goal

pub returns : goal.returns
returns c = c.is_some.ensures ∙ fields_found c.self.inside.element c.self.invariant c.members.result c.members.ensures ∙ ap (λ ts. is_some (as_object (view ts))) c.self.view_is
