use Rattle.std.proofs.Common.{Some, None, ap, ◌∙◌}
use Rattle.serde_json.specs.Find.{as_array}
use Rattle.sci_json.specs.View.{view}
use Rattle.sci_json.proofs.Fields.{items_found}
use Rattle.sci_json.proofs.document.value.Value.items.Goals as goal

pub invariant_of-result : goal.invariant_of-result
invariant_of-result c = (items_found c.self.inside.element c.self.invariant (Some c.in-Some.items) c.in-Some.ensures).0

pub returns-in-Some : goal.returns-in-Some
returns-in-Some c = (items_found c.self.inside.element c.self.invariant (Some c.in-Some.items) c.in-Some.ensures).1 ∙ ap (λ ts. as_array (view ts)) c.self.view_is

pub returns-in-None : goal.returns-in-None
returns-in-None c = items_found c.self.inside.element c.self.invariant None c.in-None.ensures ∙ ap (λ ts. as_array (view ts)) c.self.view_is
