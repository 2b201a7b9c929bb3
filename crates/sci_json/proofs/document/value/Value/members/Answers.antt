use Rattle.std.proofs.Common.{Some, None, ap, ◌∙◌}
use Rattle.serde_json.specs.Find.{as_object}
use Rattle.sci_json.specs.View.{view}
use Rattle.sci_json.proofs.Fields.{members_found}
use Rattle.sci_json.proofs.document.value.Value.members.Goals as goal

pub invariant_of-result : goal.invariant_of-result
invariant_of-result c = (members_found c.self.inside.element c.self.invariant (Some c.in-Some.members) c.in-Some.ensures).0

pub returns-in-Some : goal.returns-in-Some
returns-in-Some c = (members_found c.self.inside.element c.self.invariant (Some c.in-Some.members) c.in-Some.ensures).1 ∙ ap (λ ts. as_object (view ts)) c.self.view_is

pub returns-in-None : goal.returns-in-None
returns-in-None c = members_found c.self.inside.element c.self.invariant None c.in-None.ensures ∙ ap (λ ts. as_object (view ts)) c.self.view_is
