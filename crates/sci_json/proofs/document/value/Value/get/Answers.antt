use Rattle.std.proofs.Common.{Some, None, ap, ◌∙◌}
use Rattle.serde_json.specs.Find.{get}
use Rattle.sci_json.specs.View.{view}
use Rattle.sci_json.proofs.Fields.{field_found}
use Rattle.sci_json.proofs.document.value.Value.get.Goals as goal

pub invariant_of-result : goal.invariant_of-result
invariant_of-result c = (field_found c.args.name.now c.self.inside.element c.self.invariant (Some c.in-Some.element) c.in-Some.ensures).0

pub returns-in-Some : goal.returns-in-Some
returns-in-Some c =
    (field_found c.args.name.now c.self.inside.element c.self.invariant (Some c.in-Some.element) c.in-Some.ensures).1 ∙ ap (λ ts. get c.args.name.now (view ts)) c.self.view_is

pub returns-in-None : goal.returns-in-None
returns-in-None c = field_found c.args.name.now c.self.inside.element c.self.invariant None c.in-None.ensures ∙ ap (λ ts. get c.args.name.now (view ts)) c.self.view_is
