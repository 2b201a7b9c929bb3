use Rattle.std.proofs.Common.{◌≡◌, ◌∙◌, List, ℕ, Option, Some, ap, sym}
use Rattle.std.proofs.lemmas.Bool.{eqb-true}
use Rattle.sci_loop.specs.Lists.{list_at}
use Rattle.c_rules.specs.Naming.{at_place}
use Rattle.c_rules.specs.Bodies.{callees_in}
use Rattle.c_rules.proofs.Assigning.{listed_there}
use Rattle.c_rules.proofs.bodies.Bodies.is_called.Goals as goal

pub returns-in-Some : goal.returns-in-Some
returns-in-Some c = λ t.
    let self = c.args.self.now in
    let is : at_place self.callers.items c.args.body ≡ Some c.in-Some.caller = ap (λ (l : List (Option ℕ)). at_place l c.args.body) (sym c.deref.ensures.value) ∙ sym c.value_at.ensures ∙ c.in-Some.is in
    listed_there (list_at (callees_in self) self.last) c.args.body (self.called self.last c.args.body (is ∙ ap Some (eqb-true c.in-Some.caller self.last t)))
