use Rattle.std.proofs.Common.{◌≡◌, ◌∙◌, Some, rules}
use Rattle.std.specs.Prelude.{slice_get}
use Rattle.c_rules.proofs.Assigning.{first_tells}
use Rattle.c_rules.proofs.bodies.first_is.Goals as goal

pub returns-in-Some : goal.returns-in-Some
returns-in-Some c =
    let is : slice_get c.args.bodies.now 0 ≡ Some c.in-Some.first.now = search rules in
    first_tells c.args.bodies.now c.args.body c.in-Some.first.now is c.requires
