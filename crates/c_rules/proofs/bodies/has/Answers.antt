use Rattle.c_rules.proofs.Assigning.{found_any}
use Rattle.c_rules.proofs.bodies.has.Goals as goal

pub returns : goal.returns
returns c = found_any c.has.result c.args.number c.args.walk.now.found c.has.ensures
