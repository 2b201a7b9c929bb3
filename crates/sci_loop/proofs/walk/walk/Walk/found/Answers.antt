use Rattle.sci_loop.proofs.Walking.{all_inside}
use Rattle.sci_loop.proofs.walk.walk.Walk.found.Goals as goal

pub returns-clause-within : goal.returns-clause-within
returns-clause-within c = rw (← c.self.view_is) (all_inside c.self.inside.marks.items c.self.inside.found.items c.self.invariant)
