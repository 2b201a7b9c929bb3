use Rattle.std.proofs.Common.{◌-◌}
use Rattle.sci_loop.specs.Lists.{plain}
use Rattle.sci_loop.specs.Walk.{Walking}
use Rattle.sci_loop.proofs.walk.walk.Walk.walk.Given as goal

abbrev pub invariant-loop-at : goal.invariant-loop-at
invariant-loop-at l = Walking (plain l.successors) l.starts l.fn.self.count l.at l.self

abbrev pub decreases-loop-at : goal.decreases-loop-at
decreases-loop-at l = l.fn.self.count - l.at
