use Rattle.sci_loop.specs.Lists.{plain}
use Rattle.sci_dep.specs.Building.{NeedsTo}
use Rattle.sci_dep.proofs.table.needs.Given as goal

abbrev pub invariant-loop-member : goal.invariant-loop-member
invariant-loop-member l = NeedsTo l.waits l.walk.found l.members l.member-index (plain l.needs.items)
