use Rattle.sci_loop.specs.Lists.{plain}
use Rattle.sci_dep.specs.Building.{WaitsTo}
use Rattle.sci_dep.proofs.waiting.made.Given as goal

abbrev pub invariant-loop-at : goal.invariant-loop-at
invariant-loop-at l = WaitsTo l.net l.at (plain l.lists.items)
