use Rattle.sci_loop.specs.Progress.{SeenBelow}
use Rattle.sci_loop.proofs.search.open_need.Given as goal

abbrev pub invariant-loop-index : goal.invariant-loop-index
invariant-loop-index l = SeenBelow l.table.members.items l.settled l.needs l.index
