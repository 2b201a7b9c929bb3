use Rattle.sci_ranges_marks.specs.Branches.{AreFewBranches}
use Rattle.sci_ranges_find.proofs.live.dead_branches.Given as goal

abbrev pub invariant-loop-block : goal.invariant-loop-block
invariant-loop-block l = AreFewBranches l.dead.items
