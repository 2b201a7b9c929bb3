use Rattle.std.proofs.Common.{take}
use Rattle.sci_sched.specs.Outlines.{AddsBranches}
use Rattle.sci_sched.proofs.sizes.count_branches.Given as goal

abbrev pub invariant-loop-branch : goal.invariant-loop-branch
invariant-loop-branch l = AddsBranches (take l.branch-index l.branches) l.initial.counts l.counts
