use Rattle.sci_sched.specs.Outlines.{CountsTo}
use Rattle.sci_sched.proofs.sizes.guard_counts.Given as goal

abbrev pub invariant-loop-at : goal.invariant-loop-at
invariant-loop-at l = CountsTo l.reach l.at l.counts.items
