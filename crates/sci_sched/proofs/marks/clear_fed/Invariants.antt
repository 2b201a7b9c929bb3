use Rattle.sci_sched.specs.Marks.{ClearedTo}
use Rattle.sci_sched.proofs.marks.clear_fed.Given as goal

abbrev pub invariant-loop-fed : goal.invariant-loop-fed
invariant-loop-fed l = ClearedTo l.feeding l.fed-index l.masks
