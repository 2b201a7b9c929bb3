use Rattle.std.proofs.Common.{take}
use Rattle.sci_sched.specs.Marks.{HaveFed}
use Rattle.sci_sched.proofs.marks.set_fed.Given as goal

abbrev pub invariant-loop-fed : goal.invariant-loop-fed
invariant-loop-fed l = HaveFed (take l.fed-index l.feeding) l.masks
