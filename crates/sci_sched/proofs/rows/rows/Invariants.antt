use Rattle.std.proofs.Common.{◌+◌, length}
use Rattle.sci_sched.specs.Plain.{lists_of}
use Rattle.sci_sched.specs.Rows.{AreRows}
use Rattle.sci_sched.specs.Marks.{AreSized, AreClear}
use Rattle.sci_sched.proofs.rows.rows.Given as goal

abbrev pub invariant-loop-at : goal.invariant-loop-at
invariant-loop-at l = AreRows l.net l.at (lists_of l.rows.items) × AreSized (length l.net.specs + 1) l.marks × AreClear l.marks
