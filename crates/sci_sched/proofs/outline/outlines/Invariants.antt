use Rattle.std.proofs.Common.{◌≡◌, ◌+◌, length, vec_len}
use Rattle.sci_sched.specs.Outlines.{AreOutlines}
use Rattle.sci_sched.proofs.outline.outlines.Given as goal

abbrev pub invariant-loop-at : goal.invariant-loop-at
invariant-loop-at l = AreOutlines l.net l.at l.outlines.items × (l.walk.count ≡ length l.net.specs + 1) × (vec_len l.depths ≡ length l.net.specs + 1)
