use Rattle.sci_store.proofs.Seated.{AreResetTo}
use Rattle.sci_store.proofs.seats.reset_all.Given as goal

abbrev pub invariant-loop-number : goal.invariant-loop-number
invariant-loop-number g l = AreResetTo l.number l.lib
