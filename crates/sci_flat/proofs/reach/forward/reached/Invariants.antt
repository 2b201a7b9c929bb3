use Rattle.sci_flat.proofs.ReachReaching.{Reaching}
use Rattle.sci_flat.proofs.reach.forward.reached.Given as goal

abbrev pub invariant-loop-i : goal.invariant-loop-i
invariant-loop-i l = Reaching l.steps l.sources l.wanted l.search l.i
