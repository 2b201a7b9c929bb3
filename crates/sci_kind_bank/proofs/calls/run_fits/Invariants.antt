use Rattle.std.proofs.Common.{ℕ, ◌+◌, ◌<◌}
use Rattle.sci_base.specs.Fit.{InRange}
use Rattle.sci_base.specs.Lists.{at}
use Rattle.sci_kind_bank.proofs.calls.run_fits.Given as goal

abbrev pub invariant-loop-i : goal.invariant-loop-i
invariant-loop-i l = (i : ℕ) → i < l.i → InRange l.t (at l.values (l.start + i))
