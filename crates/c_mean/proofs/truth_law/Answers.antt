use Rattle.c_mean.proofs.Values.{lt_is, le_is, gt_is, ge_is, eq_is, ne_is, and_is, or_is, not_is, zero_is}
use Rattle.c_mean.proofs.truth_law.Goals as goal

pub returns : goal.returns
returns c = record { lt = lt_is; le = le_is; gt = gt_is; ge = ge_is; eq = eq_is; ne = ne_is; both = and_is; either = or_is; none = not_is; zero = zero_is }
