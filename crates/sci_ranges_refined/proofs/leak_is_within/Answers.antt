use Rattle.sci_ranges_refined.proofs.Leaking.{leak_is_within}
use Rattle.sci_ranges_refined.proofs.leak_is_within.Goals as goal

pub returns : goal.returns
returns c = leak_is_within
