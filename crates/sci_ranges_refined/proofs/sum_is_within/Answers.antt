use Rattle.sci_ranges_refined.proofs.Adding.{sum_is_within}
use Rattle.sci_ranges_refined.proofs.sum_is_within.Goals as goal

pub returns : goal.returns
returns c = sum_is_within
