use Rattle.sci_ranges_refined.proofs.Choosing.{sum_of_is_within}
use Rattle.sci_ranges_refined.proofs.sum_of_is_within.Goals as goal

pub returns : goal.returns
returns c = sum_of_is_within
