use Rattle.sci_ranges_refined.proofs.Adding.{sum_is_fitted}
use Rattle.sci_ranges_refined.proofs.sum_is_fitted.Goals as goal

pub returns : goal.returns
returns c = sum_is_fitted
