use Rattle.sci_ranges_refined.proofs.Choosing.{comparison_is_known}
use Rattle.sci_ranges_refined.proofs.comparison_is_known.Goals as goal

pub returns : goal.returns
returns c = comparison_is_known
