use Rattle.sci_ranges_refined.proofs.Going.{goes_between}
use Rattle.sci_ranges_refined.proofs.goes_between.Goals as goal

pub returns : goal.returns
returns c = goes_between
