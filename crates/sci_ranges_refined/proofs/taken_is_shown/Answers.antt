use Rattle.sci_ranges_refined.proofs.Choosing.{taken_is_shown}
use Rattle.sci_ranges_refined.proofs.taken_is_shown.Goals as goal

pub returns : goal.returns
returns c = taken_is_shown
