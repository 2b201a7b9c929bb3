use Rattle.sci_ranges_refined.proofs.Choosing.{taken_has_number}
use Rattle.sci_ranges_refined.proofs.taken_has_number.Goals as goal

pub returns : goal.returns
returns c = taken_has_number
