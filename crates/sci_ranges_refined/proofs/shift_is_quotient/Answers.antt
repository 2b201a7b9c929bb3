use Rattle.sci_ranges_refined.proofs.Parts.{shift_is_quotient}
use Rattle.sci_ranges_refined.proofs.shift_is_quotient.Goals as goal

pub returns : goal.returns
returns c = shift_is_quotient
