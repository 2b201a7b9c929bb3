use Rattle.sci_ranges_refined.proofs.Parts.{part_of_part}
use Rattle.sci_ranges_refined.proofs.part_of_part.Goals as goal

pub returns : goal.returns
returns c = part_of_part
