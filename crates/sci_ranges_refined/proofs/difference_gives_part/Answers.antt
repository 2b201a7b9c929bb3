use Rattle.sci_ranges_refined.proofs.Parts.{difference_gives_part}
use Rattle.sci_ranges_refined.proofs.difference_gives_part.Goals as goal

pub returns : goal.returns
returns c = difference_gives_part
