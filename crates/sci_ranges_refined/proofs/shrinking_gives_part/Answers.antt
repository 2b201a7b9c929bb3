use Rattle.sci_ranges_refined.proofs.Parts.{shrinking_gives_part}
use Rattle.sci_ranges_refined.proofs.shrinking_gives_part.Goals as goal

pub returns : goal.returns
returns c = shrinking_gives_part
