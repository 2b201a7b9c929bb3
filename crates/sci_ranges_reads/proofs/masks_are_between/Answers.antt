use Rattle.sci_ranges_reads.proofs.Acting.{masks_are_between}
use Rattle.sci_ranges_reads.proofs.masks_are_between.Goals as goal

pub returns : goal.returns
returns c = masks_are_between
