use Rattle.sci_ranges_reads.proofs.Acting.{programmed_is_live}
use Rattle.sci_ranges_reads.proofs.programmed_is_live.Goals as goal

pub returns : goal.returns
returns c = programmed_is_live
