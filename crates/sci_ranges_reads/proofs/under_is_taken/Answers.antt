use Rattle.sci_ranges_reads.proofs.Acting.{under_is_taken}
use Rattle.sci_ranges_reads.proofs.under_is_taken.Goals as goal

pub returns : goal.returns
returns c = under_is_taken
