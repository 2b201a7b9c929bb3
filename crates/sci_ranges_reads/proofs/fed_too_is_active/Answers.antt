use Rattle.sci_ranges_reads.proofs.Acting.{fed_too_is_active}
use Rattle.sci_ranges_reads.proofs.fed_too_is_active.Goals as goal

pub returns : goal.returns
returns c = fed_too_is_active
