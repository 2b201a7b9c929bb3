use Rattle.sci_ranges_reads.proofs.Acting.{acts_too_is_active}
use Rattle.sci_ranges_reads.proofs.acts_too_is_active.Goals as goal

pub returns : goal.returns
returns c = acts_too_is_active
