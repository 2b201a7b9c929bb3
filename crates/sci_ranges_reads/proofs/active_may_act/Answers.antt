use Rattle.sci_ranges_reads.proofs.Acting.{active_may_act}
use Rattle.sci_ranges_reads.proofs.active_may_act.Goals as goal

pub returns : goal.returns
returns c = active_may_act
