use Rattle.sci_sched.proofs.Measuring.{one_size}
use Rattle.sci_sched.proofs.measured.one_size.Goals as goal

pub returns : goal.returns
returns c = one_size
