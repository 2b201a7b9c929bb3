use Rattle.sci_save.proofs.InRange.{saved_in_range}
use Rattle.sci_save.proofs.in_range.Goals as goal

pub returns : goal.returns
returns c n m net s = saved_in_range n m net s
