use Rattle.sci_pass.proofs.Stays.{applied_is_done}
use Rattle.sci_pass.proofs.applied_is_done.Goals as goal

pub returns : goal.returns
returns c n m i s done w b front on = applied_is_done n m i s done w b front on
