use Rattle.sci_save.proofs.Short.{saved_is_short}
use Rattle.sci_save.proofs.is_short.Goals as goal

pub returns : goal.returns
returns c = saved_is_short
