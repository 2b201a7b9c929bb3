use Rattle.c_mean.proofs.Loops.{count_is}
use Rattle.c_mean.proofs.count_law.Goals as goal

pub returns : goal.returns
returns c n x w i is small = count_is n x w i is small
