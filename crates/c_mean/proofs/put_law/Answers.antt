use Rattle.c_mean.proofs.Memory.{put_puts}
use Rattle.c_mean.proofs.put_law.Goals as goal

pub returns : goal.returns
returns c w x i v h = put_puts w x i v h
