use Rattle.c_mean.proofs.Frames.{block_leaves}
use Rattle.c_mean.proofs.leaves_law.Goals as goal

pub returns : goal.returns
returns c env may b calls within n w = block_leaves env may calls b within n w
