use Rattle.c_mean.proofs.Steps.{number_after, run_joined}
use Rattle.c_mean.proofs.joined_law.Goals as goal

pub returns : goal.returns
returns c env n a b w = (number_after a n, run_joined env a b n w)
