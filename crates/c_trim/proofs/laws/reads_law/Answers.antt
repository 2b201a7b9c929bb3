use Rattle.c_trim.proofs.Runs.{reads_stay}
use Rattle.c_trim.proofs.laws.reads_law.Goals as goal

pub returns : goal.returns
returns c = reads_stay
