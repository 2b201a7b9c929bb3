use Rattle.c_trim.proofs.Runs.{turns_stay}
use Rattle.c_trim.proofs.laws.turns_law.Goals as goal

pub returns : goal.returns
returns c = turns_stay
