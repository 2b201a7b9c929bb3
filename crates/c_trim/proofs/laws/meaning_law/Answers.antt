use Rattle.c_trim.proofs.Runs.{meaning_stays}
use Rattle.c_trim.proofs.laws.meaning_law.Goals as goal

pub returns : goal.returns
returns c = meaning_stays
