use Rattle.c_trim.proofs.Whole.{whole_stays}
use Rattle.c_trim.proofs.laws.whole_law.Goals as goal

pub returns : goal.returns
returns c = whole_stays
