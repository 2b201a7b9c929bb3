use Rattle.c_mean.proofs.Values.{value_stays}
use Rattle.c_mean.proofs.value_stays.Goals as goal

pub returns : goal.returns
returns c names e w w' h same = value_stays names e w w' h same
