use Rattle.std.proofs.Common.{refl}
use Rattle.c_read.proofs.laws.spelling_is_read.Goals as goal

pub returns : goal.returns
returns c = λ p fits keeps. ((fits, refl), keeps)
