use Rattle.c_read.proofs.Uniqueness.{one_spelled, one_blamed, not_both}
use Rattle.c_read.proofs.laws.one_answer.Goals as goal

pub returns-clause-program : goal.returns-clause-program
returns-clause-program c = λ bytes p q a b. one_spelled bytes p q a.0 b.0

pub returns-clause-byte : goal.returns-clause-byte
returns-clause-byte c = one_blamed

pub returns-clause-either : goal.returns-clause-either
returns-clause-either c = not_both
