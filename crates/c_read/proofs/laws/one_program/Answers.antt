use Rattle.c_read.proofs.Uniqueness.{one_program}
use Rattle.c_read.proofs.laws.one_program.Goals as goal

pub returns : goal.returns
returns c = one_program
