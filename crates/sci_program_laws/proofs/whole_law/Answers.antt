use Rattle.sci_program_laws.proofs.Whole.{program_is_whole}
use Rattle.sci_program_laws.proofs.whole_law.Goals as goal

pub returns : goal.returns
returns c = program_is_whole
