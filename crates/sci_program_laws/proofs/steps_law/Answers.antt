use Rattle.sci_program_laws.proofs.Run.{program_can_step}
use Rattle.sci_program_laws.proofs.steps_law.Goals as goal

pub returns : goal.returns
returns c = program_can_step
