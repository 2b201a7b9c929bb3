use Rattle.sci_answers.proofs.Coded.{defined_code_is_due}
use Rattle.sci_command_laws.proofs.defined_code_is_due.Goals as goal

pub returns : goal.returns
returns c = defined_code_is_due
