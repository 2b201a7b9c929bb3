use Rattle.sci_command_laws.proofs.RunsAlike.{code_is_defined}
use Rattle.sci_command_laws.proofs.code_is_defined.Goals as goal

pub returns : goal.returns
returns c = code_is_defined
