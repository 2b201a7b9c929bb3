use Rattle.sci_command_laws.proofs.Generated.{code_is_never_undefined}
use Rattle.sci_command_laws.proofs.generated_code_is_never_undefined.Goals as goal

pub returns : goal.returns
returns c = code_is_never_undefined
