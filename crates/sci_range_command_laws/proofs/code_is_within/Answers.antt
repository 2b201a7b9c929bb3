use Rattle.sci_range_command_laws.proofs.Ranged.{code_is_within}
use Rattle.sci_range_command_laws.proofs.code_is_within.Goals as goal

pub returns : goal.returns
returns c = code_is_within
