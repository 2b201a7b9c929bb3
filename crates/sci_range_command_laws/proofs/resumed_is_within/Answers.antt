use Rattle.sci_range_command_laws.proofs.Resuming.{resumed_is_within}
use Rattle.sci_range_command_laws.proofs.resumed_is_within.Goals as goal

pub returns : goal.returns
returns c = resumed_is_within
