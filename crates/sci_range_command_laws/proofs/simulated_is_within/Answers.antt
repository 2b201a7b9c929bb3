use Rattle.sci_range_command_laws.proofs.Ranged.{simulated_is_within}
use Rattle.sci_range_command_laws.proofs.simulated_is_within.Goals as goal

pub returns : goal.returns
returns c = simulated_is_within
