use Rattle.sci_range_command_laws.proofs.Refusing.{refuses_alike}
use Rattle.sci_range_command_laws.proofs.refuses_alike.Goals as goal

pub returns : goal.returns
returns c = refuses_alike
