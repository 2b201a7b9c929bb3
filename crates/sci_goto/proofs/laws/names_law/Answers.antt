use Rattle.sci_goto.proofs.Untagged.{names_law}
use Rattle.sci_goto.proofs.laws.names_law.Goals as goal

pub returns : goal.returns
returns c = names_law
