use Rattle.sci_goto.proofs.Untagged.{untagged_law}
use Rattle.sci_goto.proofs.laws.untagged_law.Goals as goal

pub returns : goal.returns
returns c = untagged_law
