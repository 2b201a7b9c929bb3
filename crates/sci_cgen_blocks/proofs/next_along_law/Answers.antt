use Rattle.sci_cgen_blocks.proofs.NextStates.{next_along_law}
use Rattle.sci_cgen_blocks.proofs.next_along_law.Goals as goal

pub returns : goal.returns
returns c = next_along_law
