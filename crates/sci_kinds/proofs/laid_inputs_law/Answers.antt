use Rattle.sci_kinds.proofs.LawProofs.{laid_inputs}
use Rattle.sci_kinds.proofs.laid_inputs_law.Goals as goal

pub returns : goal.returns
returns c = laid_inputs
