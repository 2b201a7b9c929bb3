use Rattle.sci_kinds.proofs.LawProofs.{fed_inputs}
use Rattle.sci_kinds.proofs.fed_inputs_law.Goals as goal

pub returns : goal.returns
returns c = fed_inputs
