use Rattle.sci_places.proofs.Outputs.{outputs_law}
use Rattle.sci_places.proofs.outputs_are_written.Goals as goal

pub returns : goal.returns
returns c = outputs_law
