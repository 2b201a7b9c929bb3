use Rattle.sci_places.proofs.Inputs.{inputs_law}
use Rattle.sci_places.proofs.inputs_are_gathered.Goals as goal

pub returns : goal.returns
returns c = inputs_law
