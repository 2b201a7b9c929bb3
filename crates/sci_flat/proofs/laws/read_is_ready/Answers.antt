use Rattle.sci_flat.proofs.Reading.{accepted_ready}
use Rattle.sci_flat.proofs.laws.read_is_ready.Goals as goal

pub returns : goal.returns
returns c = accepted_ready
