use Rattle.sci_cgen_laws.proofs.Placed.{program_has_places}
use Rattle.sci_cgen_laws.proofs.places_are_apart.Goals as goal

pub returns : goal.returns
returns c = program_has_places
