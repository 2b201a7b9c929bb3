use Rattle.sci_cgen_laws.proofs.Places.{program_has_texts}
use Rattle.sci_cgen_laws.proofs.bodies_are_texts.Goals as goal

pub returns : goal.returns
returns c = program_has_texts
