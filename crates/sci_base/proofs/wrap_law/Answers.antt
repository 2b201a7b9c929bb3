use Rattle.sci_base.proofs.FitLemmas.{wrap_law}
use Rattle.sci_base.proofs.wrap_law.Goals as goal

pub returns : goal.returns
returns c = wrap_law
