use Rattle.sci_check.proofs.CheckedLemmas.{checked_law}
use Rattle.sci_check.proofs.checked_law.Goals as goal

pub returns : goal.returns
returns c = checked_law
