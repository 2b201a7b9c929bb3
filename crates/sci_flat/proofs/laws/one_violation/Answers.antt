use Rattle.sci_flat.proofs.Verdicts.{violation}
use Rattle.sci_flat.proofs.laws.one_violation.Goals as goal

pub returns : goal.returns
returns c = violation
