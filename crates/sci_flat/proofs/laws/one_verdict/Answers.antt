use Rattle.sci_flat.proofs.Verdicts.{verdict}
use Rattle.sci_flat.proofs.laws.one_verdict.Goals as goal

pub returns : goal.returns
returns c = verdict
