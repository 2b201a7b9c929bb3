use Rattle.sci_agree.proofs.Verdicts.{one_verdict}
use Rattle.sci_agree.proofs.one_verdict.Goals as goal

pub returns : goal.returns
returns c = one_verdict
