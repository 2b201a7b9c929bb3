use Rattle.sci_infer.proofs.Alone.{one_answer}
use Rattle.sci_infer.proofs.one_answer.Goals as goal

pub returns : goal.returns
returns c = one_answer
