use Rattle.sci_bank_logic.proofs.JoinLemmas.{ones_joined}
use Rattle.sci_bank_logic.proofs.logical_op.neutral.Goals as goal

pub returns-in-And : goal.returns-in-And
returns-in-And c = λ f. rw (c.in-And.is, c.ones.ensures) (ones_joined c.args.t f)
