use Rattle.sci_cgen_blocks.proofs.Assigned.{body_within, next_within}
use Rattle.sci_cgen_blocks.proofs.laws.may_law.Goals as goal

pub returns : goal.returns
returns c = record { body = body_within; next = next_within }
