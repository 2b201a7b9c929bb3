use Rattle.sci_bank_logic.proofs.CountLemmas.{least_more}
use Rattle.std.proofs.Common.{arith}
use Rattle.sci_bank_logic.proofs.select.least_set.Goals as goal

pub loop-k-preserved : goal.loop-k-preserved
loop-k-preserved c = least_more c.args.mask c.args.n c.loop-k.k c.loop-k.rest c.loop-k.invariant (omega arith) c.if-rest-eq1.false
