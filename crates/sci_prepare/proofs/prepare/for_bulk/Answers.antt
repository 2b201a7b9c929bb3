use Rattle.sci_prepare.proofs.Bulked.{counted_looks, lacks_looks}
use Rattle.sci_prepare.proofs.prepare.for_bulk.Goals as goal

pub returns-in-Ok-clause-looks : goal.returns-in-Ok-clause-looks
returns-in-Ok-clause-looks g c = λ s. counted_looks c.args.seed c.args.size s _ c.in-Ok.counts c.in-Ok.ensures.counted c.in-Ok.ensures.counts_run

pub returns-in-Err-Refused-clause-looks : goal.returns-in-Err-Refused-clause-looks
returns-in-Err-Refused-clause-looks g c =
    let none = rw c.in-Err-Refused.field-0-is at c.in-Err-Refused.ensures.counted in
    absurd none

pub returns-in-Err-Memory-clause-looks : goal.returns-in-Err-Memory-clause-looks
returns-in-Err-Memory-clause-looks g c = λ s. lacks_looks c.args.seed c.args.size s _
