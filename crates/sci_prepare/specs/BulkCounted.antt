-- What is counted of a bulk diagram.
use Rattle.std.specs.Prelude.{ℕ, Result, Ok, Err}
use Rattle.sci_base.specs.Stops.{StopsBy}
use Rattle.sci_base.specs.declared.stop.Stop.{Stop}
use Rattle.sci_answers.specs.declared.prepared.BulkCounts.{BulkCounts}
use Rattle.sci_answers.specs.Bulk.{IsBulkLine}
use Rattle.sci_answers.specs.Prepared.{counted_line}

-- what is counted, since no rule is broken; want of memory may come at any time
abbrev pub IsCounted : ℕ → ℕ → Result BulkCounts Stop → Type 0
IsCounted seed size (Ok c) = IsBulkLine seed size (counted_line c)
IsCounted seed size (Err e) = StopsBy (λ v. ⊥) e
