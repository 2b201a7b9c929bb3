use Rattle.std.proofs.Common.{arith}
use Rattle.sci_sched.specs.Plain.{rows_of}
use Rattle.sci_deliver.proofs.Silent.{counts_some, schedule_some, map_some}
use Rattle.sci_deliver.proofs.deliver.is_silent.Goals as goal

pub returns-in-Check-clause-loud : goal.returns-in-Check-clause-loud
returns-in-Check-clause-loud c = λ _. rw c.in-Check.is (counts_some _ _ _ _)

pub returns-in-Map-clause-loud : goal.returns-in-Map-clause-loud
returns-in-Map-clause-loud c = λ not. rw c.in-Map.is (map_some c.in-Map.net (λ none. grind (arith, not, none, c.len.ensures)))

pub returns-in-Schedule-clause-loud : goal.returns-in-Schedule-clause-loud
returns-in-Schedule-clause-loud c =
    let enough = rw c.in-Schedule.is at c.requires in
    λ _. rw c.in-Schedule.is (schedule_some c.in-Schedule.field-0.net (rows_of c.in-Schedule.field-0.schedule) enough)
