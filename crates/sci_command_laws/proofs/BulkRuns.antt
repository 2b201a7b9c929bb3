-- The run of a bulk diagram ends by the bound on events.
use Rattle.std.proofs.Common.{◌≤◌, [], arith}
use Rattle.sci_bulk.proofs.Accepting.{bulk_ends_by_events}
use Rattle.sci_command_laws.specs.BulkRuns.{BulkEndsByEvents}

pub by_events : BulkEndsByEvents
by_events seed size line least most is =
    let given = is.accepted.given in
    let few : 1000 ≤ 1000000 = omega arith in
    let ends = bulk_ends_by_events seed size given.declared is.plan.net [] 1000 is.observed least most few given.flat given.inferred is.run in
    record { seen = ends.0; all = ends.1 }
