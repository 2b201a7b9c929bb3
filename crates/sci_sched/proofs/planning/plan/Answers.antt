use Rattle.std.proofs.Common.{refl}
use Rattle.sci_sched.proofs.Planned.{planned}
use Rattle.sci_sched.proofs.planning.plan.Goals as goal

pub returns-clause-ok : goal.returns-clause-ok
returns-clause-ok c =
    let found = c.in_ok-found.ensures.ok in
    planned c.args.net.now c.well_formed-2.ensures c.in_ok-found.found.outlines.items found.outlines _ _ refl found.short c.in_ok-rows.ensures
