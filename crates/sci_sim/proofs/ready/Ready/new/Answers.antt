use Rattle.sci_sim.proofs.Starting.{ready_is, start_is}
use Rattle.sci_sim.proofs.ready.Ready.new.Goals as goal

pub invariant_of-result : goal.invariant_of-result
invariant_of-result g c =
    let k = c.in_ok-kept.kept in
    ready_is k.fixed c.in_ok-rows.rows.items k.store c.program_first.new.agenda c.well_formed-2.ensures.frame c.in_ok-kept.ensures.untold.idle c.in_ok-rows.ensures

pub returns-clause-start : goal.returns-clause-start
returns-clause-start g c =
    let k = c.in_ok-kept.kept in
    let is = c.in_ok-kept.ensures in
    start_is k.fixed c.in_ok-rows.rows.items k.store c.program_first.new.agenda c.well_formed-2.ensures.frame is.untold.idle c.args.n is.net _ is.full c.well_formed-3.ensures
    is.seated is.first.held is.first.cursors is.untold.lines is.untold.sum c.program_first.ensures
