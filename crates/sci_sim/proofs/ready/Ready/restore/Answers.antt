use Rattle.sci_save.specs.Saved.{saved_of}
use Rattle.sci_sim.proofs.Restoring.{restored_ready, restored_is}
use Rattle.sci_sim.proofs.ready.Ready.restore.Goals as goal

pub invariant_of-result : goal.invariant_of-result
invariant_of-result g c =
    let k = c.in_ok-kept.kept in
    restored_ready k.fixed c.in_ok-rows.rows.items k.store c.in_ok-wheel.wheel (saved_of c.args.image.now) c.well_formed-3.ensures.frame c.in_ok-kept.ensures.saved.untold.idle c.in_ok-rows.ensures

pub returns-clause-restored : goal.returns-clause-restored
returns-clause-restored g c =
    let k = c.in_ok-kept.kept in
    let is = c.in_ok-kept.ensures.saved in
    restored_is k.fixed c.in_ok-rows.rows.items k.store c.in_ok-wheel.wheel (saved_of c.args.image.now) c.well_formed-3.ensures.frame is.untold.idle c.args.n is.net _
    c.in_ok-kept.ensures.full c.well_formed-4.ensures is.seated c.requires.shaped is.held is.cursors is.untold.lines is.untold.sum c.deref.result.now c.deref.ensures.value c.in_ok-wheel.ensures
