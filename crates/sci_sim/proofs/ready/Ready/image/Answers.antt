use Rattle.sci_sim.proofs.Restoring.{dates_small_in, image_in}
use Rattle.sci_sim.proofs.ready.Ready.image.Goals as goal

pub pending-requires : goal.pending-requires
pending-requires g c = let w = c.requires in dates_small_in _ c.args.self.now _ w.0 w.1 c.self.view_is w.2 w.3

pub returns-clause-image : goal.returns-clause-image
returns-clause-image g c st m at saved =
    image_in _ c.args.self.now _ st m c.self.view_is at saved c.well_formed-2.ensures.store c.in_ok-states.states.items c.in_ok-held.held.items c.in_ok-cursors.cursors.items c.in_ok-pending.pending.items
    c.in_ok-states.ensures c.in_ok-held.ensures c.in_ok-cursors.ensures c.in_ok-pending.ensures
