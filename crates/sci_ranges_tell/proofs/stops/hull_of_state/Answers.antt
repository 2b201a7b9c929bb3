use Rattle.sci_ranges_tell.proofs.Pieces.{hull-next}
use Rattle.sci_ranges_tell.proofs.stops.hull_of_state.Goals as goal

pub loop-k-preserved : goal.loop-k-preserved
loop-k-preserved c = hull-next c.args.state.now c.loop-k.k c.loop-k.all c.state_range.result c.hull-all.result c.loop-k.invariant c.state_range.ensures c.hull-all.ensures
