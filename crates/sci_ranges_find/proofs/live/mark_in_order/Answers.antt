use Rattle.std.proofs.Common.{◌∙◌}
use Rattle.sci_ranges_find.proofs.live.mark_in_order.Goals as goal

pub loop-place-preserved : goal.loop-place-preserved
loop-place-preserved c = record { sound = c.mark_missing.ensures.sound; dead = c.mark_missing.ensures.dead ∙ c.loop-place.invariant.dead }
