use Rattle.std.proofs.Common.{◌∙◌}
use Rattle.sci_sim.proofs.Listed.{row_next}
use Rattle.sci_sim.proofs.image.held.Goals as goal

pub loop-block-preserved : goal.loop-block-preserved
loop-block-preserved c =
    row_next _ c.loop-block.block c.loop-block.held.items c.push.new.self.items c.in_ok-to_vec.field-0 (c.in_ok-to_vec.ensures.items_if_clones_equal (λ x y e. e) ∙ c.held.ensures) c.in_ok-push.ensures.items c.loop-block.invariant
