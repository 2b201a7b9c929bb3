use Rattle.sci_sched.proofs.Deep.{deepest_step}
use Rattle.sci_sched.proofs.depth.deepest.Goals as goal

pub loop-block-preserved : goal.loop-block-preserved
loop-block-preserved c =
    deepest_step c.args.depths.now c.args.blocks.now c.loop-block.block-index c.loop-block.deepest c.max-deepest.result c.loop-block-test.true c.loop-block.invariant c.max-deepest.ensures
