use Rattle.sci_sched.specs.Depths.{DepthsTo}
use Rattle.sci_sched.proofs.depth.set_depths.Given as goal

abbrev pub invariant-loop-block : goal.invariant-loop-block
invariant-loop-block l = DepthsTo l.table l.order l.block-index l.depths
