use Rattle.std.proofs.Common.{take}
use Rattle.sci_sched.specs.Depths.{IsDeepest}
use Rattle.sci_sched.proofs.depth.deepest.Given as goal

abbrev pub invariant-loop-block : goal.invariant-loop-block
invariant-loop-block l = IsDeepest l.depths (take l.block-index l.blocks) l.deepest
