use Rattle.std.proofs.Common.{take}
use Rattle.sci_loop.specs.Lists.{plain}
use Rattle.sci_sched.specs.Marks.{LeavesOthers}
use Rattle.sci_sched.proofs.marks.empty.Given as goal

abbrev pub invariant-loop-block : goal.invariant-loop-block
invariant-loop-block l = LeavesOthers (take l.block-index l.blocks) (plain l.initial.conditions) (plain l.conditions)
