use Rattle.std.proofs.Common.{take}
use Rattle.sci_loop.proofs.Walking.{AreTaken}
use Rattle.sci_loop.proofs.walk.walk.unmark.Given as goal

abbrev pub invariant-loop-number : goal.invariant-loop-number
invariant-loop-number l = AreTaken (take l.number-index l.numbers) l.fn.marks l.marks
