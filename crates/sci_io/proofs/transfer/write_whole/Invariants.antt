use Rattle.std.proofs.Common.{length}
use Rattle.sci_io.specs.Taken.{Advances}
use Rattle.sci_io.proofs.transfer.write_whole.Given as goal

-- the writer took what isn't left
abbrev pub invariant-loop-rest : goal.invariant-loop-rest
invariant-loop-rest g l = Advances (g.W.Write.contents l.fn.writer) (g.W.Write.contents l.writer) l.piece l.rest

abbrev pub decreases-loop-rest : goal.decreases-loop-rest
decreases-loop-rest g l = length l.rest
