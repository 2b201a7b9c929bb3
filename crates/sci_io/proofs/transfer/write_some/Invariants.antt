use Rattle.std.specs.Io.KnownBytes.{Keeps}
use Rattle.sci_io.proofs.transfer.write_some.Given as goal

-- interrupted writes gave nothing
abbrev pub invariant-loop-turn : goal.invariant-loop-turn
invariant-loop-turn g l = Keeps (g.W.Write.contents l.fn.writer) (g.W.Write.contents l.writer)
