use Rattle.std.proofs.Common.{drop}
use Rattle.sci_io.specs.Taken.{UnderWay, joined}
use Rattle.sci_io.proofs.pieces.put_all.Given as goal

-- the pieces so far are handed on, and the others are due still
abbrev pub invariant-loop-piece : goal.invariant-loop-piece
invariant-loop-piece g l = UnderWay (g.S.Sink.state l.fn.out) (g.S.Sink.state l.out) (joined l.pieces) (joined (drop l.piece-index l.pieces))
