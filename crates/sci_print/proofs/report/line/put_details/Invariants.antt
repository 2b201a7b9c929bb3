use Rattle.std.proofs.Common.{drop}
use Rattle.sci_io.specs.Taken.{UnderWay}
use Rattle.sci_print.specs.Line.{details_text}
use Rattle.sci_print.proofs.report.line.put_details.Given as goal

-- the pieces so far are handed on, and the others are due still
abbrev pub invariant-loop-n : goal.invariant-loop-n
invariant-loop-n g l = UnderWay (g.S.Sink.state l.fn.err) (g.S.Sink.state l.err) (details_text l.ns) (details_text (drop l.n-index l.ns))
