use Rattle.std.proofs.Common.{drop}
use Rattle.sci_io.specs.Taken.{UnderWay}
use Rattle.sci_print.specs.Line.{steps_text}
use Rattle.sci_print.proofs.report.line.put_steps.Given as goal

-- the pieces so far are handed on, and the others are due still
abbrev pub invariant-loop-p : goal.invariant-loop-p
invariant-loop-p g l = UnderWay (g.S.Sink.state l.fn.err) (g.S.Sink.state l.err) (steps_text l.ps) (steps_text (drop l.p-index l.ps))
