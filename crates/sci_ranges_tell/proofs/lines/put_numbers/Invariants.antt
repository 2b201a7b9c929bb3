use Rattle.std.proofs.Common.{drop}
use Rattle.sci_io.specs.Taken.{UnderWay}
use Rattle.sci_trace.specs.Lines.{numbers}
use Rattle.sci_ranges_tell.proofs.lines.put_numbers.Given as goal

-- the numbers so far are handed on, and the others are due still
abbrev pub invariant-loop-value : goal.invariant-loop-value
invariant-loop-value g l = UnderWay (g.S.Sink.state l.fn.out) (g.S.Sink.state l.out) (numbers l.values) (numbers (drop l.value-index l.values))
