use Rattle.std.proofs.Common.{◌+◌, drop}
use Rattle.sci_io.specs.Taken.{UnderWay}
use Rattle.sci_text.specs.Lines.{joined}
use Rattle.sci_vcd.specs.Spelling.{value_lines}
use Rattle.sci_vcd.proofs.put.put_values.Given as goal

abbrev pub invariant-loop-at : goal.invariant-loop-at
invariant-loop-at g l = UnderWay (g.S.Sink.state l.fn.out) (g.S.Sink.state l.out) (joined (value_lines l.signals 1 l.values)) (joined (value_lines l.signals (l.at + 1) (drop l.at l.values)))
