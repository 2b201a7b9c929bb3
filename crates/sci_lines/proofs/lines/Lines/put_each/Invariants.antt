use Rattle.std.proofs.Common.{◌+◌, ◌≤◌, length, drop}
use Rattle.sci_io.specs.Taken.{UnderWay}
use Rattle.sci_lines.specs.Lines.{value_lines}
use Rattle.sci_lines.specs.Paged.{paged}
use Rattle.sci_lines.proofs.Paging.{WaitSoFar}
use Rattle.sci_lines.proofs.lines.Lines.put_each.Given as goal

-- the lines of the values so far are written; where there is room for all, they wait
abbrev pub invariant-loop-at : goal.invariant-loop-at
invariant-loop-at g l = record {
  due : UnderWay (paged (g.S.Sink.state l.initial.out) l.initial.self) (paged (g.S.Sink.state l.out) l.self) (value_lines l.heads l.values)
      (value_lines (drop l.at l.heads) (drop l.at l.values));
  waits : length l.initial.self + length (value_lines l.heads l.values) ≤ 4050
      → WaitSoFar (g.S.Sink.state l.initial.out) (g.S.Sink.state l.out) l.initial.self l.self (value_lines l.heads l.values) (value_lines (drop l.at l.heads) (drop l.at l.values));
}
