use Rattle.std.proofs.Common.{length, ◌+◌, ◌-◌}
use Rattle.sci_io.specs.Taken.{UnderWay}
use Rattle.sci_ranges_text.specs.Text.{idle_text, idle_line, of_each}
use Rattle.sci_ranges_pass.specs.Pass.{is_possible}
use Rattle.sci_ranges_marks.specs.View.{marks_of}
use Rattle.sci_ranges_tell.proofs.table.put_idles.Given as goal

-- the blocks so far are handed on, and the others are due still
abbrev pub invariant-loop-at : goal.invariant-loop-at
invariant-loop-at g l = UnderWay (g.S.Sink.state l.fn.out) (g.S.Sink.state l.out) (idle_text l.net (is_possible (marks_of l.marks))) (of_each (idle_line (is_possible (marks_of l.marks))) (l.at + 1) (length l.net.specs - l.at))
