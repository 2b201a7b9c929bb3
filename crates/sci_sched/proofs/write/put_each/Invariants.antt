use Rattle.std.proofs.Common.{drop}
use Rattle.sci_io.specs.Taken.{UnderWay}
use Rattle.sci_sched.specs.Plain.{row_of}
use Rattle.sci_sched.specs.Text.{entries_text}
use Rattle.sci_sched.proofs.write.put_each.Given as goal

-- the pieces so far are handed on, and the others are due still
abbrev pub invariant-loop-entry : goal.invariant-loop-entry
invariant-loop-entry g l = UnderWay (g.S.Sink.state l.fn.out) (g.S.Sink.state l.out) (entries_text (row_of l.entries)) (entries_text (row_of (drop l.entry-index l.entries)))
