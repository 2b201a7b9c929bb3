use Rattle.std.proofs.Common.{length}
use Rattle.sci_io.specs.Taken.{UnderWay}
use Rattle.sci_sched.specs.Plain.{row_of}
use Rattle.sci_sched.specs.Text.{entries_text}
use Rattle.sci_sched.proofs.write.put_entries.Given as goal

-- the lines so far are handed on, and those of the entries that are left are due still
abbrev pub invariant-loop-rest : goal.invariant-loop-rest
invariant-loop-rest g l = UnderWay (g.S.Sink.state l.fn.out) (g.S.Sink.state l.out) (entries_text (row_of l.row)) (entries_text (row_of l.rest))

abbrev pub decreases-loop-rest : goal.decreases-loop-rest
decreases-loop-rest g l = length l.rest
