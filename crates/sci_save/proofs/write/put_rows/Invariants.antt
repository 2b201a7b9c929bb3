use Rattle.std.proofs.Common.{drop, ◌+◌}
use Rattle.sci_io.specs.Taken.{UnderWay}
use Rattle.sci_net.specs.Parts.{rows_of}
use Rattle.sci_save.specs.Text.{rows_text}
use Rattle.sci_save.proofs.write.put_rows.Given as goal

-- the lines so far are handed on, and the others are due still
abbrev pub invariant-loop-at : goal.invariant-loop-at
invariant-loop-at g l =
    UnderWay (g.S.Sink.state l.fn.out) (g.S.Sink.state l.out) (rows_text l.word 1 (rows_of l.rows)) (rows_text l.word (l.at + 1) (rows_of (drop l.at l.rows)))
