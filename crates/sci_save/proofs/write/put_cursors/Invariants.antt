use Rattle.std.proofs.Common.{drop, ◌+◌}
use Rattle.std.specs.Prelude.{codes}
use Rattle.sci_io.specs.Taken.{UnderWay}
use Rattle.sci_save.specs.Text.{rows_text, cursor_rows}
use Rattle.sci_save.proofs.write.put_cursors.Given as goal

-- the lines so far are handed on, and the others are due still
abbrev pub invariant-loop-block : goal.invariant-loop-block
invariant-loop-block g l =
    UnderWay (g.S.Sink.state l.fn.out) (g.S.Sink.state l.out) (rows_text (codes "cursor") 1 (cursor_rows l.net.specs l.cursors))
    (rows_text (codes "cursor") (l.block + 1) (cursor_rows (drop l.block l.net.specs) (drop l.block l.cursors)))
