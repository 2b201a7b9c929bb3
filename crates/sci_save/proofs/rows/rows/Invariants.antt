use Rattle.std.proofs.Common.{◌≡◌, ◌+◌, drop}
use Rattle.sci_net.specs.Parts.{rows_of}
use Rattle.sci_trace.specs.Columns.{columns_view}
use Rattle.sci_save.specs.Reading.{rows_at}
use Rattle.sci_save.proofs.Loops.{front_rows}
use Rattle.sci_save.proofs.rows.rows.Given as goal

abbrev pub invariant-loop-block : goal.invariant-loop-block
invariant-loop-block l =
    front_rows (rows_of l.rows.items) (rows_at l.part (columns_view l.columns) (l.block + 1) (drop l.block l.net.specs) l.rest) ≡ rows_at l.part (columns_view l.columns) 1 l.net.specs l.bytes
