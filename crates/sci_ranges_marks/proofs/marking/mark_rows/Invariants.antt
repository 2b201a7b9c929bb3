use Rattle.std.proofs.Common.{◌≡◌, length, map, take}
use Rattle.sci_net.specs.Parts.{rows_of}
use Rattle.sci_ranges_rows.specs.Marks.{dead_of, acts_in}
use Rattle.sci_ranges_marks.specs.View.{row_of}
use Rattle.sci_ranges_marks.proofs.marking.mark_rows.Given as goal

abbrev pub invariant-loop-k : goal.invariant-loop-k
invariant-loop-k l = rows_of l.acts.items ≡ map (acts_in (dead_of (rows_of l.dead)) (length l.net.specs)) (map row_of (take l.k l.rows))
