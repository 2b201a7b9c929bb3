use Rattle.sci_net.specs.Parts.{rows_of}
use Rattle.sci_ranges_rows.specs.Marks.{dead_of}
use Rattle.sci_ranges_marks.proofs.Marked.{AreActsTo}
use Rattle.sci_ranges_marks.proofs.marking.mark_row.Given as goal

abbrev pub invariant-loop-k : goal.invariant-loop-k
invariant-loop-k l = AreActsTo (dead_of (rows_of l.dead)) l.count l.row l.k l.acts.items
