use Rattle.std.proofs.Common.{◌≡◌}
use Rattle.sci_ranges_rows.specs.Tests.{masks_below}
use Rattle.sci_ranges_marks.specs.View.{marks_of}
use Rattle.sci_ranges_marks.proofs.marks.RowMarks.masks_of.Given as goal

abbrev pub invariant-loop-k : goal.invariant-loop-k
invariant-loop-k l = l.all.items ≡ masks_below (marks_of l.self) l.block l.k
