use Rattle.std.proofs.Common.{◌≡◌, true}
use Rattle.sci_ranges_rows.specs.Tests.{all_below, along_at}
use Rattle.sci_ranges_marks.specs.View.{marks_of}
use Rattle.sci_ranges_marks.proofs.marks.RowMarks.is_along.Given as goal

abbrev pub invariant-loop-k : goal.invariant-loop-k
invariant-loop-k l = all_below (λ k. along_at (marks_of l.self) k l.other l.block) l.k ≡ true
