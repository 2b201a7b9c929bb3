use Rattle.std.proofs.Common.{◌≡◌, true}
use Rattle.sci_ranges_rows.specs.Tests.{all_below, under_at}
use Rattle.sci_ranges_marks.specs.View.{marks_of}
use Rattle.sci_ranges_marks.proofs.marks.RowMarks.is_under.Given as goal

abbrev pub invariant-loop-k : goal.invariant-loop-k
invariant-loop-k l = all_below (λ k. under_at (marks_of l.self) l.branch k l.block) l.k ≡ true
