use Rattle.std.proofs.Common.{◌≡◌, true, not}
use Rattle.sci_ranges_rows.specs.Marks.{may_act}
use Rattle.sci_ranges_rows.specs.Tests.{all_below}
use Rattle.sci_ranges_marks.specs.View.{marks_of}
use Rattle.sci_ranges_find.proofs.pass.is_possible.Given as goal

abbrev pub invariant-loop-k : goal.invariant-loop-k
invariant-loop-k l = all_below (λ k. not (may_act (marks_of l.marks) k l.block)) l.k ≡ true
