use Rattle.std.proofs.Common.{◌≡◌, ◌+◌, true}
use Rattle.sci_ranges_rows.specs.Tests.{all_below}
use Rattle.sci_ranges_marks.specs.View.{marks_of}
use Rattle.sci_ranges_pass.specs.Pass.{holds_block}
use Rattle.sci_ranges_find.specs.View.{ranges_of}
use Rattle.sci_ranges_find.proofs.pass.is_closed.Given as goal

abbrev pub invariant-loop-at : goal.invariant-loop-at
invariant-loop-at l = all_below (λ b. holds_block l.net l.inputs (marks_of l.marks) (ranges_of l.table) (b + 1)) l.at ≡ true
