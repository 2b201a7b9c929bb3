use Rattle.std.proofs.Common.{◌≡◌, true}
use Rattle.sci_ranges_rows.specs.Tests.{all_below}
use Rattle.sci_ranges_marks.specs.View.{marks_of}
use Rattle.sci_ranges_find.specs.View.{marked_place}
use Rattle.sci_ranges_find.proofs.pass.first_missing.Given as goal

abbrev pub invariant-loop-place : goal.invariant-loop-place
invariant-loop-place l = all_below (marked_place l.net (marks_of l.marks)) l.place ≡ true
