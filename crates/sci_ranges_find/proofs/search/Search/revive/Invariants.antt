use Rattle.std.proofs.Common.{◌≡◌}
use Rattle.sci_ranges_marks.specs.View.{marks_of}
use Rattle.sci_ranges_find.proofs.search.Search.revive.Given as goal

abbrev pub invariant-loop-at : goal.invariant-loop-at
invariant-loop-at l = (marks_of l.marks).rows ≡ (marks_of l.fn.marks).rows
