use Rattle.std.proofs.Common.{◌≡◌}
use Rattle.sci_ranges_marks.specs.View.{marks_of}
use Rattle.sci_ranges_find.proofs.search.revive_taken.Given as goal

abbrev pub invariant-loop-p : goal.invariant-loop-p
invariant-loop-p l = (marks_of l.marks).rows ≡ (marks_of l.fn.marks).rows
