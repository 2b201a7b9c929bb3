use Rattle.std.proofs.Common.{◌≡◌}
use Rattle.sci_ranges_marks.specs.View.{marks_of}
use Rattle.sci_ranges_find.proofs.finding.rounds.Given as goal

abbrev pub invariant-loop : goal.invariant-loop
invariant-loop l = (marks_of l.marks).rows ≡ (marks_of l.fn.marks).rows
