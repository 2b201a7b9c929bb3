use Rattle.std.proofs.Common.{◌≡◌}
use Rattle.sci_ranges_marks.specs.View.{marks_of}
use Rattle.sci_ranges_find.specs.Live.{AreSound}
use Rattle.sci_ranges_find.proofs.Living.{off_count}
use Rattle.sci_ranges_find.proofs.live.mark_rest.Given as goal

abbrev pub invariant-loop-place : goal.invariant-loop-place
invariant-loop-place l = record {
  sound : AreSound l.net (marks_of l.marks);
  dead : (marks_of l.marks).dead ≡ (marks_of l.fn.marks).dead;
}

-- each turn marks one more
abbrev pub decreases-loop-place : goal.decreases-loop-place
decreases-loop-place l = off_count (marks_of l.marks).live
