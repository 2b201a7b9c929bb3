use Rattle.std.proofs.Common.{◌≡◌, None}
use Rattle.sci_ranges_pass.specs.Told.{first_of, leak_at}
use Rattle.sci_ranges_marks.specs.View.{marks_of}
use Rattle.sci_ranges_sums.proofs.leaking.find_leak.Given as goal

abbrev pub invariant-loop-l : goal.invariant-loop-l
invariant-loop-l l = first_of (leak_at l.net (marks_of l.marks) l.block) l.l ≡ None
