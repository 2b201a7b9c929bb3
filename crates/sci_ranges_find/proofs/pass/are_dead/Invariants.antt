use Rattle.std.proofs.Common.{◌≡◌, true}
use Rattle.sci_ranges_rows.specs.Tests.{all_below}
use Rattle.sci_ranges_marks.specs.View.{marks_of}
use Rattle.sci_ranges_find.specs.View.{untaken_on}
use Rattle.sci_ranges_find.proofs.pass.are_dead.Given as goal

abbrev pub invariant-loop-p : goal.invariant-loop-p
invariant-loop-p l = all_below (untaken_on l.net (marks_of l.marks) l.block l.read) l.p ≡ true
