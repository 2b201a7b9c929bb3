use Rattle.std.proofs.Common.{◌≡◌, true}
use Rattle.sci_net.specs.Sources.{source_of}
use Rattle.sci_ranges_rows.specs.Tests.{all_below}
use Rattle.sci_ranges_marks.specs.View.{marks_of}
use Rattle.sci_ranges_pass.specs.Pass.{marks_programmed}
use Rattle.sci_ranges_find.proofs.pass.marks_by_all.Given as goal

abbrev pub invariant-loop-by : goal.invariant-loop-by
invariant-loop-by l = all_below (λ k. marks_programmed l.net (marks_of l.marks) k l.place (source_of l.net l.place)) l.by ≡ true
