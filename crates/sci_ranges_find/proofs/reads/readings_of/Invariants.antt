use Rattle.sci_ranges_marks.specs.View.{marks_of}
use Rattle.sci_ranges_find.specs.Readings.{AreReadingsTo}
use Rattle.sci_ranges_find.proofs.reads.readings_of.Given as goal

abbrev pub invariant-loop-k : goal.invariant-loop-k
invariant-loop-k l = AreReadingsTo l.net (marks_of l.marks) l.block l.k l.readings.items
