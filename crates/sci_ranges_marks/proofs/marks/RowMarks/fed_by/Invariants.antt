use Rattle.std.proofs.Common.{◌≡◌, drop}
use Rattle.sci_reaction.specs.Kept.{guards_of}
use Rattle.sci_ranges_rows.specs.Tests.{fed_by}
use Rattle.sci_ranges_marks.specs.View.{marks_of}
use Rattle.sci_ranges_marks.proofs.marks.RowMarks.fed_by.Given as goal

abbrev pub invariant-loop-g : goal.invariant-loop-g
invariant-loop-g l = l.fed ≡ fed_by (marks_of l.self) l.k (guards_of (drop l.g l.guards))
