use Rattle.std.proofs.Common.{◌+◌}
use Rattle.sci_reaction.specs.Kept.{entries_of}
use Rattle.sci_reaction.specs.Schedule.{blocks_of}
use Rattle.sci_ranges_marks.proofs.Placed.{ArePlacesTo}
use Rattle.sci_ranges_marks.proofs.indexed_row.IndexedRow.of.Given as goal

abbrev pub invariant-loop-k : goal.invariant-loop-k
invariant-loop-k l = ArePlacesTo (blocks_of (entries_of l.entries.items)) l.k (l.count + 1) l.places.items
