use Rattle.sci_net.specs.Parts.{rows_of}
use Rattle.sci_ranges_find.specs.Widest.{AreWholeShowsTo}
use Rattle.sci_ranges_find.proofs.widest.whole_shows.Given as goal

abbrev pub invariant-loop-block : goal.invariant-loop-block
invariant-loop-block l = AreWholeShowsTo l.net l.block (rows_of l.shows.items)
