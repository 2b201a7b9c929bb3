use Rattle.sci_places.proofs.Laid.{LaidTo}
use Rattle.sci_places.proofs.places.Places.new.Given as goal

abbrev pub invariant-loop-block : goal.invariant-loop-block
invariant-loop-block l = LaidTo l.net l.block l.blocks.items l.longest
