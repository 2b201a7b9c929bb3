use Rattle.sci_flat.specs.PortNumbers.{no_seat}
use Rattle.sci_flat.proofs.ends.Ends.of.Goals as goal

pub add-requires : goal.add-requires
add-requires c = c.requires.inside c.loop-seat.seat-index (no_seat 0) c.loop-seat-test.true
