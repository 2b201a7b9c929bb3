use Rattle.sci_net.specs.Parts.{spec_of}
use Rattle.sci_store.proofs.Seated.{IsSeatingTo}
use Rattle.sci_store.proofs.seats.seat_all.Given as goal

abbrev pub invariant-loop-block : goal.invariant-loop-block
invariant-loop-block g l =
    IsSeatingTo l.net (spec_of l.net) l.block l.first_source l.seats.items l.lib
