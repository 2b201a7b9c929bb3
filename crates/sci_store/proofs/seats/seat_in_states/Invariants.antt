use Rattle.sci_net.specs.Parts.{rows_of}
use Rattle.sci_store.specs.Seating.{begun}
use Rattle.sci_store.proofs.Seated.{IsSeatingTo}
use Rattle.sci_store.proofs.seats.seat_in_states.Given as goal

abbrev pub invariant-loop-block : goal.invariant-loop-block
invariant-loop-block g l =
    IsSeatingTo l.net (begun l.net (rows_of l.states)) l.block l.first_source l.seats.items l.lib
