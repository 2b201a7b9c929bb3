use Rattle.sci_net.specs.Parts.{rows_of}
use Rattle.sci_flat.specs.Sharing.{AllNumbers}
use Rattle.sci_flat.proofs.wires.number_rows.Given as goal

abbrev pub invariant-loop-seat : goal.invariant-loop-seat
invariant-loop-seat l = AllNumbers l.origins l.seats l.seat-index (rows_of l.rows.items)
