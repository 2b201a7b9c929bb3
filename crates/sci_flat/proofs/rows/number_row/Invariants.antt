use Rattle.sci_flat.specs.Sharing.{AreNumbers}
use Rattle.sci_flat.proofs.rows.number_row.Given as goal

abbrev pub invariant-loop-p : goal.invariant-loop-p
invariant-loop-p l = AreNumbers l.origins l.fn.seat l.p l.row.items
