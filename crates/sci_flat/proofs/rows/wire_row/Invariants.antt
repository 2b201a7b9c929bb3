use Rattle.sci_flat.specs.Lists.{plain}
use Rattle.sci_flat.specs.Wired.{AreWires}
use Rattle.sci_flat.proofs.rows.wire_row.Given as goal

abbrev pub invariant-loop-k : goal.invariant-loop-k
invariant-loop-k l = AreWires l.feeds (plain l.lists) l.fn.seat l.k l.row.items
