use Rattle.std.proofs.Common.{◌≡◌}
use Rattle.sci_base.specs.Lists.{at}
use Rattle.sci_kinds.specs.Table.{row_to}
use Rattle.sci_bank_logic.proofs.logic.row.Given as goal

abbrev pub invariant-loop-k : goal.invariant-loop-k
invariant-loop-k l = l.row ≡ row_to (at l.ins) l.k
