use Rattle.std.proofs.Common.{ℕ, ◌<◌, get_or, Vec}
use Rattle.std.specs.declared.alloc.Global.{Global}
use Rattle.sci_loop.specs.Table.{IsRow}
use Rattle.sci_loop.proofs.table.rows_fit.Given as goal

abbrev pub invariant-loop-i : goal.invariant-loop-i
invariant-loop-i l = (k : ℕ) (d : Vec ℕ Global) → k < l.i → IsRow l.members (get_or l.rows k d)
