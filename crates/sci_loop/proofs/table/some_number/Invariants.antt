use Rattle.std.proofs.Common.{ℕ, ◌≡◌, ◌<◌, get_or, length, Vec}
use Rattle.std.specs.declared.alloc.Global.{Global}
use Rattle.sci_loop.proofs.table.some_number.Given as goal

abbrev pub invariant-loop-i : goal.invariant-loop-i
invariant-loop-i l = (k : ℕ) (d : Vec ℕ Global) → k < l.i → length (get_or l.rows k d).items ≡ 0
