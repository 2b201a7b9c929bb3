use Rattle.std.proofs.Common.{ℕ, ◌<◌, get_or, Contains}
use Rattle.sci_loop.proofs.table.all_members.Given as goal

abbrev pub invariant-loop-i : goal.invariant-loop-i
invariant-loop-i l = (k : ℕ) → k < l.i → Contains l.members (get_or l.numbers k 0)
