use Rattle.std.proofs.Common.{◌≡◌, ℕ, ◌<◌, length, get_or}
use Rattle.sci_infer.proofs.classes.alone.Given as goal

abbrev pub invariant-loop-i : goal.invariant-loop-i
invariant-loop-i l = record { same_length : length l.parents.items ≡ l.i; alone : (k : ℕ) → k < l.i → get_or l.parents.items k 0 ≡ k }
