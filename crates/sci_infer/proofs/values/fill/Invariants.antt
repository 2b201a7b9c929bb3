use Rattle.std.proofs.Common.{◌≡◌, ◌<◌, ℕ, length}
use Rattle.sci_infer.specs.Values.{IsLeast}
use Rattle.sci_infer.proofs.values.fill.Given as goal

abbrev pub invariant-loop-i : goal.invariant-loop-i
invariant-loop-i l = record { same_length : length l.values.items ≡ l.i; least : (k : ℕ) → k < l.i → IsLeast l.labels l.spans l.values.items k }
