use Rattle.std.proofs.Common.{ℕ, ◌≡◌, ◌<◌, get_or, length}
use Rattle.sci_loop.proofs.table.places_by_number.Given as goal

abbrev pub invariant-loop-place : goal.invariant-loop-place
invariant-loop-place l = record {
  within : (k : ℕ) → k < length l.members → get_or l.members k 0 < length l.places.items;
  listed : (k : ℕ) → k < l.place → get_or l.places.items (get_or l.members k 0) 0 ≡ k;
}
