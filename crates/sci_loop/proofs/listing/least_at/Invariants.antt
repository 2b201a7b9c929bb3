use Rattle.std.proofs.Common.{ℕ, ◌<◌, ◌≤◌, length, get_or}
use Rattle.sci_loop.proofs.listing.least_at.Given as goal

abbrev pub invariant-loop-i : goal.invariant-loop-i
invariant-loop-i l = record {
  within : l.least < length l.numbers;
  least : (k : ℕ) → k < l.i → get_or l.numbers l.least 0 ≤ get_or l.numbers k 0;
}
