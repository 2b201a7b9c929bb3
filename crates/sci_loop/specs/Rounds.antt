-- Rounds of needs, by their places in a list.
use Rattle.std.specs.Prelude.{◌≡◌, ℕ, ◌+◌, ◌-◌, ◌<◌, List, length, slice_index}

-- each number needs the one after it, and the last the first
pub record IsRound (needs : ℕ → ℕ → Type 0) (xs : List ℕ) : Type 0 where
  pub some : 0 < length xs
  pub apart : (i j : ℕ) → i < length xs → j < length xs → slice_index xs i ≡ slice_index xs j → i ≡ j
  pub step : (k : ℕ) → k + 1 < length xs → needs (slice_index xs k) (slice_index xs (k + 1))
  pub close : needs (slice_index xs (length xs - 1)) (slice_index xs 0)
