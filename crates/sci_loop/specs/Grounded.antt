-- Numbers from which every chain of needs ends: there the relation is well founded.
use Rattle.std.specs.Prelude.{ℕ}

-- each chain of needs that begins at c ends
pub data Grounded (needs : ℕ → ℕ → Type 0) : ℕ → Type 0 where
  grounded : (c : ℕ) → ((b : ℕ) → needs c b → Grounded needs b) → Grounded needs c
