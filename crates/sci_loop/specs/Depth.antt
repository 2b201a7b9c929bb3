-- The depth of a number in a relation.
use Rattle.std.specs.Prelude.{◌≡◌, ℕ, ◌+◌, ◌≤◌, zero, suc}

-- a chain of k needs ends at c
abbrev pub ChainTo : (ℕ → ℕ → Type 0) → ℕ → ℕ → Type 0
ChainTo needs zero c = Unit {0}
ChainTo needs (suc k) c = (b : ℕ) × needs c b × ChainTo needs k b

-- the longest chain that ends at c has this many members
abbrev pub IsDepth : (ℕ → ℕ → Type 0) → ℕ → ℕ → Type 0
IsDepth needs c d = (k : ℕ) × (d ≡ k + 1) × ChainTo needs k c × ((m : ℕ) → ChainTo needs m c → m ≤ k)
