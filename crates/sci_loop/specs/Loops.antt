-- Loops of a relation on numbers: `needs c b` says that c needs b.
use Rattle.std.specs.Prelude.{ℕ, ◌≤◌, List, [], ◌∷◌, eqb, Contains, slice_index}
use Rattle.std.specs.List.{IsDistinct}

-- of these, each needs the one before it, and `first` the last
abbrev pub Chained : (ℕ → ℕ → Type 0) → ℕ → List ℕ → ℕ → Type 0
Chained needs before [] first = needs first before
Chained needs before (x ∷ xs) first = needs x before × Chained needs x xs first

-- one or more distinct numbers, each of which needs the one before it, and the first the last
abbrev pub IsLoop : (ℕ → ℕ → Type 0) → List ℕ → Type 0
IsLoop needs [] = ⊥
IsLoop needs (x ∷ xs) = IsDistinct eqb (x ∷ xs) × Chained needs x xs x

abbrev pub HasNoLoop : (ℕ → ℕ → Type 0) → Type 0
HasNoLoop needs = (xs : List ℕ) → IsLoop needs xs → ⊥

-- listed from its least number
abbrev pub IsFromLeast : List ℕ → Type 0
IsFromLeast xs = (b : ℕ) → Contains xs b → slice_index xs 0 ≤ b
