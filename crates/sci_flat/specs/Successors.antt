-- The steps that lead from a port, the latest first.
use Rattle.std.specs.Prelude.{◌≡◌, ℕ, zero, suc, ◌<◌, ◌==◌, List, [], ◌∷◌, length, slice_index, slice_index_or, if◌then◌else◌}
use Rattle.sci_flat.specs.declared.reach.successors.Successors.{Successors}

abbrev pub from_at : List (ℕ × ℕ) → ℕ → ℕ
from_at es k = (slice_index_or es k (0, 0)).0

abbrev pub to_at : List (ℕ × ℕ) → ℕ → ℕ
to_at es k = (slice_index_or es k (0, 0)).1

-- one more than the place of the latest of the first n steps that leads from p; 0 where none does
abbrev pub latest : List (ℕ × ℕ) → ℕ → ℕ → ℕ
latest es p zero = 0
latest es p (suc n) = if from_at es n == p then suc n else latest es p n

-- where those of the first n steps lead that lead from p
abbrev pub leading : List (ℕ × ℕ) → ℕ → ℕ → List ℕ
leading es p zero = []
leading es p (suc n) = if from_at es n == p then to_at es n ∷ leading es p n else leading es p n

-- the ports to which a step leads from p
abbrev pub targets : List (ℕ × ℕ) → ℕ → List ℕ
targets es p = leading es p (length es)

-- by port the latest step from it, and by step the one before it from the same port
pub record AreSuccessors (es : List (ℕ × ℕ)) (ports : ℕ) (s : Successors) : Type 0 where
  pub ports_long : length s.latest.items ≡ ports
  pub steps_long : length s.earlier.items ≡ length es
  pub last : (p : ℕ) → p < ports → slice_index s.latest.items p ≡ latest es p (length es)
  pub before : (k : ℕ) → k < length es → slice_index s.earlier.items k ≡ latest es (from_at es k) k
