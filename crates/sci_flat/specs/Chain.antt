-- Chains of steps.
use Rattle.std.specs.Prelude.{◌≡◌, ℕ, ◌<◌, List, [], ◌∷◌, ◌⊎◌}

-- one of the steps leads from p to q
abbrev pub Step : {A : Type 0} → List (A × A) → A → A → Type 0
Step [] p q = ⊥
Step (e ∷ es) p q = ((e.0 ≡ p) × (e.1 ≡ q)) ⊎ Step es p q

-- a finite chain of steps
pub data Chain {A : Type 0} (es : List (A × A)) : A → A → Type 0 where
  stay : {p : A} → Chain es p p
  onward : {p q r : A} → Chain es p q → Step es q r → Chain es p r

-- each step leads from a number below n to a number below n
abbrev pub AllWithin : ℕ → List (ℕ × ℕ) → Type 0
AllWithin n [] = Unit {0}
AllWithin n (e ∷ es) = (e.0 < n) × (e.1 < n) × AllWithin n es
