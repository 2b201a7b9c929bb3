-- Distinct numbers, and lists in order.
use Rattle.std.proofs.Common.{ℕ, suc, zero, ◌≡◌, ◌+◌, ◌-◌, ◌<◌, List, length, get_or, AllPairs, subst, arith}
use Rattle.std.specs.Prelude.{eqb}
use Rattle.std.specs.List.{IsDistinct}
use Rattle.std.proofs.lemmas.Bool.Decides.{Decides-eqb}
use Rattle.std.proofs.lemmas.Map.Made.{AllPairs-from_IsDistinct}

pub apart : (xs : List ℕ) → IsDistinct eqb xs → (i j : ℕ) → i < j → j < length xs → get_or xs i 0 ≡ get_or xs j 0 → ⊥
apart xs h i j l w = AllPairs-from_IsDistinct Decides-eqb xs h i j 0 l w

-- where each stands before the next, each stands before all later ones
module _ {X : Type 0} (R : X → X → Type 0) (trans : (a b c : X) → R a b → R b c → R a c) (xs : List X) (step : (k : ℕ) (d : X) → k + 1 < length xs → R (get_or xs k d) (get_or xs (k + 1) d)) where
  later : (i m : ℕ) (d : X) → i + suc m < length xs → R (get_or xs i d) (get_or xs (i + suc m) d)
  later i zero d h = step i d h
  later i (suc m) d h =
      let near : i + suc m < length xs = omega (arith, h) in
      let next : i + suc m + 1 ≡ i + suc (suc m) = omega arith in
      trans _ _ _ (later i m d near) (subst (λ j. R (get_or xs (i + suc m) d) (get_or xs j d)) next (step (i + suc m) d (omega (arith, h))))

  pub pairs_from_steps : AllPairs R xs
  pairs_from_steps i j d l h =
      let z : i + suc (j - (i + 1)) ≡ j = omega (arith, l) in
      subst (λ m. R (get_or xs i d) (get_or xs m d)) z (later i (j - (i + 1)) d (omega (arith, l, h)))
