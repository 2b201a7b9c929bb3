-- A decision by the truth of a test.
use Rattle.std.proofs.Common.{◌≡◌, ℤ, Option, Some, Bool, true, false, refl, sym, subst, true≢false}
use Rattle.c_mean.specs.Meaning.{truth}
use Rattle.sci_cgen_blocks.specs.Terms.{Under}

pub by_truth : {p q : Type 0} → (o : Option ℤ) (b : Bool) → o ≡ Some (truth b) → (b ≡ true → p) → (b ≡ false → q) → Under o p q
by_truth {p} {q} o b e f g = subst (λ (x : Option ℤ). Under x p q) (sym e) (by_bool b f g)
  where
    by_bool : (b : Bool) → (b ≡ true → p) → (b ≡ false → q) → Under (Some (truth b)) p q
    by_bool true f g = (λ z. f refl, λ z. absurd (true≢false (sym z)))
    by_bool false f g = (λ z. absurd (true≢false z), λ z. g refl)
