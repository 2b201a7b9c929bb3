-- Numbers that differ.
use Rattle.std.proofs.Common.{◌≡◌, ℤ, ◌≤ℤ◌, Bool, true, false, refl, ap, subst, arith}
use Rattle.std.specs.Prelude.{int_le, not}
use Rattle.std.proofs.lemmas.Bool.{and_parts, and_from, both_ways, not-true}
use Rattle.std.proofs.lemmas.Int.{ints}
use Rattle.sci_base.specs.Fit.{int_eq}
use Rattle.sci_base.proofs.FitLemmas.{int_le_yes}

int_le_true : (a b : ℤ) → int_le a b ≡ true → a ≤ℤ b
int_le_true a b e = grind (arith, ints)

pub same_by : (a b : ℤ) → int_eq a b ≡ true → a ≡ b
same_by a b e =
    let p = and_parts (int_le a b) (int_le b a) e in
    let below : a ≤ℤ b = int_le_true a b p.0 in
    let above : b ≤ℤ a = int_le_true b a p.1 in
    omega (arith, ints)

pub same_self : (a : ℤ) → int_eq a a ≡ true
same_self a = and_from (int_le a a) (int_le a a) (int_le_yes a a (omega (arith, ints))) (int_le_yes a a (omega (arith, ints)))

pub differ_from : (a b : ℤ) → (a ≡ b → ⊥) → not (int_eq a b) ≡ true
differ_from a b f = by_test (int_eq a b) refl
  where
    by_test : (t : Bool) → int_eq a b ≡ t → not (int_eq a b) ≡ true
    by_test true e = absurd (f (same_by a b e))
    by_test false e = ap not e

pub differ_by : (a b : ℤ) → not (int_eq a b) ≡ true → a ≡ b → ⊥
differ_by a b e is = both_ways (int_eq a b) (not-true (int_eq a b) e) (subst (λ (c : ℤ). int_eq a c ≡ true) is (same_self a))
