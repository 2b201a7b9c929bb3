-- Patterns that are joined one after the other, and the bits that they keep to.
use Rattle.std.proofs.Common.{◌≡◌, ◌≢◌, ℕ, zero, suc, ◌+◌, ◌-◌, ◌/◌, ◌^◌, ◌<◌, ◌≤◌, ℤ, pos, Bool, true, false, Option, Some, None, refl, ap, arith, subst, cond, inl, inr}
use Rattle.std.proofs.lemmas.Bool.{cases_lt}
use Rattle.std.proofs.lemmas.Bool.Decides.{nat_tests}
use Rattle.std.proofs.lemmas.Nat.{xor_lt}
use Rattle.std.specs.Prelude.{option_map, nat_eq, bit_xor}
use Rattle.sci_base.specs.declared.Ty.{Ty}
use Rattle.sci_base.specs.Fit.{int_eq, span, width}
use Rattle.sci_base.specs.Bits.{turned_left, bits_from_to}
use Rattle.sci_base.proofs.FitLemmas.{span_at_most, span-pow}
use Rattle.sci_ranges_base.specs.declared.interval.Interval.{Interval}
use Rattle.sci_ranges_rules.specs.declared.patterns.Patterns.{Patterns}
use Rattle.sci_ranges_rules.specs.Patterns.{InType, patterns_from, patterns_of, numbers_of, and_patterns, or_patterns, xor_patterns, turned_patterns, extracted}
use Rattle.sci_ranges_rules.specs.Words.{joined_by, turned_by, on_patterns, all_joined}
use Rattle.sci_ranges_rules.proofs.Patterned.{and_in_type, or_in_type, xor_in_type}

nat_eq_yes : (p q : ℕ) → p ≡ q → nat_eq p q ≡ true
nat_eq_yes p q h = grind (arith, nat_tests)

nat_eq_no : (p q : ℕ) → p ≢ q → nat_eq p q ≡ false
nat_eq_no p q h = grind (arith, nat_tests)

-- ---- bits

pub joined_in_type : (t : Ty) (op : ℤ) (p q : Patterns) → InType t p → InType t q → InType t (joined_by t op p q)
joined_in_type t op p q i j = by_code (int_eq op (pos 0)) (int_eq op (pos 2)) (int_eq op (pos 4))
  where
    by_code : (a b c : Bool)
        → InType t (cond a (and_patterns t p q) (cond b (and_patterns t p q) (cond c (xor_patterns t p q) (or_patterns t p q))))
    by_code true b c = and_in_type t p q i j
    by_code false true c = and_in_type t p q i j
    by_code false false true = xor_in_type t p q i j
    by_code false false false = or_in_type t p q i j

pub word_pattern : (t : Ty) (p : ℕ) → p < span t → p < 2 ^ 32
word_pattern t p h = omega (arith, h, span_at_most t)

pub xor_small : (t : Ty) (p q : ℕ) → p < span t → q < span t → bit_xor p q < span t
xor_small t p q h k = let bits = span-pow t in rw bits (xor_lt (width t) p q (rw bits at h) (rw bits at k))

-- ---- where the bits above some are the same, and where they aren't

module _ (t : Ty) (p : Patterns) (k m : ℕ) (e : m ≡ 2 ^ (width t - k)) where
  pub turned_same : p.least / m ≡ p.greatest / m → patterns_from (turned_left t p.least k) (turned_left t p.greatest k) ≡ turned_patterns t k
      (λ q. turned_left t q k) p
  turned_same h = let same : nat_eq (p.least / 2 ^ (width t - k)) (p.greatest / 2 ^ (width t - k)) ≡ true = nat_eq_yes _ _ (rw e at h) in rw same refl

  pub turned_other : p.least / m ≢ p.greatest / m → patterns_from 0 (span t - 1) ≡ turned_patterns t k (λ q. turned_left t q k) p
  turned_other h = let other : nat_eq (p.least / 2 ^ (width t - k)) (p.greatest / 2 ^ (width t - k)) ≡ false = nat_eq_no _ _ (rw e at h) in rw other refl

module _ (p : Patterns) (a b m : ℕ) (l : a ≤ b) (e : m ≡ 2 ^ (b + 1)) where
  ends_at : b + 1 ≡ a + ((b - a) + 1)
  ends_at = omega (arith, l)

  pub extracted_same : p.least / m ≡ p.greatest / m → patterns_from (bits_from_to p.least a b) (bits_from_to p.greatest a b) ≡ extracted a ((b - a) + 1) p
  extracted_same h =
      let same : nat_eq (p.least / 2 ^ (a + ((b - a) + 1))) (p.greatest / 2 ^ (a + ((b - a) + 1))) ≡ true = nat_eq_yes _ _ (rw (e, ends_at) at h) in
      rw same refl

  pub extracted_other : p.least / m ≢ p.greatest / m → patterns_from 0 (2 ^ ((b - a) + 1) - 1) ≡ extracted a ((b - a) + 1) p
  extracted_other h =
      let other : nat_eq (p.least / 2 ^ (a + ((b - a) + 1))) (p.greatest / 2 ^ (a + ((b - a) + 1))) ≡ false = nat_eq_no _ _ (rw (e, ends_at) at h) in
      rw other refl

-- ---- more of them

pub joined_more : (t : Ty) (op : ℤ) (f : ℕ → Option Interval) (k : ℕ) (all r : Patterns) (i : Interval) → 1 ≤ k → Some all ≡ all_joined t op f (k - 1)
    → f k ≡ Some i → r ≡ joined_by t op all (patterns_of t i) → Some r ≡ all_joined t op f ((k + 1) - 1)
joined_more t op f zero all r i l e h g = absurd (omega (arith, l))
joined_more t op f (suc n) all r i l e h g =
    let less : suc n - 1 ≡ n = omega arith in
    let more : (suc n + 1) - 1 ≡ suc n = omega arith in
    let before : Some all ≡ all_joined t op f n = rw less at e in
    rw more (rw (← before, h) (ap Some g))

pub same_joined : (t u : Ty) (x y : ℤ) (p q r : Patterns) → t ≡ u → x ≡ y → q ≡ r → joined_by t x p q ≡ joined_by u y p r
same_joined t u x y p q r e f g = rw (e, f, g) refl

pub same_numbers : (t u : Ty) (x y : ℤ) (p : Patterns) → t ≡ u → x ≡ y → numbers_of t (turned_by t x p) ≡ numbers_of u (turned_by u y p)
same_numbers t u x y p e f = rw (e, f) refl

none_right : (f : Patterns → Patterns → Patterns) (o : Option Patterns) → on_patterns f o None ≡ None
none_right f None = refl
none_right f (Some p) = refl

pub joined_none : (t : Ty) (op : ℤ) (f : ℕ → Option Interval) (n k : ℕ) → k ≤ n → f k ≡ None → all_joined t op f n ≡ None
joined_none t op f zero k l e =
    let z : k ≡ 0 = omega (arith, l) in
    ap (option_map (patterns_of t)) (subst (λ j. f j ≡ None) z e)
joined_none t op f (suc n) k l e = elim (cases_lt k (suc n)) [
  | inl p ↦ rw (joined_none t op f n k (omega (arith, p)) e) refl
  | inr p ↦
      let d : k ≡ suc n = omega (arith, l, p) in
      let z : f (suc n) ≡ None = subst (λ j. f j ≡ None) d e in
      rw z (none_right (joined_by t op) (all_joined t op f n))
]
