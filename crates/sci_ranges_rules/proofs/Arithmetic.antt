-- ABS_VALUE, SIGNUM, DEADBAND, PRODUCT: what their rules make of the numbers of intervals.
use Rattle.std.proofs.Common.{◌≡◌, ◌≢◌, ℕ, zero, suc, ◌/◌, ◌<◌, ◌≤◌, ℤ, pos, negsuc, ◌-ℤ◌, ◌≤ℤ◌, Bool, true, false, Option, refl, sym, ap, arith, subst, cond, inl, inr, ◌⊎◌}
use Rattle.std.proofs.lemmas.Int.{ints}
use Rattle.std.proofs.lemmas.Nat.{le-div}
use Rattle.std.proofs.Math.Nat.{div-mul-le_self, mul-le-mul_left}
use Rattle.std.specs.Prelude.{int_lt, int_le, int_div, unsigned_abs, option_map}
use Rattle.std.specs.Int.{int_min, int_max}
use Rattle.sci_base.specs.declared.Ty.{Ty}
use Rattle.sci_base.specs.declared.Mode.{Mode}
use Rattle.sci_base.specs.Fit.{fit, InRange, int_eq}
use Rattle.sci_base.proofs.FitLemmas.{int_le_yes, fit_inside}
use Rattle.sci_forms.proofs.TestLemmas.{int_same}
use Rattle.sci_kinds.proofs.Ranges.{zero_in_range}
use Rattle.sci_kinds.specs.declared.Cell.TheVariants.{Value, Zero}
use Rattle.sci_kinds.specs.Table.{sign, fitted, abs_cell, beyond_cell, quotient_cell}
use Rattle.sci_ranges_base.specs.declared.interval.Interval.{Interval}
use Rattle.sci_ranges_base.specs.Intervals.{IsIn, IsInSome, one, has, hull, between, corners}
use Rattle.sci_ranges_base.specs.Cells.{MayBe, on_some}
use Rattle.sci_ranges_base.specs.Fitting.{fitted_range}
use Rattle.sci_ranges_base.proofs.Numbers.{NeverFalls, le_along, min_below, max_above, below_min, above_max, outer}
use Rattle.sci_ranges_base.proofs.Fitted.{fitted_has, int_lt_no}
use Rattle.sci_ranges_rules.specs.Words.{magnitudes, beyond, quotients, quotient_cells}
use Rattle.sci_ranges_rules.proofs.Handing.{on_some_has, join_has, beside_zero}

-- ---- how far from 0

abs_rises : (u v : ℤ) → pos 0 ≤ℤ u → u ≤ℤ v → pos (unsigned_abs u) ≤ℤ pos (unsigned_abs v)
abs_rises (pos a) (pos b) h k = omega (arith, ints, k)
abs_rises (pos a) (negsuc b) h k = absurd (omega (arith, ints, k))
abs_rises (negsuc a) v h k = absurd (omega (arith, ints, h))

abs_falls : (u v : ℤ) → v ≤ℤ pos 0 → u ≤ℤ v → pos (unsigned_abs v) ≤ℤ pos (unsigned_abs u)
abs_falls (negsuc a) (negsuc b) h k = omega (arith, ints, k)
abs_falls (negsuc a) (pos zero) h k = omega (arith, ints)
abs_falls (negsuc a) (pos (suc b)) h k = absurd (omega (arith, ints, h))
abs_falls (pos a) (pos zero) h k = omega (arith, ints)
abs_falls (pos a) (pos (suc b)) h k = absurd (omega (arith, ints, h))
abs_falls (pos a) (negsuc b) h k = absurd (omega (arith, ints, k))

pub magnitudes_have : (i : Interval) (v : ℤ) → IsIn i v → IsIn (magnitudes i) (pos (unsigned_abs v))
magnitudes_have i v h = record { above = lower (has i (pos 0)) refl; below = upper (int_le (pos 0) v) refl }
  where
    lower : (b : Bool) → has i (pos 0) ≡ b → cond b (pos 0) (int_min (pos (unsigned_abs i.least)) (pos (unsigned_abs i.greatest))) ≤ℤ pos (unsigned_abs v)
    lower true p = omega (arith, ints)
    lower false p = by_least (int_le i.least (pos 0)) refl
      where
        by_greatest : (c : Bool) → int_le i.least (pos 0) ≡ true → int_le (pos 0) i.greatest ≡ c → int_min (pos (unsigned_abs i.least)) (pos (unsigned_abs i.greatest)) ≤ℤ pos (unsigned_abs v)
        by_greatest true q r = let both : has i (pos 0) ≡ true = rw (q, r) refl in cc
        by_greatest false q r =
            let neg : i.greatest ≤ℤ pos 0 = grind (arith, ints) in
            le_along _ _ _ (min_below (pos (unsigned_abs i.least)) (pos (unsigned_abs i.greatest))).1 (abs_falls v i.greatest neg h.below)

        by_least : (c : Bool) → int_le i.least (pos 0) ≡ c → int_min (pos (unsigned_abs i.least)) (pos (unsigned_abs i.greatest)) ≤ℤ pos (unsigned_abs v)
        by_least true q = by_greatest (int_le (pos 0) i.greatest) q refl
        by_least false q =
            let some : pos 0 ≤ℤ i.least = grind (arith, ints) in
            le_along _ _ _ (min_below (pos (unsigned_abs i.least)) (pos (unsigned_abs i.greatest))).0 (abs_rises i.least v some h.above)

    upper : (b : Bool) → int_le (pos 0) v ≡ b → pos (unsigned_abs v) ≤ℤ int_max (pos (unsigned_abs i.least)) (pos (unsigned_abs i.greatest))
    upper true p = let some : pos 0 ≤ℤ v = grind (arith, ints) in le_along _ _ _ (abs_rises v i.greatest some h.below) (max_above (pos (unsigned_abs i.least)) (pos (unsigned_abs i.greatest))).1
    upper false p = let neg : v ≤ℤ pos 0 = grind (arith, ints) in le_along _ _ _ (abs_falls i.least v neg h.above) (max_above (pos (unsigned_abs i.least)) (pos (unsigned_abs i.greatest))).0

pub abs_is_fitted : (t : Ty) (m : Mode) (v : ℤ) → InRange t v → abs_cell t m v ≡ fitted (fit t m (pos (unsigned_abs v)))
abs_is_fitted t m (pos n) h =
    let some : pos 0 ≤ℤ pos n = omega (arith, ints) in
    rw (int_lt_no (pos n) (pos 0) some) (sym (ap fitted (fit_inside t m (pos n) h.above h.below)))
abs_is_fitted t m (negsuc n) h = let e : pos 0 -ℤ negsuc n ≡ pos (suc n) = omega (arith, ints) in ap (λ z. fitted (fit t m z)) e

-- ---- -1, 0 or 1

pub sign_rises : NeverFalls sign
sign_rises u v h = by_neg (int_lt u (pos 0)) refl
  where
    least : (c d : Bool) → negsuc 0 ≤ℤ cond c (negsuc 0) (cond d (pos 1) (pos 0))
    least true d = omega (arith, ints)
    least false true = omega (arith, ints)
    least false false = omega (arith, ints)

    by_pos : (c d : Bool) → int_lt (pos 0) u ≡ c → int_lt (pos 0) v ≡ d → cond c (pos 1) (pos 0) ≤ℤ cond d (pos 1) (pos 0)
    by_pos true true p q = omega (arith, ints)
    by_pos true false p q = absurd (grind (arith, ints))
    by_pos false true p q = omega (arith, ints)
    by_pos false false p q = omega (arith, ints)

    by_neg : (b : Bool) → int_lt u (pos 0) ≡ b → cond b (negsuc 0) (cond (int_lt (pos 0) u) (pos 1) (pos 0)) ≤ℤ sign v
    by_neg true p = least (int_lt v (pos 0)) (int_lt (pos 0) v)
    by_neg false p =
        let some : pos 0 ≤ℤ v = grind (arith, ints) in
        rw (int_lt_no v (pos 0) some) (by_pos (int_lt (pos 0) u) (int_lt (pos 0) v) refl refl)

-- ---- beyond two ends

pub beyond_rises : (a b : ℤ) → a ≤ℤ b → NeverFalls (beyond a b)
beyond_rises a b o u v h = by_high (int_lt b u) (int_lt b v) refl refl
  where
    by_low : (c d : Bool) → int_lt b u ≡ false → int_lt b v ≡ false → int_lt u a ≡ c → int_lt v a ≡ d → cond c (u -ℤ a) (pos 0) ≤ℤ cond d (v -ℤ a) (pos 0)
    by_low true true p q r s = omega (arith, ints)
    by_low true false p q r s = grind (arith, ints)
    by_low false true p q r s = absurd (grind (arith, ints))
    by_low false false p q r s = omega (arith, ints)

    below_high : (c : Bool) → int_lt b v ≡ true → int_lt u a ≡ c → cond c (u -ℤ a) (pos 0) ≤ℤ (v -ℤ b)
    below_high true q r = grind (arith, ints)
    below_high false q r = grind (arith, ints)

    by_high : (c d : Bool) → int_lt b u ≡ c → int_lt b v ≡ d
        → cond c (u -ℤ b) (cond (int_lt u a) (u -ℤ a) (pos 0)) ≤ℤ cond d (v -ℤ b) (cond (int_lt v a) (v -ℤ a) (pos 0))
    by_high true true p q = omega (arith, ints)
    by_high true false p q = absurd (grind (arith, ints))
    by_high false true p q = below_high (int_lt u a) q refl
    by_high false false p q = by_low (int_lt u a) (int_lt v a) p q refl refl

pub beyond_is_fitted : (t : Ty) (m : Mode) (a b v : ℤ) → beyond_cell t m a b v ≡ fitted (fit t m (beyond a b v))
beyond_is_fitted t m a b v = by_high (int_lt b v)
  where
    by_low : (d : Bool) → cond d (fitted (fit t m (v -ℤ a))) (Value (pos 0)) ≡ fitted (fit t m (cond d (v -ℤ a) (pos 0)))
    by_low true = refl
    by_low false = let z = zero_in_range t in sym (ap fitted (fit_inside t m (pos 0) z.above z.below))

    by_high : (c : Bool) → cond c (fitted (fit t m (v -ℤ b))) (cond (int_lt v a) (fitted (fit t m (v -ℤ a))) (Value (pos 0)))
        ≡ fitted (fit t m (cond c (v -ℤ b) (cond (int_lt v a) (v -ℤ a) (pos 0))))
    by_high true = refl
    by_high false = by_low (int_lt v a)

-- ---- quotients

pub div_rises : (a b k : ℕ) → 0 < k → a ≤ b → a / k ≤ b / k
div_rises a b k h l = le-div (a / k) b k h (omega (arith, div-mul-le_self a k, l))

div_falls : (a k l : ℕ) → 0 < k → k ≤ l → a / l ≤ a / k
div_falls a k l h m = le-div (a / l) a k h (omega (arith, mul-le-mul_left (a / l) m, div-mul-le_self a l))

-- by a divisor above 0 the quotient rises with the number, by one below 0 it falls
quotient_rises : (k : ℕ) (u v : ℤ) → 0 < k → u ≤ℤ v → int_div u (pos k) ≤ℤ int_div v (pos k)
quotient_rises k (pos a) (pos b) p h = let l = div_rises a b k p (omega (arith, ints, h)) in omega (arith, ints, l)
quotient_rises k (pos a) (negsuc b) p h = absurd (omega (arith, ints, h))
quotient_rises k (negsuc a) (pos b) p h = omega (arith, ints)
quotient_rises k (negsuc a) (negsuc b) p h = let l = div_rises (suc b) (suc a) k p (omega (arith, ints, h)) in omega (arith, ints, l)

quotient_falls : (k : ℕ) (u v : ℤ) → u ≤ℤ v → int_div v (negsuc k) ≤ℤ int_div u (negsuc k)
quotient_falls k (pos a) (pos b) h = let l = div_rises a b (suc k) (omega arith) (omega (arith, ints, h)) in omega (arith, ints, l)
quotient_falls k (pos a) (negsuc b) h = absurd (omega (arith, ints, h))
quotient_falls k (negsuc a) (pos b) h = omega (arith, ints)
quotient_falls k (negsuc a) (negsuc b) h = let l = div_rises (suc b) (suc a) (suc k) (omega arith) (omega (arith, ints, h)) in omega (arith, ints, l)

-- numbers over a divisor lie between those of the ends
over_numbers : (a u b d : ℤ) → d ≢ pos 0 → a ≤ℤ u → u ≤ℤ b → IsIn (hull (one (int_div a d)) (one (int_div b d))) (int_div u d)
over_numbers a u b (pos zero) o h k = absurd (o refl)
over_numbers a u b (pos (suc d)) o h k = record {
  above = le_along _ _ _ (min_below (int_div a (pos (suc d))) (int_div b (pos (suc d)))).0 (quotient_rises (suc d) a u (omega arith) h);
  below = le_along _ _ _ (quotient_rises (suc d) u b (omega arith) k) (max_above (int_div a (pos (suc d))) (int_div b (pos (suc d)))).1;
}
over_numbers a u b (negsuc d) o h k = record {
  above = le_along _ _ _ (min_below (int_div a (negsuc d)) (int_div b (negsuc d))).1 (quotient_falls d u b k);
  below = le_along _ _ _ (quotient_falls d a u h) (max_above (int_div a (negsuc d)) (int_div b (negsuc d))).0;
}

-- between, whichever of the two is the lesser one
either_way : (x y z : ℤ) → ((x ≤ℤ z) × (z ≤ℤ y)) ⊎ ((y ≤ℤ z) × (z ≤ℤ x)) → IsIn (hull (one x) (one y)) z
either_way x y z (inl h) = record { above = le_along _ _ _ (min_below x y).0 h.0; below = le_along _ _ _ h.1 (max_above x y).1 }
either_way x y z (inr h) = record { above = le_along _ _ _ (min_below x y).1 h.0; below = le_along _ _ _ h.1 (max_above x y).0 }

-- a number over divisors of one sign lies between those over their ends
over_above : (u : ℤ) (c v d : ℕ) → 0 < c → c ≤ v → v ≤ d
    → ((int_div u (pos c) ≤ℤ int_div u (pos v)) × (int_div u (pos v) ≤ℤ int_div u (pos d))) ⊎ ((int_div u (pos d) ≤ℤ int_div u (pos v)) × (int_div u (pos v) ≤ℤ int_div u (pos c)))
over_above (pos a) c v d p h k =
    let l = div_falls a c v p h in let m = div_falls a v d (omega (arith, p, h)) k in inr (omega (arith, ints, m), omega (arith, ints, l))
over_above (negsuc a) c v d p h k =
    let l = div_falls (suc a) c v p h in let m = div_falls (suc a) v d (omega (arith, p, h)) k in inl (omega (arith, ints, l), omega (arith, ints, m))

over_below : (u : ℤ) (c v d : ℕ) → v ≤ c → d ≤ v
    → ((int_div u (negsuc c) ≤ℤ int_div u (negsuc v)) × (int_div u (negsuc v) ≤ℤ int_div u (negsuc d))) ⊎ ((int_div u (negsuc d) ≤ℤ int_div u (negsuc v)) × (int_div u (negsuc v) ≤ℤ int_div u (negsuc c)))
over_below (pos a) c v d h k =
    let l = div_falls a (suc v) (suc c) (omega arith) (omega (arith, h)) in let m = div_falls a (suc d) (suc v) (omega arith) (omega (arith, k)) in
    inr (omega (arith, ints, m), omega (arith, ints, l))
over_below (negsuc a) c v d h k =
    let l = div_falls (suc a) (suc v) (suc c) (omega arith) (omega (arith, h)) in let m = div_falls (suc a) (suc d) (suc v) (omega arith) (omega (arith, k)) in
    inl (omega (arith, ints, l), omega (arith, ints, m))

over_divisors : (u c v d : ℤ) → (pos 1 ≤ℤ c) ⊎ (d ≤ℤ negsuc 0) → c ≤ℤ v → v ≤ℤ d → IsIn (hull (one (int_div u c)) (one (int_div u d))) (int_div u v)
over_divisors u (pos c) (pos v) (pos d) (inl o) h k =
    either_way _ _ _ (over_above u c v d (omega (arith, ints, o)) (omega (arith, ints, h)) (omega (arith, ints, k)))
over_divisors u (negsuc c) v d (inl o) h k = absurd (omega (arith, ints, o))
over_divisors u (pos c) (negsuc v) d (inl o) h k = absurd (omega (arith, ints, h))
over_divisors u (pos c) (pos v) (negsuc d) (inl o) h k = absurd (omega (arith, ints, k))
over_divisors u (negsuc c) (negsuc v) (negsuc d) (inr o) h k =
    either_way _ _ _ (over_below u c v d (omega (arith, ints, h)) (omega (arith, ints, k)))
over_divisors u c v (pos d) (inr o) h k = absurd (omega (arith, ints, o))
over_divisors u c (pos v) (negsuc d) (inr o) h k = absurd (omega (arith, ints, k))
over_divisors u (pos c) (negsuc v) (negsuc d) (inr o) h k = absurd (omega (arith, ints, h))

-- numbers over divisors of one sign
over_part : (i j : Interval) (u v : ℤ) → (pos 1 ≤ℤ j.least) ⊎ (j.greatest ≤ℤ negsuc 0) → IsIn i u → IsIn j v → v ≢ pos 0 → IsIn (corners int_div i j) (int_div u v)
over_part i j u v o h k z =
    outer (int_div i.least j.least) (int_div i.least j.greatest) (int_div i.greatest j.least) (int_div i.greatest j.greatest) (int_div i.least v) (int_div i.greatest v) (int_div u v)
    (over_divisors i.least j.least v j.greatest o k.above k.below)
    (over_divisors i.greatest j.least v j.greatest o k.above k.below)
    (over_numbers i.least u i.greatest v z h.above h.below)

-- a part of an interval that has v
pub part_has : (a b v : ℤ) (f : Interval → Interval) (w : ℤ) → a ≤ℤ v → v ≤ℤ b → (IsIn (record { least = a; greatest = b }) v → IsIn (f (record { least = a; greatest = b })) w)
    → IsInSome (option_map f (between a b)) w
part_has a b v f w h k g = rw (int_le_yes a b (le_along _ _ _ h k)) (g (record { above = h; below = k }))

abbrev below_part : Interval → Interval → Option Interval
below_part i j = option_map (corners int_div i) (between j.least (int_min j.greatest (negsuc 0)))

abbrev above_part : Interval → Interval → Option Interval
above_part i j = option_map (corners int_div i) (between (int_max j.least (pos 1)) j.greatest)

pub quotients_have : (i j : Interval) (u v : ℤ) → IsIn i u → IsIn j v → v ≢ pos 0 → IsInSome (quotients i j) (int_div u v)
quotients_have i j u (pos zero) h k z = absurd (z refl)
quotients_have i j u (pos (suc n)) h k z =
    let lo : int_max j.least (pos 1) ≤ℤ pos (suc n) = above_both j.least (pos (suc n)) k.above (omega (arith, ints)) in
    join_has (below_part i j) (above_part i j) (int_div u (pos (suc n))) (inr (part_has (int_max j.least (pos 1)) j.greatest (pos (suc n)) (corners int_div i) (int_div u (pos (suc n))) lo k.below
    (λ p. over_part i _ u (pos (suc n)) (inl (max_above j.least (pos 1)).1) h p z)))
  where
    above_both : (a m : ℤ) → a ≤ℤ m → pos 1 ≤ℤ m → int_max a (pos 1) ≤ℤ m
    above_both a m h k = above_max a (pos 1) m h k
quotients_have i j u (negsuc n) h k z =
    let hi : negsuc n ≤ℤ int_min j.greatest (negsuc 0) = below_min j.greatest (negsuc 0) (negsuc n) k.below (omega (arith, ints)) in
    join_has (below_part i j) (above_part i j) (int_div u (negsuc n)) (inl (part_has j.least (int_min j.greatest (negsuc 0)) (negsuc n) (corners int_div i) (int_div u (negsuc n)) k.above hi
    (λ p. over_part i _ u (negsuc n) (inr (min_below j.greatest (negsuc 0)).1) h p z)))

pub quotient_cells_have : (t : Ty) (m : Mode) (i j : Interval) (u v : ℤ) → IsIn i u → IsIn j v → MayBe (quotient_cells t m i j) (quotient_cell t m u v)
quotient_cells_have t m i j u v h k = by_zero (int_eq v (pos 0)) refl
  where
    by_zero : (b : Bool) → int_eq v (pos 0) ≡ b → MayBe (quotient_cells t m i j) (cond b Zero (fitted (fit t m (int_div u v))))
    by_zero true e =
        let z = int_same v (pos 0) e in
        let lo : j.least ≤ℤ pos 0 = subst (λ w. j.least ≤ℤ w) z k.above in
        let hi : pos 0 ≤ℤ j.greatest = subst (λ w. w ≤ℤ j.greatest) z k.below in
        rw (int_le_yes j.least (pos 0) lo, int_le_yes (pos 0) j.greatest hi) refl
    by_zero false e = beside_zero (on_some (fitted_range t m) (quotients i j)) (has j (pos 0)) (fit t m (int_div u v))
        (on_some_has (fitted_range t m) (quotients i j) (int_div u v) (fitted (fit t m (int_div u v))) (quotients_have i j u v h k (other e)) (λ q p. fitted_has t m q (int_div u v) p))
      where
        other : int_eq v (pos 0) ≡ false → v ≢ pos 0
        other e z = let t : int_eq v (pos 0) ≡ true = rw z refl in cc
