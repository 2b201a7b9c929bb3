-- The hulls of what is made of the ends of two intervals.
use Rattle.std.proofs.Common.{◌≡◌, ◌≢◌, suc, ℤ, pos, negsuc, ◌*ℤ◌, Bool, true, false, Option, refl, arith, cond, to_z, of_z, FitsSigned, w64}
use Rattle.std.proofs.Math.Nat.{div-le_self}
use Rattle.std.proofs.lemmas.Int.{ints, clamps, to_z-of_z}
use Rattle.std.specs.Prelude.{int_le, int_div, unsigned_abs, IfSome, Some, None}
use Rattle.std.specs.Int.{int_min, int_max, w128}
use Rattle.sci_forms.proofs.TestLemmas.{int_le_told}
use Rattle.sci_ranges_base.specs.declared.interval.Interval.{Interval}
use Rattle.sci_ranges_base.specs.Intervals.{IsIn, HasEnds, words, exact, from_to, one, hull, corners, between, join, has}
use Rattle.sci_ranges_base.proofs.Ends.{same_ends, product_exact, exact_fits, word_of}
use Rattle.sci_ranges_rules.specs.Words.{magnitudes}

-- in another order
pub regrouped : (p q r s : ℤ) → hull (hull (one p) (one q)) (hull (one r) (one s)) ≡ hull (hull (one p) (one r)) (hull (one q) (one s))
regrouped p q r s = same_ends _ _ (least p q r s) (greatest p q r s)
  where
    least : (p q r s : ℤ) → int_min (int_min p q) (int_min r s) ≡ int_min (int_min p r) (int_min q s)
    least p q r s = omega (arith, ints, clamps)

    greatest : (p q r s : ℤ) → int_max (int_max p q) (int_max r s) ≡ int_max (int_max p r) (int_max q s)
    greatest p q r s = omega (arith, ints, clamps)

-- the hull of what is made of each end of j
pub by_column : (f : ℤ → ℤ → ℤ) (i j a b : Interval) → a ≡ hull (one (f i.least j.least)) (one (f i.greatest j.least))
    → b ≡ hull (one (f i.least j.greatest)) (one (f i.greatest j.greatest)) → hull a b ≡ corners f i j
by_column f i j a b e g = rw (e, g) (regrouped (f i.least j.least) (f i.greatest j.least) (f i.least j.greatest) (f i.greatest j.greatest))

-- two numbers in order
pub pair_ends : (w : Interval) (a b : ℤ) → IsIn w a → IsIn w b → HasEnds w (hull (one a) (one b))
pair_ends w a b h k = record {
  least = record { above = omega (arith, ints, clamps, h.above, k.above); below = omega (arith, ints, clamps, h.below, k.below) };
  greatest = record { above = omega (arith, ints, clamps, h.above, k.above); below = omega (arith, ints, clamps, h.below, k.below) };
}

-- what the code makes of two numbers in any order
pub crossed : (x y a b : ℤ) → x ≡ a → y ≡ b → from_to (int_min x y) (int_max x y) ≡ hull (one a) (one b)
crossed x y a b e f = rw (e, f) refl

pub same_join : {o p q r : Option Interval} → o ≡ p → q ≡ r → join o q ≡ join p r
same_join e f = rw (e, f) refl

-- ---- products and quotients of numbers of 64 bits

pub product_fits : (a b x y : ℤ) → x ≡ a → y ≡ b → IsIn words a → IsIn words b → FitsSigned w128 (x *ℤ y)
product_fits a b x y e f h k = rw (e, f) (exact_fits (a *ℤ b) (product_exact a b h k))

pub quotient_exact : (a d : ℤ) → IsIn words a → IsIn exact (int_div a d)
quotient_exact (pos a) (pos d) h = record { above = omega (arith, ints); below = omega (arith, ints, h.below, div-le_self a d) }
quotient_exact (pos a) (negsuc d) h =
    record { above = omega (arith, ints, h.below, div-le_self a (suc d)); below = omega (arith, ints, h.below, div-le_self a (suc d)) }
quotient_exact (negsuc a) (pos d) h =
    record { above = omega (arith, ints, h.above, div-le_self (suc a) d); below = omega (arith, ints, h.above, div-le_self (suc a) d) }
quotient_exact (negsuc a) (negsuc d) h = record { above = omega (arith, ints); below = omega (arith, ints, h.above, div-le_self (suc a) (suc d)) }

pub code_quotient : (a d x y : ℤ) → x ≡ a → y ≡ d → IsIn words a → to_z w128 (of_z w128 (int_div x y)) ≡ int_div a d
code_quotient a d x y e f h = rw (e, f) (to_z-of_z w128 (int_div a d) (exact_fits (int_div a d) (quotient_exact a d h)))

-- ---- divisors of one sign

pub same_between : (x y a b : ℤ) → x ≡ a → y ≡ b → between x y ≡ between a b
same_between x y a b e f = rw (e, f) refl

pub negative_part : (a b : ℤ) → IfSome (between a (int_min b (negsuc 0))) (λ j. (j.least ≢ pos 0) × (j.greatest ≢ pos 0))
negative_part a b = by_test (int_le a (int_min b (negsuc 0))) refl
  where
    by_test : (t : Bool) → int_le a (int_min b (negsuc 0)) ≡ t
        → IfSome (cond t (Some (from_to a (int_min b (negsuc 0)))) None) (λ (j : Interval). (j.least ≢ pos 0) × (j.greatest ≢ pos 0))
    by_test true e =
        let l = int_le_told a (int_min b (negsuc 0)) e in
        (λ z. omega (arith, ints, clamps, l, z), λ z. omega (arith, ints, clamps, z))
    by_test false e = tt

pub positive_part : (a b : ℤ) → IfSome (between (int_max a (pos 1)) b) (λ j. (j.least ≢ pos 0) × (j.greatest ≢ pos 0))
positive_part a b = by_test (int_le (int_max a (pos 1)) b) refl
  where
    by_test : (t : Bool) → int_le (int_max a (pos 1)) b ≡ t
        → IfSome (cond t (Some (from_to (int_max a (pos 1)) b)) None) (λ (j : Interval). (j.least ≢ pos 0) × (j.greatest ≢ pos 0))
    by_test true e =
        let l = int_le_told (int_max a (pos 1)) b e in
        (λ z. omega (arith, ints, clamps, z), λ z. omega (arith, ints, clamps, l, z))
    by_test false e = tt

-- ---- how far from 0

pub magnitudes_exact : (i : Interval) → FitsSigned w64 i.least → FitsSigned w64 i.greatest → HasEnds exact (magnitudes i)
magnitudes_exact i l g = by_zero (has i (pos 0)) (small i.least (word_of i.least l)) (small i.greatest (word_of i.greatest g))
  where
    small : (v : ℤ) → IsIn words v → IsIn exact (pos (unsigned_abs v))
    small (pos n) h = record { above = omega (arith, ints); below = omega (arith, ints, h.below) }
    small (negsuc n) h = record { above = omega (arith, ints); below = omega (arith, ints, h.above) }

    by_zero : (t : Bool) → IsIn exact (pos (unsigned_abs i.least)) → IsIn exact (pos (unsigned_abs i.greatest))
        → HasEnds exact (from_to (cond t (pos 0) (int_min (pos (unsigned_abs i.least)) (pos (unsigned_abs i.greatest))))
        (int_max (pos (unsigned_abs i.least)) (pos (unsigned_abs i.greatest))))
    by_zero true h k = record {
      least = record { above = omega (arith, ints); below = omega (arith, ints) };
      greatest = record { above = omega (arith, ints, clamps); below = omega (arith, ints, clamps, h.below, k.below) };
    }
    by_zero false h k = record {
      least = record { above = omega (arith, ints, clamps); below = omega (arith, ints, clamps, h.below, k.below) };
      greatest = record { above = omega (arith, ints, clamps); below = omega (arith, ints, clamps, h.below, k.below) };
    }
