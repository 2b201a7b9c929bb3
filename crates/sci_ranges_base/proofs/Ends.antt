-- How large exact results are.
use Rattle.std.proofs.Common.{◌≡◌, ◌*◌, ◌^◌, ◌≤◌, ℤ, pos, negsuc, ◌*ℤ◌, ◌≤ℤ◌, Bool, true, false, cond, refl, sym, ap, subst, arith, FitsSigned, w64, to_z, of_z}
use Rattle.std.proofs.lemmas.Int.{ints, unsigned_abs-mul, to_z-of_z}
use Rattle.std.proofs.lemmas.Nat.{mul-le}
use Rattle.std.specs.Prelude.{unsigned_abs, int_lt}
use Rattle.std.specs.Int.{w128}
use Rattle.sci_base.specs.declared.Ty.{Ty}
use Rattle.sci_base.specs.Fit.{low, wrap, int_eq, in_range}
use Rattle.sci_base.proofs.FitLemmas.{int_le_yes, low_at_least, high_at_most}
use Rattle.sci_forms.proofs.TestLemmas.{int_same, in_range_told}
use Rattle.sci_ranges_base.specs.declared.interval.Interval.{Interval}
use Rattle.sci_ranges_base.specs.Intervals.{IsIn, HasEnds, words, exact, summands, hull, whole, from_to, times, at_ends}
use Rattle.sci_ranges_base.specs.Fitting.{turns, wrapped_up_to}
use Rattle.sci_ranges_base.proofs.Numbers.{min_below, max_above, below_min, above_max, le_along}

pub word_of : (z : ℤ) → FitsSigned w64 z → IsIn words z
word_of z h = record { above = omega (arith, ints); below = omega (arith, ints) }

abs_word : (z : ℤ) → IsIn words z → unsigned_abs z ≤ 2 ^ 63
abs_word (pos n) h = omega (arith, ints, h.below)
abs_word (negsuc n) h = omega (arith, ints, h.above)

from_abs : (z : ℤ) → unsigned_abs z ≤ 2 ^ 63 * 2 ^ 63 → IsIn exact z
from_abs (pos n) h = record { above = omega (arith, ints); below = omega (arith, ints, h) }
from_abs (negsuc n) h = record { above = omega (arith, ints, h); below = omega (arith, ints) }

-- a product of two numbers of 64 bits
pub product_exact : (a b : ℤ) → IsIn words a → IsIn words b → IsIn exact (a *ℤ b)
product_exact a b h k =
    let m = mul-le (unsigned_abs a) (unsigned_abs b) (2 ^ 63) (2 ^ 63) (abs_word a h) (abs_word b k) in
    from_abs (a *ℤ b) (rw (unsigned_abs-mul a b) m)

pub exact_fits : (z : ℤ) → IsIn exact z → FitsSigned w128 z
exact_fits z h = omega (arith, ints, h.above, h.below)

-- the hull's ends are ends
pub hull_ends : (w i j : Interval) → HasEnds w i → HasEnds w j → HasEnds w (hull i j)
hull_ends w i j h k = record {
  least = record {
    above = below_min i.least j.least w.least h.least.above k.least.above;
    below = le_along _ _ _ (min_below i.least j.least).0 h.least.below;
  };
  greatest = record {
    above = le_along _ _ _ h.greatest.above (max_above i.greatest j.greatest).0;
    below = above_max i.greatest j.greatest w.greatest h.greatest.below k.greatest.below;
  };
}

pub words_exact : (i : Interval) → HasEnds words i → HasEnds exact i
words_exact i h = record {
  least = record { above = omega (arith, ints, h.least.above); below = omega (arith, ints, h.least.below) };
  greatest = record { above = omega (arith, ints, h.greatest.above); below = omega (arith, ints, h.greatest.below) };
}

pub words_summands : (i : Interval) → HasEnds words i → HasEnds summands i
words_summands i h = record {
  least = record { above = omega (arith, ints, h.least.above); below = omega (arith, ints, h.least.below) };
  greatest = record { above = omega (arith, ints, h.greatest.above); below = omega (arith, ints, h.greatest.below) };
}

-- an interval is known by its ends
pub same_ends : (i j : Interval) → i.least ≡ j.least → i.greatest ≡ j.greatest → i ≡ j
same_ends i j e f = λ k. record { least = e k; greatest = f k }

-- of two numbers that are the same, and of two that aren't
pub equal_yes : (a b : ℤ) → a ≡ b → int_eq a b ≡ true
equal_yes a b h =
    let p : a ≤ℤ b = omega (arith, ints) in
    let q : b ≤ℤ a = omega (arith, ints) in
    rw (int_le_yes a b p, int_le_yes b a q) refl

pub equal_no : (a b : ℤ) → (a ≡ b → ⊥) → int_eq a b ≡ false
equal_no a b h = by_test (int_eq a b) refl
  where
    by_test : (t : Bool) → int_eq a b ≡ t → int_eq a b ≡ false
    by_test true p = absurd (h (int_same a b p))
    by_test false p = p

-- the word's ends, from its two numbers
pub word_ends : (i w : Interval) → FitsSigned w64 i.least → FitsSigned w64 i.greatest → w.least ≡ i.least → w.greatest ≡ i.greatest → HasEnds words w
word_ends i w f g e h =
    let p = word_of i.least f in
    let q = word_of i.greatest g in
    record { least = subst (IsIn words) (sym e) p; greatest = subst (IsIn words) (sym h) q }

-- of numbers of a type
pub type_ends : (t : Ty) (i : Interval) → HasEnds (whole t) i → HasEnds words i
type_ends t i h = record { least = word i.least h.least; greatest = word i.greatest h.greatest }
  where
    word : (z : ℤ) → IsIn (whole t) z → IsIn words z
    word z k =
        let lo = low_at_least t in
        let hi = high_at_most t in
        record { above = omega (arith, ints, k.above); below = omega (arith, ints, k.below) }

pub in_range_ends : (t : Ty) (i : Interval) → in_range t i.least ≡ true → in_range t i.greatest ≡ true → HasEnds words i
in_range_ends t i p q =
    let a = in_range_told t i.least p in
    let b = in_range_told t i.greatest q in
    type_ends t i (record { least = record { above = a.above; below = a.below }; greatest = record { above = b.above; below = b.below } })

-- between two numbers of an interval
pub ends_within : (j w : Interval) → j.least ≤ℤ w.least → w.least ≤ℤ w.greatest → w.greatest ≤ℤ j.greatest → HasEnds j w
ends_within j w lo h hi = record { least = record { above = lo; below = le_along _ _ _ h hi }; greatest = record { above = le_along _ _ _ lo h; below = hi } }

-- ---- what the code computes

pub code_product : (a b x y : ℤ) → x ≡ a → y ≡ b → IsIn words a → IsIn words b → to_z w128 (of_z w128 (x *ℤ y)) ≡ a *ℤ b
code_product a b x y e f h k = rw (e, f) (to_z-of_z w128 (a *ℤ b) (exact_fits (a *ℤ b) (product_exact a b h k)))

pub negative_times : (z : ℤ) (i : Interval) → int_lt z (pos 0) ≡ true → times z i ≡ from_to (z *ℤ i.greatest) (z *ℤ i.least)
negative_times z i h = ap (λ b. cond b (from_to (z *ℤ i.greatest) (z *ℤ i.least)) (from_to (z *ℤ i.least) (z *ℤ i.greatest))) h

pub other_times : (z : ℤ) (i : Interval) → int_lt z (pos 0) ≡ false → times z i ≡ from_to (z *ℤ i.least) (z *ℤ i.greatest)
other_times z i h = ap (λ b. cond b (from_to (z *ℤ i.greatest) (z *ℤ i.least)) (from_to (z *ℤ i.least) (z *ℤ i.greatest))) h

-- as many turns away or not
pub turned_apart : (t : Ty) (most : ℤ) (i : Interval) → (turns t i.least ≡ turns t i.greatest → ⊥) → wrapped_up_to t most i ≡ from_to (low t) most
turned_apart t most i h = ap (λ b. cond b (at_ends (wrap t) i) (from_to (low t) most)) (equal_no (turns t i.least) (turns t i.greatest) h)
