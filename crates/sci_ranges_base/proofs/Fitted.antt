-- What is fitted of the numbers of an interval.
use Rattle.std.proofs.Common.{◌≡◌, ℕ, ◌<◌, ◌/◌, ◌*◌, ◌^◌, ℤ, pos, negsuc, ◌+ℤ◌, ◌-ℤ◌, ◌*ℤ◌, ◌≤ℤ◌, ◌<ℤ◌, Bool, true, false, Some, refl, sym, ap, ◌∙◌, arith, cond, ◌&&◌}
use Rattle.std.proofs.lemmas.Int.{ints}
use Rattle.std.proofs.lemmas.Nat.{le-div}
use Rattle.std.proofs.Math.Nat.{div-mul-le_self, zero-mul}
use Rattle.std.specs.Prelude.{int_lt}
use Rattle.std.specs.Int.{int_rem_euclid, int_div_euclid}
use Rattle.sci_base.specs.declared.Ty.{Ty}
use Rattle.sci_base.specs.declared.Mode.{Mode}
use Rattle.sci_base.specs.declared.Mode.TheVariants.{Wrap, Saturate, Stop}
use Rattle.sci_base.specs.Fit.{low, high, span, width, wrap, in_range, fit, InRange, int_eq}
use Rattle.sci_base.proofs.FitLemmas.{span_pos, low≤high, fit_inside, fit_below, fit_above, wrap_bounds, wrap_law}
use Rattle.sci_forms.proofs.TestLemmas.{both_true, int_lt_told, int_same, in_range_told}
use Rattle.sci_kinds.specs.Table.{brought, fitted}
use Rattle.sci_ranges_base.specs.declared.interval.Interval.{Interval}
use Rattle.sci_ranges_base.specs.Intervals.{IsIn, from_to, whole, at_ends}
use Rattle.sci_ranges_base.specs.Cells.{MayBe}
use Rattle.sci_ranges_base.specs.Fitting.{turns, wrapped, wrapped_up_to, fitted_beyond}
use Rattle.sci_ranges_base.specs.Laws.{FittedLaw}
use Rattle.sci_ranges_base.proofs.Numbers.{NeverFalls, ends_have, met_has, le_along}

-- ---- turns

-- a quotient rounded down never falls
pub floor_rises : (n : ℕ) → 0 < n → NeverFalls (λ z. int_div_euclid z (pos n))
floor_rises n h (pos a) (pos b) k = let l = le-div (a / n) b n h (omega (arith, ints, k, div-mul-le_self a n)) in omega (arith, ints, l)
floor_rises n h (pos a) (negsuc b) k = absurd (omega (arith, ints, k))
floor_rises n h (negsuc a) (pos b) k = omega (arith, ints)
floor_rises n h (negsuc a) (negsuc b) k = let l = le-div (b / n) a n h (omega (arith, ints, k, div-mul-le_self b n)) in omega (arith, ints, l)

turns_rise : (t : Ty) → NeverFalls (turns t)
turns_rise t u v h = floor_rises (span t) (span_pos t) (u -ℤ low t) (v -ℤ low t) (omega (arith, ints, h))

-- a number is its quotient and its remainder
floor-rem : (z : ℤ) (n : ℕ) → 0 < n → z ≡ int_rem_euclid z (pos n) +ℤ (int_div_euclid z (pos n) *ℤ pos n)
floor-rem (pos a) n h = grind (arith, ints)
floor-rem (negsuc a) n h = grind (arith, ints)

-- what wraps differs by as many spans as there are turns
turned : (t : Ty) (v : ℤ) → v ≡ wrap t v +ℤ (turns t v *ℤ pos (span t))
turned t v = apart v (low t) _ _ (floor-rem (v -ℤ low t) (span t) (span_pos t))
  where
    apart : (v l r k : ℤ) → v -ℤ l ≡ r +ℤ k → v ≡ (l +ℤ r) +ℤ k
    apart v l r k h = omega (arith, ints)

-- as many turns away, the wrapped numbers lie as the numbers do
wrap_rises : (t : Ty) (u v : ℤ) → turns t u ≡ turns t v → u ≤ℤ v → wrap t u ≤ℤ wrap t v
wrap_rises t u v e h = by_spans u v (wrap t u) (wrap t v) (turns t u *ℤ pos (span t)) (turned t u) (rw e (turned t v)) h
  where
    by_spans : (u v w x k : ℤ) → u ≡ w +ℤ k → v ≡ x +ℤ k → u ≤ℤ v → w ≤ℤ x
    by_spans u v w x k p q l = omega (arith, ints)

-- ---- wrapped

-- where the numbers that differ in turns are at most a greatest one
pub wrapped_up_to_has : (t : Ty) (most : ℤ) (i : Interval) (v : ℤ) → wrap t v ≤ℤ most → IsIn i v → IsIn (wrapped_up_to t most i) (wrap t v)
wrapped_up_to_has t most i v m h = by_turns (int_eq (turns t i.least) (turns t i.greatest)) refl
  where
    by_turns : (b : Bool) → int_eq (turns t i.least) (turns t i.greatest) ≡ b → IsIn (cond b (at_ends (wrap t) i) (from_to (low t) most)) (wrap t v)
    by_turns true e =
        let same = int_same (turns t i.least) (turns t i.greatest) e in
        let lo = turns_rise t i.least v h.above in
        let hi = turns_rise t v i.greatest h.below in
        record {
          above = wrap_rises t i.least v (equal _ _ _ lo hi same) h.above;
          below = wrap_rises t v i.greatest (sym (equal _ _ _ lo hi same) ∙ same) h.below;
        }
      where
        equal : (a b c : ℤ) → a ≤ℤ b → b ≤ℤ c → a ≡ c → a ≡ b
        equal a b c p q r = omega (arith, ints)
    by_turns false e = let w = wrap_bounds t v in record { above = w.above; below = m }

pub wrapped_has : (t : Ty) (i : Interval) (v : ℤ) → IsIn i v → IsIn (wrapped t i) (wrap t v)
wrapped_has t i v h = wrapped_up_to_has t (high t) i v (wrap_bounds t v).below h

-- ---- fitted

-- a number in range wraps to itself
pub wrap_inside : (t : Ty) (v : ℤ) → InRange t v → wrap t v ≡ v
wrap_inside t v h = sym ((wrap_law t v).only v (record { in_range = h; times = pos 0; differs = and_none v (2 ^ width t) }))
  where
    and_none : (v : ℤ) (n : ℕ) → v ≡ v +ℤ (pos 0 *ℤ pos n)
    and_none v n = let z : pos (0 * n) ≡ pos 0 = ap pos (zero-mul n) in rw z (omega (arith, ints))

-- a number in range, below it or above it
by_place : {P : Type 0} (t : Ty) (v : ℤ) → (InRange t v → P) → (v <ℤ low t → P) → (high t <ℤ v → P) → P
by_place {P} t v f g h = by_low (int_lt v (low t)) refl
  where
    by_high : (b : Bool) → int_lt v (low t) ≡ false → int_lt (high t) v ≡ b → P
    by_high true p q = h (int_lt_told (high t) v q)
    by_high false p q = f (record { above = grind (arith, ints); below = grind (arith, ints) })

    by_low : (b : Bool) → int_lt v (low t) ≡ b → P
    by_low true p = g (int_lt_told v (low t) p)
    by_low false p = by_high (int_lt (high t) v) p refl

pub fit_wrap : (t : Ty) (v : ℤ) → fit t Wrap v ≡ Some (wrap t v)
fit_wrap t v = by_place t v
    (λ h. fit_inside t Wrap v h.above h.below ∙ ap Some (sym (wrap_inside t v h)))
    (λ l. fit_below t Wrap v l)
    (λ l. fit_above t Wrap v l)

int_lt_yes : (a b : ℤ) → a <ℤ b → int_lt a b ≡ true
int_lt_yes a b h = grind (arith, ints)

pub int_lt_no : (a b : ℤ) → b ≤ℤ a → int_lt a b ≡ false
int_lt_no a b h = grind (arith, ints)

-- a number brought between two is the nearer one
brought_inside : (a b v : ℤ) → a ≤ℤ v → v ≤ℤ b → brought a b v ≡ v
brought_inside a b v h k = rw (int_lt_no v a h, int_lt_no b v k) refl

brought_below : (a b v : ℤ) → v <ℤ a → brought a b v ≡ a
brought_below a b v h = rw (int_lt_yes v a h) refl

brought_above : (a b v : ℤ) → a ≤ℤ v → b <ℤ v → brought a b v ≡ b
brought_above a b v h k = rw (int_lt_no v a h, int_lt_yes b v k) refl

pub fit_saturate : (t : Ty) (v : ℤ) → fit t Saturate v ≡ Some (brought (low t) (high t) v)
fit_saturate t v = by_place t v
    (λ h. fit_inside t Saturate v h.above h.below ∙ ap Some (sym (brought_inside (low t) (high t) v h.above h.below)))
    (λ l. fit_below t Saturate v l ∙ ap Some (rw (int_lt_yes v (low t) l) refl ∙ sym (brought_below (low t) (high t) v l)))
    (λ l. let a = low≤high t in let o : low t ≤ℤ v = omega (arith, ints) in
    fit_above t Saturate v l ∙ ap Some (rw (int_lt_no v (low t) o) refl ∙ sym (brought_above (low t) (high t) v o l)))

pub brought_rises : (a b : ℤ) → a ≤ℤ b → NeverFalls (brought a b)
brought_rises a b h u v k = by_low (int_lt u a) (int_lt v a) refl refl
  where
    by_high : (c d : Bool) → int_lt u a ≡ false → int_lt v a ≡ false → int_lt b u ≡ c → int_lt b v ≡ d → cond c b u ≤ℤ cond d b v
    by_high true true p q r s = omega (arith, ints)
    by_high true false p q r s = grind (arith, ints)
    by_high false true p q r s = grind (arith, ints)
    by_high false false p q r s = k

    top : (d : Bool) → int_lt v a ≡ false → int_lt b v ≡ d → a ≤ℤ cond d b v
    top true q s = h
    top false q s = grind (arith, ints)

    by_low : (c d : Bool) → int_lt u a ≡ c → int_lt v a ≡ d → cond c a (cond (int_lt b u) b u) ≤ℤ cond d a (cond (int_lt b v) b v)
    by_low true true p q = omega (arith, ints)
    by_low true false p q = top (int_lt b v) q refl
    by_low false true p q = absurd (grind (arith, ints))
    by_low false false p q = by_high (int_lt b u) (int_lt b v) p q refl refl

-- where an end is out of range
beyond_has : (t : Ty) (m : Mode) (i : Interval) (v : ℤ) → IsIn i v → MayBe (fitted_beyond t m i) (fitted (fit t m v))
beyond_has t Wrap i v h = rw (fit_wrap t v) (wrapped_has t i v h)
beyond_has t Saturate i v h = rw (fit_saturate t v) (ends_have (brought (low t) (high t)) i v (brought_rises (low t) (high t) (low≤high t)) h)
beyond_has t Stop i v h = by_place t v
    (λ r. rw (fit_inside t Stop v r.above r.below) (met_has i (whole t) v h (record { above = r.above; below = r.below })))
    (λ l. rw (fit_below t Stop v l) refl)
    (λ l. rw (fit_above t Stop v l) refl)

pub fitted_has : FittedLaw
fitted_has t m i v h = by_ends (in_range t i.least && in_range t i.greatest) refl
  where
    by_ends : (b : Bool) → (in_range t i.least && in_range t i.greatest) ≡ b
        → MayBe (cond b (record { values = Some i; overflow = false; zero = false }) (fitted_beyond t m i)) (fitted (fit t m v))
    by_ends true e =
        let p = both_true (in_range t i.least) (in_range t i.greatest) e in
        let lo = (in_range_told t i.least p.0).above in
        let hi = (in_range_told t i.greatest p.1).below in
        rw (fit_inside t m v (le_along _ _ _ lo h.above) (le_along _ _ _ h.below hi)) h
    by_ends false e = beyond_has t m i v h
