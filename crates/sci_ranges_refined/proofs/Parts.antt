-- Parts of numbers, and the kinds that give parts of what they are given.
use Rattle.std.proofs.Common.{◌≡◌, ℕ, ◌^◌, ◌<◌, ◌/◌, ℤ, pos, negsuc, ◌-ℤ◌, ◌≤ℤ◌, ◌<ℤ◌, Bool, true, false, cond, not, ◌&&◌, ◌||◌, List, length, Option, Some, None, refl, sym, ap, subst, ◌∙◌, arith, true≢false}
use Rattle.std.proofs.lemmas.Int.{ints, clamps}
use Rattle.std.proofs.Math.Nat.{div-le_self}
use Rattle.std.specs.Prelude.{int_lt, int_le, nat_lt, unsigned_abs}
use Rattle.std.specs.Int.{int_min, int_max, int_div_euclid}
use Rattle.sci_base.specs.declared.Ty.{Ty}
use Rattle.sci_base.specs.declared.Mode.{Mode}
use Rattle.sci_base.specs.declared.Mode.TheVariants.{Wrap, Saturate, Stop}
use Rattle.sci_base.specs.Fit.{InRange, low, high, in_range, fit, int_eq}
use Rattle.sci_base.specs.Lists.{at}
use Rattle.sci_base.proofs.FitLemmas.{fit_inside}
use Rattle.sci_forms.specs.declared.Kind.{Kind}
use Rattle.sci_forms.specs.declared.Kind.TheVariants.{Saturation, DeadBand, Shift, SampHold}
use Rattle.sci_forms.specs.declared.spec.Spec.{Spec}
use Rattle.sci_forms.specs.Form.{feeds, is_sensor}
use Rattle.sci_forms.specs.Typed.{typed}
use Rattle.sci_forms.specs.Words.{param, out_type, size}
use Rattle.sci_forms.proofs.TestLemmas.{both_true, int_le_told, int_lt_told}
use Rattle.sci_kinds.specs.declared.Cell.{Cell}
use Rattle.sci_kinds.specs.declared.Cell.TheVariants.{Value}
use Rattle.sci_kinds.specs.Asks.{Asks, IsAlikeSpec}
use Rattle.sci_kinds.specs.Table.{mode_of, brought, fitted, beyond_cell, shift_cell, cell_of}
use Rattle.sci_kinds.proofs.LawProofs.{asks}
use Rattle.sci_kinds.proofs.Ranges.{zero_in_range, elem}
use Rattle.sci_ranges_base.specs.declared.interval.Interval.{Interval}
use Rattle.sci_ranges_base.specs.Intervals.{IsIn, IsInSome, whole, within}
use Rattle.sci_ranges_base.proofs.Numbers.{within_has}
use Rattle.sci_ranges_base.proofs.Fitted.{fit_saturate}
use Rattle.sci_ranges_rules.specs.Words.{beyond}
use Rattle.sci_ranges_rules.specs.Rules.{exact_sums}
use Rattle.sci_ranges_rules.proofs.Arithmetic.{beyond_is_fitted}
use Rattle.sci_ranges_refined.specs.Sums.{is_sum, exact_sum, never_wraps, keeps_sum, IsPartOf, goes_right, shrinks_of, shrinks, shifts_of, shifts_right, places_of}
use Rattle.sci_ranges_refined.specs.Laws.{DifferenceGivesPart, ShrinkingGivesPart, PartOfPart, ShiftIsQuotient}
use Rattle.sci_ranges_refined.proofs.Adding.{sum_kind, sum_is_within, two_inputs}

-- ---- numbers

pub itself : (d : ℤ) → IsPartOf d d
itself d = record { above = omega (arith, ints, clamps); below = omega (arith, ints, clamps) }

pub same_part : (d v : ℤ) → d ≡ v → IsPartOf d v
same_part d v e = subst (IsPartOf d) e (itself d)

pub part_of_part : PartOfPart
part_of_part d v w h k = record {
  above = omega (arith, ints, clamps, h.above, h.below, k.above, k.below);
  below = omega (arith, ints, clamps, h.above, h.below, k.above, k.below);
}

brought_part : (a b v : ℤ) → a ≤ℤ pos 0 → pos 0 ≤ℤ b → IsPartOf v (brought a b v)
brought_part a b v h k = by_low (int_lt v a) refl
  where
    by_high : (d : Bool) → int_lt b v ≡ d → IsPartOf v (cond d b v)
    by_high true p = let over : b <ℤ v = int_lt_told b v p in record { above = omega (arith, ints, clamps); below = omega (arith, ints, clamps) }
    by_high false p = itself v

    by_low : (c : Bool) → int_lt v a ≡ c → IsPartOf v (cond c a (cond (int_lt b v) b v))
    by_low true p = let under : v <ℤ a = int_lt_told v a p in record { above = omega (arith, ints, clamps); below = omega (arith, ints, clamps) }
    by_low false p = by_high (int_lt b v) refl

beyond_part : (a b v : ℤ) → a ≤ℤ pos 0 → pos 0 ≤ℤ b → IsPartOf v (beyond a b v)
beyond_part a b v h k = by_high (int_lt b v) refl
  where
    by_low : (d : Bool) → int_lt v a ≡ d → IsPartOf v (cond d (v -ℤ a) (pos 0))
    by_low true p = let under : v <ℤ a = int_lt_told v a p in record { above = omega (arith, ints, clamps); below = omega (arith, ints, clamps) }
    by_low false p = record { above = omega (arith, ints, clamps); below = omega (arith, ints, clamps) }

    by_high : (c : Bool) → int_lt b v ≡ c → IsPartOf v (cond c (v -ℤ b) (cond (int_lt v a) (v -ℤ a) (pos 0)))
    by_high true p = let over : b <ℤ v = int_lt_told b v p in record { above = omega (arith, ints, clamps); below = omega (arith, ints, clamps) }
    by_high false p = by_low (int_lt v a) refl

floor_part : (v : ℤ) (n : ℕ) → IsPartOf v (int_div_euclid v (pos n))
floor_part (pos a) n = let less = div-le_self a n in record { above = omega (arith, ints, clamps, less); below = omega (arith, ints, clamps, less) }
floor_part (negsuc a) n = let less = div-le_self a n in record { above = omega (arith, ints, clamps, less); below = omega (arith, ints, clamps, less) }

part_in_range : (t : Ty) (d v : ℤ) → InRange t d → IsPartOf d v → InRange t v
part_in_range t d v r h =
    let o = zero_in_range t in
    record { above = omega (arith, ints, clamps, r.above, o.above, h.above); below = omega (arith, ints, clamps, r.below, o.below, h.below) }

-- ---- cells

value_same : (w v : ℤ) → Value w ≡ Value v → w ≡ v
value_same w v e = cc

some_same : (w v : ℤ) → Some w ≡ Some v → w ≡ v
some_same w v e = cc

fitted_value : (o : Option ℤ) (v : ℤ) → fitted o ≡ Value v → o ≡ Some v
fitted_value (Some w) v e = ap Some (value_same w v e)
fitted_value None v e = cc

shift_right : (t : Ty) (n r v : ℤ) → int_lt n (pos 0) ≡ true → int_eq r (pos 0) ≡ true → shift_cell t n r v ≡ Value (int_div_euclid v (pos (2 ^ unsigned_abs n)))
shift_right t n r v h k = rw (k, h) refl

-- what a shift to the right gives
right_is : (s : Spec) (w v : ℤ) → goes_right s ≡ true → shift_cell (out_type s) (param s 0) (param s 1) w ≡ Value v → int_div_euclid w (pos (2 ^ places_of s)) ≡ v
right_is s w v h given =
    let p = both_true (int_lt (param s 0) (pos 0)) (int_eq (param s 1) (pos 0)) h in
    value_same (int_div_euclid w (pos (2 ^ places_of s))) v (sym (shift_right (out_type s) (param s 0) (param s 1) w p.0 p.1) ∙ given)

pub shift_is_quotient : ShiftIsQuotient
shift_is_quotient s x m u e v h given = by_kind s.kind h given
  where
    by_kind : (c : Kind) → shifts_of c s ≡ true → cell_of c s x m u e ≡ Value v → v ≡ int_div_euclid (at u e) (pos (2 ^ places_of s))
    by_kind Shift k g = sym (right_is s (at u e) v k g)
    by_kind _ k g = absurd (true≢false (sym k))

pub shrinking_gives_part : ShrinkingGivesPart
shrinking_gives_part s x m u e v h shrinking fills q given = by_kind s.kind refl shrinking given
  where
    by_kind : (c : Kind) → s.kind ≡ c → shrinks_of c s ≡ true → cell_of c s x m u e ≡ Value v → IsPartOf (at u e) v
    by_kind Saturation kd k g =
        let p = both_true (int_le (param s 0) (pos 0)) (int_le (pos 0) (param s 1)) k in
        subst (IsPartOf (at u e)) (value_same (brought (param s 0) (param s 1) (at u e)) v g)
        (brought_part (param s 0) (param s 1) (at u e) (int_le_told (param s 0) (pos 0) p.0) (int_le_told (pos 0) (param s 1) p.1))
    by_kind DeadBand kd k g =
        let p = both_true (int_le (param s 1) (pos 0)) (int_le (pos 0) (param s 2)) k in
        let a : Asks DeadBand s = subst (λ c. Asks c s) kd (asks s h) in
        let part = beyond_part (param s 1) (param s 2) (at u e) (int_le_told (param s 1) (pos 0) p.0) (int_le_told (pos 0) (param s 2) p.1) in
        let there = part_in_range (out_type s) (at u e) (beyond (param s 1) (param s 2) (at u e)) (elem s u e a.0 a.1 fills q) part in
        let fits = fitted_value (fit (out_type s) (mode_of (param s 0)) (beyond (param s 1) (param s 2) (at u e))) v
        (sym (beyond_is_fitted (out_type s) (mode_of (param s 0)) (param s 1) (param s 2) (at u e)) ∙ g) in
        subst (IsPartOf (at u e))
        (some_same (beyond (param s 1) (param s 2) (at u e)) v
        (sym (fit_inside (out_type s) (mode_of (param s 0)) (beyond (param s 1) (param s 2) (at u e)) there.above there.below) ∙ fits))
        part
    by_kind Shift kd k g = subst (IsPartOf (at u e)) (right_is s (at u e) v k g) (floor_part (at u e) (2 ^ places_of s))
    by_kind SampHold kd k g = same_part (at u e) v (value_same (at u e) v g)
    by_kind _ kd k g = absurd (true≢false (sym k))

-- what a kind that shrinks has: one input like its output, with feedthrough; and it is no sensor
pub record IsShrinking (c : Kind) (s : Spec) : Type 0 where
  pub alike : IsAlikeSpec s
  pub one : length s.ins ≡ 1
  pub through : (k : ℕ) → feeds c k ≡ true
  pub no_sensor : is_sensor c ≡ false

pub shrinking_is : (s : Spec) → typed s ≡ true → shrinks s ≡ true → IsShrinking s.kind s
shrinking_is s h shrinking = by_kind s.kind (asks s h) shrinking
  where
    by_kind : (c : Kind) → Asks c s → shrinks_of c s ≡ true → IsShrinking c s
    by_kind Saturation a k = record { alike = a.0; one = a.1; through = λ i. refl; no_sensor = refl }
    by_kind DeadBand a k = record { alike = a.0; one = a.1; through = λ i. refl; no_sensor = refl }
    by_kind Shift a k = record { alike = a.0; one = a.1; through = λ i. refl; no_sensor = refl }
    by_kind SampHold a k = record { alike = a.0; one = a.1; through = λ i. refl; no_sensor = refl }
    by_kind _ a k = absurd (true≢false (sym k))

pub shift_shrinks : (s : Spec) → shifts_right s ≡ true → shrinks s ≡ true
shift_shrinks s h = by_kind s.kind h
  where
    by_kind : (c : Kind) → shifts_of c s ≡ true → shrinks_of c s ≡ true
    by_kind Shift k = k
    by_kind _ k = absurd (true≢false (sym k))

-- ---- differences

stop_same : (t : Ty) (z v : ℤ) → fit t Stop z ≡ Some v → z ≡ v
stop_same t z v h = by_range (in_range t z) h
  where
    by_range : (b : Bool) → cond b (Some z) None ≡ Some v → z ≡ v
    by_range true g = some_same z v g
    by_range false g = cc

-- a number that doesn't wrap is fitted to a part of itself
fit_part : (t : Ty) (m : Mode) (z v : ℤ) → (m ≡ Wrap → InRange t z) → fit t m z ≡ Some v → IsPartOf z v
fit_part t Wrap z v inside h = let i = inside refl in same_part z v (some_same z v (sym (fit_inside t Wrap z i.above i.below) ∙ h))
fit_part t Saturate z v inside h =
    let o = zero_in_range t in subst (IsPartOf z) (some_same (brought (low t) (high t) z) v (sym (fit_saturate t z) ∙ h)) (brought_part (low t) (high t) z o.above o.below)
fit_part t Stop z v inside h = same_part z v (stop_same t z v h)

some_within : (o : Option Interval) (j : Interval) (v : ℤ) → within o (Some j) ≡ true → IsInSome o v → IsIn j v
some_within None j v w h = absurd h
some_within (Some i) j v w h = within_has i j v w h

not_wrap : (c : Bool) → cond c Saturate Stop ≡ Wrap → ⊥
not_wrap true h = cc
not_wrap false h = cc

kept_in : (s : Spec) (us : List (Option Interval)) (e : ℕ) (z : ℤ) → keeps_sum s us e ≡ true → IsInSome (exact_sums s us e) z → mode_of (param s 0) ≡ Wrap → InRange (out_type s) z
kept_in s us e z keeps there wraps =
    let p = both_true (is_sum s.kind) (nat_lt e (size s) && never_wraps s us e) keeps in
    by_code (int_eq (param s 0) (pos 0)) (both_true (nat_lt e (size s)) (never_wraps s us e) p.1).1 wraps
  where
    by_code : (b : Bool) → (not b || within (exact_sums s us e) (Some (whole (out_type s)))) ≡ true → cond b Wrap (cond (int_eq (param s 0) (pos 1)) Saturate Stop) ≡ Wrap
        → InRange (out_type s) z
    by_code true k w = let i = some_within (exact_sums s us e) (whole (out_type s)) z k there in record { above = i.above; below = i.below }
    by_code false k w = absurd (not_wrap (int_eq (param s 0) (pos 1)) w)

pub difference_gives_part : DifferenceGivesPart
difference_gives_part s us x m u e v h takes inside q keeps given =
    let t = two_inputs s takes in
    let cell_is : fitted (fit (out_type s) (mode_of (param s 0)) (exact_sum s u e)) ≡ Value v = sym (ap (λ c. cell_of c s x m u e) (sum_kind s.kind t.0)) ∙ given in
    fit_part (out_type s) (mode_of (param s 0)) (exact_sum s u e) v (kept_in s us e (exact_sum s u e) keeps (sum_is_within s us u e h t.0 inside q))
    (fitted_value (fit (out_type s) (mode_of (param s 0)) (exact_sum s u e)) v cell_is)
