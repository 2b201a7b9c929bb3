-- Sums: their exact values, and those of two inputs.
use Rattle.std.proofs.Common.{◌≡◌, ℕ, zero, suc, ◌+◌, ◌*◌, ◌<◌, ℤ, pos, negsuc, ◌+ℤ◌, ◌-ℤ◌, ◌*ℤ◌, neg_ℤ, Bool, true, false, cond, not, ◌&&◌, ◌⊎◌, inl, inr, List, length, Option, refl, sym, ap, subst, ◌∙◌, arith, true≢false}
use Rattle.std.proofs.lemmas.Int.{ints}
use Rattle.std.proofs.lemmas.Nat.{mul-add-lt}
use Rattle.std.proofs.Math.Nat.{mul_comm}
use Rattle.std.specs.Prelude.{nat_eq, option_map}
use Rattle.sci_base.specs.Fit.{fit, int_eq}
use Rattle.sci_base.specs.Lists.{at}
use Rattle.sci_forms.specs.declared.Kind.{Kind}
use Rattle.sci_forms.specs.declared.Kind.TheVariants.{Summation, Select}
use Rattle.sci_forms.specs.declared.spec.Spec.{Spec}
use Rattle.sci_forms.specs.Form.{feeds, is_sensor}
use Rattle.sci_forms.specs.Typed.{typed}
use Rattle.sci_forms.specs.Words.{param, out_type, size}
use Rattle.sci_forms.proofs.TestLemmas.{both_true, nat_same, int_same}
use Rattle.sci_kinds.specs.Asks.{Asks, IsSign}
use Rattle.sci_kinds.specs.Table.{sum_to, input, mode_of, fitted, cell_of}
use Rattle.sci_kinds.proofs.Elements.{total_alike}
use Rattle.sci_kinds.proofs.LawProofs.{asks}
use Rattle.sci_ranges_base.specs.declared.interval.Interval.{Interval}
use Rattle.sci_ranges_base.specs.Intervals.{IsInSome, times}
use Rattle.sci_ranges_base.specs.Cells.{MayBe}
use Rattle.sci_ranges_base.proofs.Numbers.{times_has}
use Rattle.sci_ranges_base.proofs.Fitted.{fitted_has}
use Rattle.sci_ranges_rules.specs.Words.{input_range}
use Rattle.sci_ranges_rules.specs.Rules.{fitted_out}
use Rattle.sci_ranges_rules.proofs.Handing.{on_some_has, map_has, sums_have}
use Rattle.sci_ranges_refined.specs.Sums.{is_sum, exact_sum, sum_cells, adds_two, takes_difference, subtracted}
use Rattle.sci_ranges_refined.specs.Laws.{AreWithin, SumIsWithin, SumIsFitted}

pub sum_kind : (c : Kind) → is_sum c ≡ true → c ≡ Summation
sum_kind Summation h = refl
sum_kind _ h = absurd (true≢false (sym h))

-- it has feedthrough from each input, and is no sensor
pub sum_feeds : (c : Kind) (k : ℕ) → is_sum c ≡ true → feeds c k ≡ true
sum_feeds Summation k h = refl
sum_feeds _ k h = absurd (true≢false (sym h))

pub sum_senses_none : (c : Kind) → is_sum c ≡ true → is_sensor c ≡ false
sum_senses_none Summation h = refl
sum_senses_none _ h = absurd (true≢false (sym h))

pub sum_no_choice : (c : Kind) → is_sum c ≡ true → c ≡ Select → ⊥
sum_no_choice c h e = true≢false (sym (subst (λ k. is_sum k ≡ true) e h))

pub sum_asks : (s : Spec) → typed s ≡ true → is_sum s.kind ≡ true → Asks Summation s
sum_asks s h sum = subst (λ c. Asks c s) (sum_kind s.kind sum) (asks s h)

-- an element of an input is within its interval
pub input_within : (s : Spec) (us : List (Option Interval)) (u : List ℤ) (j e : ℕ) → typed s ≡ true → is_sum s.kind ≡ true → AreWithin s us u → j < length s.ins → e < size s
    → IsInSome (input_range (size s) us j e) (input (size s) u j e)
input_within s us u j e h sum within p q =
    let a = sum_asks s h sum in
    let all = total_alike s.ins _ (size s) a.0.ins_alike in
    within (j * size s + e) (omega (arith, mul-add-lt j (size s) e (length s.ins) p q, mul_comm (size s) (length s.ins), all))

pub sum_is_within : SumIsWithin
sum_is_within s us u e h sum within q =
    sums_have (λ j. option_map (times (param s (j + 1))) (input_range (size s) us j e)) (λ j. param s (j + 1) *ℤ input (size s) u j e) (length s.ins) (λ j p.
    map_has (times (param s (j + 1))) (input_range (size s) us j e) (input (size s) u j e) (param s (j + 1) *ℤ input (size s) u j e) (input_within s us u j e h sum within p q)
    (λ i g. times_has (param s (j + 1)) i (input (size s) u j e) g))

pub sum_is_fitted : SumIsFitted
sum_is_fitted s x m u e o sum h =
    subst (λ c. MayBe (sum_cells s o) (cell_of c s x m u e)) (sym (sum_kind s.kind sum))
    (on_some_has (fitted_out s) o (exact_sum s u e) (fitted (fit (out_type s) (mode_of (param s 0)) (exact_sum s u e))) h
    (λ i g. fitted_has (out_type s) (mode_of (param s 0)) i (exact_sum s u e) g))

-- ---- two inputs

sum_two : (f : ℕ → ℤ) (n : ℕ) → n ≡ 2 → sum_to f n ≡ f 0 +ℤ f 1
sum_two f n e = ap (sum_to f) e ∙ from_none (f 0) (f 1)
  where
    from_none : (a b : ℤ) → (pos 0 +ℤ a) +ℤ b ≡ a +ℤ b
    from_none a b = omega (arith, ints)

pub sum_same : (a b c d : ℤ) → a ≡ c → b ≡ d → a +ℤ b ≡ c +ℤ d
sum_same a b c d e f = omega (arith, ints)

one_times : (v : ℤ) → pos 1 *ℤ v ≡ v
one_times (pos n) = grind (arith, ints)
one_times (negsuc n) = grind (arith, ints)

minus_times : (v : ℤ) → negsuc 0 *ℤ v ≡ neg_ℤ v
minus_times (pos zero) = refl
minus_times (pos (suc n)) = grind (arith, ints)
minus_times (negsuc n) = grind (arith, ints)

pub by_one : (a v : ℤ) → a ≡ pos 1 → a *ℤ v ≡ v
by_one a v e = rw e (one_times v)

pub by_minus : (a v : ℤ) → a ≡ negsuc 0 → a *ℤ v ≡ neg_ℤ v
by_minus a v e = rw e (minus_times v)

pub two_added : (s : Spec) → adds_two s ≡ true → (is_sum s.kind ≡ true) × (length s.ins ≡ 2)
two_added s h =
    let p = both_true (is_sum s.kind) (nat_eq (length s.ins) 2 && (int_eq (param s 1) (pos 1) && int_eq (param s 2) (pos 1))) h in
    let q = both_true (nat_eq (length s.ins) 2) (int_eq (param s 1) (pos 1) && int_eq (param s 2) (pos 1)) p.1 in
    (p.0, nat_same (length s.ins) 2 q.0)

pub subtracted_less : (s : Spec) → subtracted s < 2
subtracted_less s = by_sign (int_eq (param s 1) (pos 1))
  where
    by_sign : (b : Bool) → cond b 1 0 < 2
    by_sign true = omega arith
    by_sign false = omega arith

pub added_two : (s : Spec) (u : List ℤ) (e : ℕ) → adds_two s ≡ true → exact_sum s u e ≡ input (size s) u 0 e +ℤ input (size s) u 1 e
added_two s u e h =
    let p = both_true (is_sum s.kind) (nat_eq (length s.ins) 2 && (int_eq (param s 1) (pos 1) && int_eq (param s 2) (pos 1))) h in
    let q = both_true (nat_eq (length s.ins) 2) (int_eq (param s 1) (pos 1) && int_eq (param s 2) (pos 1)) p.1 in
    let r = both_true (int_eq (param s 1) (pos 1)) (int_eq (param s 2) (pos 1)) q.1 in
    sum_two (λ k. param s (k + 1) *ℤ input (size s) u k e) (length s.ins) (nat_same (length s.ins) 2 q.0)
    ∙ two (param s 1) (param s 2) (input (size s) u 0 e) (input (size s) u 1 e) (int_same (param s 1) (pos 1) r.0) (int_same (param s 2) (pos 1) r.1)
  where
    two : (a b v w : ℤ) → a ≡ pos 1 → b ≡ pos 1 → (a *ℤ v) +ℤ (b *ℤ w) ≡ v +ℤ w
    two a b v w d f = sum_same (a *ℤ v) (b *ℤ w) v w (by_one a v d) (by_one b w f)

-- of a difference: which input is subtracted, and what its exact value is
abbrev pub Differs : (place : ℕ) (exact first second : ℤ) → Type 0
Differs place exact a b = ((place ≡ 1) × (exact ≡ a -ℤ b)) ⊎ ((place ≡ 0) × (exact ≡ b -ℤ a))

by_signs : (p q a b : ℤ) → IsSign p → IsSign q → not (int_eq p q) ≡ true → Differs (cond (int_eq p (pos 1)) 1 0) ((p *ℤ a) +ℤ (q *ℤ b)) a b
by_signs p q a b (inl f) (inl g) h = let same : not (int_eq (pos 1) (pos 1)) ≡ true = rw (f, g) at h in cc
by_signs p q a b (inr f) (inr g) h = let same : not (int_eq (negsuc 0) (negsuc 0)) ≡ true = rw (f, g) at h in cc
by_signs p q a b (inl f) (inr g) h = inl (rw f refl, less (p *ℤ a) (q *ℤ b) (by_one p a f) (by_minus q b g))
  where
    less : (x y : ℤ) → x ≡ a → y ≡ neg_ℤ b → x +ℤ y ≡ a -ℤ b
    less x y d k = omega (arith, ints)
by_signs p q a b (inr f) (inl g) h = inr (rw f refl, less (p *ℤ a) (q *ℤ b) (by_minus p a f) (by_one q b g))
  where
    less : (x y : ℤ) → x ≡ neg_ℤ a → y ≡ b → x +ℤ y ≡ b -ℤ a
    less x y d k = omega (arith, ints)

pub two_inputs : (s : Spec) → takes_difference s ≡ true → (is_sum s.kind ≡ true) × (length s.ins ≡ 2) × (not (int_eq (param s 1) (param s 2)) ≡ true)
two_inputs s h =
    let p = both_true (is_sum s.kind) (nat_eq (length s.ins) 2 && not (int_eq (param s 1) (param s 2))) h in
    let q = both_true (nat_eq (length s.ins) 2) (not (int_eq (param s 1) (param s 2))) p.1 in
    (p.0, nat_same (length s.ins) 2 q.0, q.1)

pub difference_is : (s : Spec) (u : List ℤ) (e : ℕ) → typed s ≡ true → takes_difference s ≡ true
    → Differs (subtracted s) (exact_sum s u e) (input (size s) u 0 e) (input (size s) u 1 e)
difference_is s u e h takes =
    let t = two_inputs s takes in
    let a = sum_asks s h t.0 in
    let both = by_signs (param s 1) (param s 2) (input (size s) u 0 e) (input (size s) u 1 e) (a.4 0 (omega (arith, t.1))) (a.4 1 (omega (arith, t.1))) t.2 in
    subst (λ z. Differs (subtracted s) z (input (size s) u 0 e) (input (size s) u 1 e))
    (sym (sum_two (λ k. param s (k + 1) *ℤ input (size s) u k e) (length s.ins) t.1)) both
