-- A value less itself shifted to the right, as one term of a sum.
use Rattle.std.proofs.Common.{◌≡◌, ◌≢◌, ℕ, zero, suc, ◌+◌, ◌*◌, ◌/◌, ◌-◌, ◌^◌, ◌<◌, ◌≤◌, ℤ, pos, negsuc, ◌+ℤ◌, ◌-ℤ◌, ◌*ℤ◌, neg_ℤ, ◌≤ℤ◌, Bool, true, false, cond, inl, inr, List, length, Option, Some, refl, sym, ap, subst, ◌∙◌, arith}
use Rattle.std.proofs.lemmas.Int.{ints}
use Rattle.std.proofs.lemmas.Bool.{cases_lt}
use Rattle.std.proofs.lemmas.Bool.Decides.{nat_tests}
use Rattle.std.proofs.lemmas.Nat.{pow_pos, div-add-mod', mod_below, div_below}
use Rattle.std.proofs.Math.Nat.{div-le_self, mul-le-mul_left}
use Rattle.std.specs.Prelude.{nat_eq, option_map}
use Rattle.std.specs.Int.{int_div_euclid}
use Rattle.sci_base.specs.Fit.{int_eq}
use Rattle.sci_forms.specs.declared.spec.Spec.{Spec}
use Rattle.sci_forms.specs.Typed.{typed}
use Rattle.sci_forms.specs.Words.{param, size}
use Rattle.sci_forms.proofs.TestLemmas.{int_same}
use Rattle.sci_kinds.specs.Table.{sum_to, input}
use Rattle.sci_ranges_base.specs.declared.interval.Interval.{Interval}
use Rattle.sci_ranges_base.specs.Intervals.{IsInSome, one, times, at_ends}
use Rattle.sci_ranges_base.proofs.Numbers.{NeverFalls, times_has, ends_have}
use Rattle.sci_ranges_rules.specs.Words.{input_range}
use Rattle.sci_ranges_rules.proofs.Handing.{one_has, map_has, sums_have}
use Rattle.sci_ranges_refined.specs.Sums.{is_sum, exact_sum, left_over, leaking_input, leaking_term, leaking_sums, AddsAndSubtracts}
use Rattle.sci_ranges_refined.specs.Laws.{AreWithin, LeakIsWithin}
use Rattle.sci_ranges_refined.proofs.Adding.{input_within, sum_same, by_one, by_minus}

-- ---- what is left never falls

-- a quotient rises by no more than the number
steps : (a d k : ℕ) → 0 < k → (a + d) / k ≤ a / k + d
steps a d k h =
    let split = div-add-mod' a k in
    let rest = mod_below a k h in
    let wide : d * 1 ≤ d * k = mul-le-mul_left d (omega (arith, h)) in
    let spread : ((a / k + d) + 1) * k ≡ (a / k * k + k) + d * k = grind arith in
    let below : (a + d) / k < (a / k + d) + 1 = div_below (a + d) k ((a / k + d) + 1) h (omega (arith, split, rest, wide, spread)) in
    omega (arith, below)

raised : (n a b : ℕ) → 0 < n → a ≤ b → b / n + a ≤ a / n + b
raised n a b h less =
    let up : a + (b - a) ≡ b = omega (arith, less) in
    let most : b / n ≤ a / n + (b - a) = subst (λ c. c / n ≤ a / n + (b - a)) up (steps a (b - a) n h) in
    omega (arith, most, less)

left_rises_by : (n : ℕ) → 0 < n → NeverFalls (λ v. v -ℤ int_div_euclid v (pos n))
left_rises_by n h (pos a) (pos b) l = let more = raised n a b h (omega (arith, ints, l)) in omega (arith, ints, more)
left_rises_by n h (pos a) (negsuc b) l = absurd (omega (arith, ints, l))
left_rises_by n h (negsuc a) (pos b) l = omega (arith, ints, div-le_self a n, div-le_self b n)
left_rises_by n h (negsuc a) (negsuc b) l = let more = raised n b a h (omega (arith, ints, l)) in omega (arith, ints, more)

pub left_rises : (places : ℕ) → NeverFalls (left_over places)
left_rises places = left_rises_by (2 ^ places) (pow_pos places)

-- ---- sums that differ in one term

same_below : (f g : ℕ → ℤ) (n : ℕ) → ((j : ℕ) → j < n → f j ≡ g j) → sum_to f n ≡ sum_to g n
same_below f g zero h = refl
same_below f g (suc n) h = sum_same (sum_to f n) (f n) (sum_to g n) (g n) (same_below f g n (λ j p. h j (omega (arith, p)))) (h n (omega arith))

changed : (f g : ℕ → ℤ) (k n : ℕ) → k < n → ((j : ℕ) → j ≢ k → f j ≡ g j) → sum_to f n +ℤ g k ≡ sum_to g n +ℤ f k
changed f g k zero l h = absurd (omega (arith, l))
changed f g k (suc n) l h = elim (cases_lt k n) [
  | inl p ↦ before (sum_to f n) (sum_to g n) (f n) (g n) (f k) (g k) (changed f g k n p h) (h n (λ e. absurd (omega (arith, p, e))))
  | inr p ↦ let e : k ≡ n = omega (arith, l, p) in
      subst (λ i. sum_to f (suc n) +ℤ g i ≡ sum_to g (suc n) +ℤ f i) (sym e)
      (there (sum_to f n) (sum_to g n) (f n) (g n) (same_below f g n (λ j q. h j (λ d. absurd (omega (arith, q, d, e))))))
]
  where
    before : (a b c d v w : ℤ) → a +ℤ w ≡ b +ℤ v → c ≡ d → (a +ℤ c) +ℤ w ≡ (b +ℤ d) +ℤ v
    before a b c d v w p q = omega (arith, ints)

    there : (a b c d : ℤ) → a ≡ b → (a +ℤ c) +ℤ d ≡ (b +ℤ d) +ℤ c
    there a b c d p = omega (arith, ints)

-- ---- the leaking sum

-- the numbers of the inputs, and those of the terms
abbrev leaking_value : Spec → (k l places : ℕ) → List ℤ → (e j : ℕ) → ℤ
leaking_value s k l places u e j = cond (nat_eq j l) (pos 0) (cond (nat_eq j k) (left_over places (input (size s) u j e)) (input (size s) u j e))

abbrev leaking : Spec → (k l places : ℕ) → List ℤ → (e j : ℕ) → ℤ
leaking s k l places u e j = param s (j + 1) *ℤ leaking_value s k l places u e j

-- those of the sum, but for that of one input
abbrev without : Spec → ℕ → List ℤ → (e j : ℕ) → ℤ
without s l u e j = param s (j + 1) *ℤ cond (nat_eq j l) (pos 0) (input (size s) u j e)

equal_yes : (a b : ℕ) → a ≡ b → nat_eq a b ≡ true
equal_yes a b h = grind (arith, nat_tests)

other_no : (a b : ℕ) → a ≢ b → nat_eq a b ≡ false
other_no a b h = grind (arith, nat_tests)

module _ (s : Spec) (us : List (Option Interval)) (u : List ℤ) (k l places e : ℕ) (h : typed s ≡ true) (sum : is_sum s.kind ≡ true) (inside : AreWithin s us u) (q : e < size s)
    (pk : k < length s.ins) (pl : l < length s.ins) (signs : AddsAndSubtracts s k l)
    (shifted : input (size s) u l e ≡ int_div_euclid (input (size s) u k e) (pos (2 ^ places))) where
  value_has : (j : ℕ) → j < length s.ins → IsInSome (leaking_input s k l places us e j) (leaking_value s k l places u e j)
  value_has j p = by_place (nat_eq j l) (nat_eq j k)
    where
      by_place : (a b : Bool)
          → IsInSome (cond a (Some (one (pos 0))) (cond b (option_map (at_ends (left_over places)) (input_range (size s) us j e)) (input_range (size s) us j e)))
          (cond a (pos 0) (cond b (left_over places (input (size s) u j e)) (input (size s) u j e)))
      by_place true b = one_has (pos 0)
      by_place false true =
          map_has (at_ends (left_over places)) (input_range (size s) us j e) (input (size s) u j e) (left_over places (input (size s) u j e)) (input_within s us u j e h sum inside p q)
          (λ i g. ends_have (left_over places) i (input (size s) u j e) (left_rises places) g)
      by_place false false = input_within s us u j e h sum inside p q

  term_has : (j : ℕ) → j < length s.ins → IsInSome (leaking_term s k l places us e j) (leaking s k l places u e j)
  term_has j p =
      map_has (times (param s (j + 1))) (leaking_input s k l places us e j) (leaking_value s k l places u e j) (leaking s k l places u e j) (value_has j p)
      (λ i g. times_has (param s (j + 1)) i (leaking_value s k l places u e j) g)

  one_is : param s (k + 1) ≡ pos 1
  one_is = int_same (param s (k + 1)) (pos 1) signs.added

  minus_is : param s (l + 1) ≡ negsuc 0
  minus_is = int_same (param s (l + 1)) (negsuc 0) signs.taken

  apart : k ≢ l
  apart f = let same : pos 1 ≡ negsuc 0 = sym one_is ∙ (ap (λ i. param s (i + 1)) f ∙ minus_is) in cc

  -- input l taken out
  without_at : without s l u e l ≡ pos 0
  without_at = rw (equal_yes l l refl) (by_minus (param s (l + 1)) (pos 0) minus_is)

  without_other : (j : ℕ) → j ≢ l → without s l u e j ≡ param s (j + 1) *ℤ input (size s) u j e
  without_other j f = rw (other_no j l f) refl

  first_change : sum_to (λ j. param s (j + 1) *ℤ input (size s) u j e) (length s.ins) +ℤ without s l u e l
      ≡ sum_to (without s l u e) (length s.ins) +ℤ (param s (l + 1) *ℤ input (size s) u l e)
  first_change = changed (λ j. param s (j + 1) *ℤ input (size s) u j e) (without s l u e) l (length s.ins) pl (λ j f. sym (without_other j f))

  -- and input k made what is left
  leaking_at : leaking s k l places u e k ≡ left_over places (input (size s) u k e)
  leaking_at = rw (other_no k l apart, equal_yes k k refl) (by_one (param s (k + 1)) (left_over places (input (size s) u k e)) one_is)

  leaking_other : (j : ℕ) → j ≢ k → without s l u e j ≡ leaking s k l places u e j
  leaking_other j f = rw (other_no j k f) refl

  second_change : sum_to (without s l u e) (length s.ins) +ℤ leaking s k l places u e k ≡ sum_to (leaking s k l places u e) (length s.ins) +ℤ without s l u e k
  second_change = changed (without s l u e) (leaking s k l places u e) k (length s.ins) pk leaking_other

  taken_is : param s (l + 1) *ℤ input (size s) u l e ≡ neg_ℤ (int_div_euclid (input (size s) u k e) (pos (2 ^ places)))
  taken_is = by_minus (param s (l + 1)) (input (size s) u l e) minus_is ∙ ap neg_ℤ shifted

  total_same : exact_sum s u e ≡ sum_to (leaking s k l places u e) (length s.ins)
  total_same =
      settled (exact_sum s u e) (sum_to (without s l u e) (length s.ins)) (sum_to (leaking s k l places u e) (length s.ins)) (without s l u e l) (param s (l + 1) *ℤ input (size s) u l e)
      (leaking s k l places u e k) (without s l u e k) (input (size s) u k e) (int_div_euclid (input (size s) u k e) (pos (2 ^ places))) first_change second_change without_at
      taken_is leaking_at (without_other k apart ∙ by_one (param s (k + 1)) (input (size s) u k e) one_is)
    where
      settled : (f h g a b c d x y : ℤ) → f +ℤ a ≡ h +ℤ b → h +ℤ c ≡ g +ℤ d → a ≡ pos 0 → b ≡ neg_ℤ y → c ≡ x -ℤ y → d ≡ x → f ≡ g
      settled f h g a b c d x y p r t v w z = omega (arith, ints)

  leak_within : IsInSome (leaking_sums s k l places us e) (exact_sum s u e)
  leak_within =
      subst (IsInSome (leaking_sums s k l places us e)) (sym total_same)
      (sums_have (leaking_term s k l places us e) (leaking s k l places u e) (length s.ins) term_has)

pub leak_is_within : LeakIsWithin
leak_is_within s us u k l places e h sum inside q pk pl signs shifted = leak_within s us u k l places e h sum inside q pk pl signs shifted
