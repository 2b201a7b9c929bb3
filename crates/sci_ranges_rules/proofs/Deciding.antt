-- LOGICAL_OP on truths, RELATIONALOP, LOGIC, SWITCH2_m: truths of the numbers of intervals.
use Rattle.std.proofs.Common.{◌≡◌, ◌≢◌, ℕ, zero, suc, ◌+◌, ◌-◌, ◌*◌, ◌/◌, ◌%◌, ◌<◌, ◌≤◌, ℤ, pos, negsuc, ◌-ℤ◌, ◌≤ℤ◌, ◌<ℤ◌, Bool, true, false, Option, Some, None, List, refl, ap, ◌∙◌, arith, subst, cond, ◌&&◌, not, inl, inr}
use Rattle.std.proofs.lemmas.Int.{ints}
use Rattle.std.proofs.lemmas.Bool.{cases_lt}
use Rattle.std.specs.Prelude.{int_lt, int_le, option_map}
use Rattle.sci_base.specs.Fit.{int_eq}
use Rattle.sci_base.specs.Lists.{at}
use Rattle.sci_base.proofs.FitLemmas.{int_le_yes}
use Rattle.sci_forms.proofs.TestLemmas.{both_true, int_same, int_le_told}
use Rattle.sci_kinds.specs.Table.{truth, logical, relation, count_to, row_to, least_to, greatest_to, switches}
use Rattle.sci_ranges_base.specs.declared.interval.Interval.{Interval}
use Rattle.sci_ranges_base.specs.Intervals.{IsIn, IsInSome, from_to, has, both, plus, range_at}
use Rattle.sci_ranges_base.proofs.Numbers.{le_along, min_below, max_above}
use Rattle.sci_ranges_rules.specs.Words.{sums, truth_range, logical_range, may_hold, opposite, relation_range, may_be_digit, allows, may_take_first, may_take_third}

-- ---- tests

le_yes : (a b : ℤ) → a ≤ℤ b → int_le a b ≡ true
le_yes a b h = int_le_yes a b h

lt_yes : (a b : ℤ) → a <ℤ b → int_lt a b ≡ true
lt_yes a b h = grind (arith, ints)

has_yes : (i : Interval) (v : ℤ) → IsIn i v → has i v ≡ true
has_yes i v h = rw (le_yes i.least v h.above, le_yes v i.greatest h.below) refl

same_yes : (a b : ℤ) → a ≡ b → int_eq a b ≡ true
same_yes a b h =
    let p : a ≤ℤ b = omega (arith, ints) in
    let q : b ≤ℤ a = omega (arith, ints) in
    rw (le_yes a b p, le_yes b a q) refl

same_not : (a b : ℤ) → int_eq a b ≡ false → a ≢ b
same_not a b h e = let t = same_yes a b e in cc

-- the one number of an interval from v to v
only_one : (i : Interval) (v w : ℤ) → IsIn i w → (int_eq i.least v && int_eq i.greatest v) ≡ true → w ≡ v
only_one i v w h e =
    let p = both_true (int_eq i.least v) (int_eq i.greatest v) e in
    let l = int_same i.least v p.0 in
    let g = int_same i.greatest v p.1 in
    omega (arith, ints, h.above, h.below, l, g)

-- a test that fails wherever another fails
not_only : (b : Bool) → (b ≡ true → ⊥) → not b ≡ true
not_only true h = absurd (h refl)
not_only false h = refl

truth_bounds : (b : Bool) → (pos 0 ≤ℤ truth b) × (truth b ≤ℤ pos 1)
truth_bounds true = (omega (arith, ints), omega (arith, ints))
truth_bounds false = (omega (arith, ints), omega (arith, ints))

-- ---- the truth of a number

-- 0 for 0, else 1
abbrev pub digit_of : ℤ → ℕ
digit_of v = cond (int_eq v (pos 0)) 0 1

pub truth_range_has : (i : Interval) (v : ℤ) → IsIn i v → (pos 0 ≤ℤ (truth_range i).least) × IsIn (truth_range i) (pos (digit_of v))
truth_range_has i v h = by_zero (int_eq v (pos 0)) refl
  where
    least : (b : Bool) → pos 0 ≤ℤ cond b (pos 0) (pos 1)
    least true = omega (arith, ints)
    least false = omega (arith, ints)

    most : (b : Bool) → cond b (pos 0) (pos 1) ≤ℤ pos 1
    most true = omega (arith, ints)
    most false = omega (arith, ints)

    by_zero : (b : Bool) → int_eq v (pos 0) ≡ b → (pos 0 ≤ℤ (truth_range i).least) × IsIn (truth_range i) (pos (cond b 0 1))
    by_zero true e =
        let z : IsIn i (pos 0) = subst (IsIn i) (int_same v (pos 0) e) h in
        (least (has i (pos 0)), record { above = rw (has_yes i (pos 0) z) (omega (arith, ints)); below = least (int_eq i.least (pos 0) && int_eq i.greatest (pos 0)) })
    by_zero false e = (least (has i (pos 0)), record { above = most (has i (pos 0)); below = by_only (int_eq i.least (pos 0) && int_eq i.greatest (pos 0)) refl })
      where
        by_only : (c : Bool) → (int_eq i.least (pos 0) && int_eq i.greatest (pos 0)) ≡ c → pos 1 ≤ℤ cond c (pos 0) (pos 1)
        by_only true f = absurd (same_not v (pos 0) e (only_one i (pos 0) v h f))
        by_only false f = omega (arith, ints)

-- ---- how many are true

-- c is a number of the interval, which has none below 0
abbrev pub CountsIn : Option Interval → ℕ → Type 0
CountsIn None c = ⊥
CountsIn (Some i) c = (pos 0 ≤ℤ i.least) × IsIn i (pos c)

one_counts : (o : Option Interval) (v : ℤ) → IsInSome o v → CountsIn (option_map truth_range o) (digit_of v)
one_counts None v h = absurd h
one_counts (Some i) v h = truth_range_has i v h

both_count : (o p : Option Interval) (c d : ℕ) → CountsIn o c → CountsIn p d → CountsIn (both plus o p) (c + d)
both_count None p c d h k = absurd h
both_count (Some i) None c d h k = absurd k
both_count (Some i) (Some j) c d h k =
    (omega (arith, ints, h.0, k.0), record { above = omega (arith, ints, h.1.above, k.1.above); below = omega (arith, ints, h.1.below, k.1.below) })

pub counts_have : (f : ℕ → Option Interval) (g : ℕ → ℤ) (n : ℕ) → ((k : ℕ) → k < n → IsInSome (f k) (g k)) → CountsIn (sums (λ k. option_map truth_range (f k)) n) (count_to g n)
counts_have f g zero h = (omega (arith, ints), record { above = omega (arith, ints); below = omega (arith, ints) })
counts_have f g (suc n) h =
    both_count (sums (λ k. option_map truth_range (f k)) n) (option_map truth_range (f n)) (count_to g n) (digit_of (g n)) (counts_have f g n (λ k p. h k (omega (arith, p)))) (one_counts (f n) (g n) (h n (omega arith)))

-- ---- a logical operation

-- one of some numbers lies from the least to the greatest
pub least_below : (f : ℕ → ℤ) (n k : ℕ) → k ≤ n → least_to f n ≤ℤ f k
least_below f zero k h = let z : k ≡ 0 = omega (arith, h) in rw z (omega (arith, ints))
least_below f (suc n) k h = elim (cases_lt k (suc n)) [
  | inl p ↦ le_along _ _ _ (min_below (least_to f n) (f (suc n))).0 (least_below f n k (omega (arith, p)))
  | inr p ↦ let e : k ≡ suc n = omega (arith, h, p) in rw e (min_below (least_to f n) (f (suc n))).1
]

pub greatest_above : (f : ℕ → ℤ) (n k : ℕ) → k ≤ n → f k ≤ℤ greatest_to f n
greatest_above f zero k h = let z : k ≡ 0 = omega (arith, h) in rw z (omega (arith, ints))
greatest_above f (suc n) k h = elim (cases_lt k (suc n)) [
  | inl p ↦ le_along _ _ _ (greatest_above f n k (omega (arith, p))) (max_above (greatest_to f n) (f (suc n))).0
  | inr p ↦ let e : k ≡ suc n = omega (arith, h, p) in rw e (max_above (greatest_to f n) (f (suc n))).1
]

pub logical_has : (op : ℤ) (n c : ℕ) (o : Option Interval) → CountsIn o c → IsInSome (option_map (logical_range op n) o) (truth (logical op n c))
logical_has op n c None h = absurd h
logical_has op n c (Some i) h = placed i.least i.greatest h.0 h.1.above h.1.below
  where
    at_place : (from more k : ℕ) → from + k ≡ c → k ≤ more
        → IsIn (from_to (least_to (λ j. truth (logical op n (from + j))) more) (greatest_to (λ j. truth (logical op n (from + j))) more)) (truth (logical op n c))
    at_place from more k e l =
        let f = λ (j : ℕ). truth (logical op n (from + j)) in
        let same : f k ≡ truth (logical op n c) = ap (λ j. truth (logical op n j)) e in
        subst (IsIn (from_to (least_to f more) (greatest_to f more))) same (record { above = least_below f more k l; below = greatest_above f more k l })

    placed : (a b : ℤ) → pos 0 ≤ℤ a → a ≤ℤ pos c → pos c ≤ℤ b → IsIn (logical_range op n (from_to a b)) (truth (logical op n c))
    placed (negsuc a) b p q r = absurd (omega (arith, ints, p))
    placed (pos a) (negsuc b) p q r = absurd (omega (arith, ints, r))
    placed (pos a) (pos b) p q r = at_place a (b - a) (c - a) (omega (arith, ints, q)) (omega (arith, ints, q, r))

-- ---- a comparison

-- the difference of two numbers of which a relation holds lies where it may hold
holds_may : (op a b : ℤ) (d : Interval) → IsIn d (a -ℤ b) → relation op a b ≡ true → may_hold op d ≡ true
holds_may op a b d h = by_code (int_eq op (pos 0)) (int_eq op (pos 1)) (int_eq op (pos 2)) (int_eq op (pos 3)) (int_eq op (pos 4))
  where
    by_code : (p q r s t : Bool)
        → cond p (int_eq a b) (cond q (not (int_eq a b)) (cond r (int_lt a b) (cond s (int_le a b) (cond t (int_lt b a) (int_le b a))))) ≡ true
        → cond p (has d (pos 0)) (cond q (not (int_eq d.least (pos 0) && int_eq d.greatest (pos 0))) (cond r (int_lt d.least (pos 0)) (cond s (int_le d.least (pos 0))
        (cond t (int_lt (pos 0) d.greatest) (int_le (pos 0) d.greatest))))) ≡ true
    by_code true q r s t e =
        let same = int_same a b e in
        let z : a -ℤ b ≡ pos 0 = omega (arith, ints, same) in
        has_yes d (pos 0) (subst (IsIn d) z h)
    by_code false true r s t e = not_only (int_eq d.least (pos 0) && int_eq d.greatest (pos 0)) (λ f. apart (only_one d (pos 0) (a -ℤ b) h f))
      where
        differs : (c : Bool) → int_eq a b ≡ c → not c ≡ true → int_eq a b ≡ false
        differs true p q = cc
        differs false p q = p

        apart : a -ℤ b ≡ pos 0 → ⊥
        apart z = same_not a b (differs (int_eq a b) refl e) (omega (arith, ints, z))
    by_code false false true s t e = let l : a <ℤ b = grind (arith, ints) in lt_yes d.least (pos 0) (omega (arith, ints, l, h.above))
    by_code false false false true t e = let l = int_le_told a b e in le_yes d.least (pos 0) (omega (arith, ints, l, h.above))
    by_code false false false false true e = let l : b <ℤ a = grind (arith, ints) in lt_yes (pos 0) d.greatest (omega (arith, ints, l, h.below))
    by_code false false false false false e = let l = int_le_told b a e in le_yes (pos 0) d.greatest (omega (arith, ints, l, h.below))

turned_le : (a b : ℤ) → int_le b a ≡ not (int_lt a b)
turned_le a b = by_test (int_lt a b) refl
  where
    by_test : (c : Bool) → int_lt a b ≡ c → int_le b a ≡ not c
    by_test true p = grind (arith, ints)
    by_test false p = grind (arith, ints)

turned_lt : (a b : ℤ) → int_lt b a ≡ not (int_le a b)
turned_lt a b = by_test (int_le a b) refl
  where
    by_test : (c : Bool) → int_le a b ≡ c → int_lt b a ≡ not c
    by_test true p = grind (arith, ints)
    by_test false p = grind (arith, ints)

twice_not : (b : Bool) → b ≡ not (not b)
twice_not true = refl
twice_not false = refl

pub opposite_is : (op a b : ℤ) → relation (opposite op) a b ≡ not (relation op a b)
opposite_is op a b = by_code (int_eq op (pos 0)) (int_eq op (pos 1)) (int_eq op (pos 2)) (int_eq op (pos 3)) (int_eq op (pos 4))
  where
    by_code : (p q r s t : Bool)
        → relation (cond p (pos 1) (cond q (pos 0) (cond r (pos 5) (cond s (pos 4) (cond t (pos 3) (pos 2)))))) a b
        ≡ not (cond p (int_eq a b) (cond q (not (int_eq a b)) (cond r (int_lt a b) (cond s (int_le a b) (cond t (int_lt b a) (int_le b a))))))
    by_code true q r s t = refl
    by_code false true r s t = twice_not (int_eq a b)
    by_code false false true s t = turned_le a b
    by_code false false false true t = turned_lt a b
    by_code false false false false true = turned_le b a
    by_code false false false false false = turned_lt b a

pub relation_has : (op : ℤ) (d : Interval) (a b : ℤ) → IsIn d (a -ℤ b) → IsIn (relation_range op d) (truth (relation op a b))
relation_has op d a b h = by_truth (relation op a b) refl
  where
    by_truth : (r : Bool) → relation op a b ≡ r → IsIn (relation_range op d) (truth r)
    by_truth true e = record { above = (truth_bounds (not (may_hold (opposite op) d))).1; below = rw (holds_may op a b d h e) (omega (arith, ints)) }
    by_truth false e =
        let o : relation (opposite op) a b ≡ true = opposite_is op a b ∙ ap not e in
        record { above = rw (holds_may (opposite op) a b d h o) (omega (arith, ints)); below = (truth_bounds (may_hold op d)).0 }

-- ---- rows of truths

digit_may : (o : Option Interval) (v : ℤ) → IsInSome o v → may_be_digit o (pos (digit_of v)) ≡ true
digit_may None v h = absurd h
digit_may (Some i) v h = has_yes (truth_range i) (pos (digit_of v)) (truth_range_has i v h).1

digit_small : (v : ℤ) → digit_of v < 2
digit_small v = by_test (int_eq v (pos 0))
  where
    by_test : (b : Bool) → cond b 0 1 < 2
    by_test true = omega arith
    by_test false = omega arith

pub row_allowed : (us : List (Option Interval)) (u : List ℤ) (n : ℕ) → ((k : ℕ) → k < n → IsInSome (range_at us k) (at u k)) → allows us n (row_to (at u) n) ≡ true
row_allowed us u zero h = refl
row_allowed us u (suc n) h =
    let small = digit_small (at u n) in
    let half : (2 * row_to (at u) n + digit_of (at u n)) / 2 ≡ row_to (at u) n = halved (row_to (at u) n) (digit_of (at u n)) small in
    let last : (2 * row_to (at u) n + digit_of (at u n)) % 2 ≡ digit_of (at u n) = rest (row_to (at u) n) (digit_of (at u n)) small in
    rw (half, last, row_allowed us u n (λ k p. h k (omega (arith, p))), digit_may (range_at us n) (at u n) (h n (omega arith))) refl
  where
    halved : (r d : ℕ) → d < 2 → (2 * r + d) / 2 ≡ r
    halved r d l = omega (arith, l)

    rest : (r d : ℕ) → d < 2 → (2 * r + d) % 2 ≡ d
    rest r d l = omega (arith, l)

-- ---- switches

pub first_may : (c a v : ℤ) (i : Interval) → IsIn i v → switches c a v ≡ true → may_take_first c a i ≡ true
first_may c a v i h = by_code (int_eq c (pos 0)) (int_eq c (pos 1))
  where
    by_code : (p q : Bool) → cond p (int_le a v) (cond q (int_lt a v) (not (int_eq v a))) ≡ true
        → cond p (int_le a i.greatest) (cond q (int_lt a i.greatest) (not (int_eq i.least a && int_eq i.greatest a))) ≡ true
    by_code true q e = le_yes a i.greatest (le_along _ _ _ (int_le_told a v e) h.below)
    by_code false true e = let l : a <ℤ v = grind (arith, ints) in lt_yes a i.greatest (omega (arith, ints, l, h.below))
    by_code false false e = not_only (int_eq i.least a && int_eq i.greatest a) (λ f. apart (only_one i a v h f) (int_eq v a) refl)
      where
        apart : v ≡ a → (b : Bool) → int_eq v a ≡ b → ⊥
        apart z true p = let t : not (int_eq v a) ≡ false = ap not p in cc
        apart z false p = same_not v a p z

pub third_may : (c a v : ℤ) (i : Interval) → IsIn i v → switches c a v ≡ false → may_take_third c a i ≡ true
third_may c a v i h = by_code (int_eq c (pos 0)) (int_eq c (pos 1))
  where
    by_code : (p q : Bool) → cond p (int_le a v) (cond q (int_lt a v) (not (int_eq v a))) ≡ false
        → cond p (int_lt i.least a) (cond q (int_le i.least a) (has i a)) ≡ true
    by_code true q e = let l : v <ℤ a = grind (arith, ints) in lt_yes i.least a (omega (arith, ints, l, h.above))
    by_code false true e = let l : v ≤ℤ a = grind (arith, ints) in le_yes i.least a (le_along _ _ _ h.above l)
    by_code false false e = has_yes i a (subst (IsIn i) (int_same v a (is_same (int_eq v a) refl e)) h)
      where
        is_same : (b : Bool) → int_eq v a ≡ b → not b ≡ false → int_eq v a ≡ true
        is_same true p q = p
        is_same false p q = cc
