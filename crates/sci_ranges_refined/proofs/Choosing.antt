-- Switches: the input that is taken, and what the condition says of it.
use Rattle.std.proofs.Common.{◌≡◌, ℕ, zero, suc, ◌+◌, ◌-◌, ◌*◌, ◌<◌, ◌≤◌, ℤ, pos, ◌+ℤ◌, ◌-ℤ◌, ◌*ℤ◌, ◌≤ℤ◌, ◌<ℤ◌, Bool, true, false, cond, not, List, [], ◌∷◌, length, Option, Some, None, refl, sym, ap, subst, ◌∙◌, arith, inl, inr, true≢false}
use Rattle.std.proofs.lemmas.Int.{ints}
use Rattle.std.specs.Prelude.{int_lt, int_le, option_map, option_and_then}
use Rattle.std.specs.Int.{int_min, int_max}
use Rattle.sci_base.specs.declared.Ty.{Ty}
use Rattle.sci_base.specs.Fit.{InRange, int_eq}
use Rattle.sci_base.specs.Lists.{at}
use Rattle.sci_base.proofs.FitLemmas.{int_le_yes}
use Rattle.sci_forms.specs.declared.Kind.{Kind}
use Rattle.sci_forms.specs.declared.Kind.TheVariants.{RelationalOp, Switch2, Select}
use Rattle.sci_forms.specs.declared.ports.Port.{Port}
use Rattle.sci_forms.specs.declared.spec.Spec.{Spec}
use Rattle.sci_forms.specs.Form.{feeds, is_sensor}
use Rattle.sci_forms.specs.Ports.{port_at, elements, total, before, IsAlike}
use Rattle.sci_forms.specs.Typed.{typed}
use Rattle.sci_forms.specs.Words.{param, in_type, out_type, size}
use Rattle.sci_forms.proofs.TestLemmas.{int_same, int_le_told, int_lt_told}
use Rattle.sci_kinds.specs.declared.Cell.TheVariants.{Value}
use Rattle.sci_kinds.specs.Asks.{Asks}
use Rattle.sci_kinds.specs.Table.{input, truth, relation, switches, cell_of}
use Rattle.sci_kinds.proofs.Elements.{total_alike, type_at_alike}
use Rattle.sci_kinds.proofs.LawProofs.{asks}
use Rattle.sci_kinds.proofs.TypedLemmas.{Tests, tests, scalar_one, three_total, before_one}
use Rattle.sci_ranges_base.specs.declared.interval.Interval.{Interval}
use Rattle.sci_ranges_base.specs.Intervals.{IsIn, IsInSome, one, between, met, join, times, range_at}
use Rattle.sci_ranges_base.specs.Cells.{MayBe, valued}
use Rattle.sci_ranges_base.proofs.Numbers.{le_along, below_min, above_max, met_has, times_has}
use Rattle.sci_ranges_base.proofs.Ends.{equal_yes}
use Rattle.sci_ranges_rules.specs.Words.{may_take_first, may_take_third, if_so}
use Rattle.sci_ranges_rules.specs.Rules.{cells_of, compared}
use Rattle.sci_ranges_rules.proofs.Deciding.{first_may, third_may}
use Rattle.sci_ranges_rules.proofs.Feeding.{before_alike}
use Rattle.sci_ranges_rules.proofs.Handing.{on_some_has, map_has, then_has, join_has, so_has, sums_have}
use Rattle.sci_ranges_rules.proofs.Turning.{compared_covers}
use Rattle.sci_ranges_refined.specs.Choices.{is_switch, takes, from_on, up_to, without, first_numbers, third_numbers, taken_numbers, compares, known_truth}
use Rattle.sci_ranges_refined.specs.Laws.{TakenIsShown, TakenHasNumber, ComparisonIsKnown, SumOfIsWithin}

-- ---- kinds

switch_kind : (c : Kind) → is_switch c ≡ true → c ≡ Switch2
switch_kind Switch2 h = refl
switch_kind _ h = absurd (true≢false (sym h))

pub switch_feeds : (c : Kind) (k : ℕ) → is_switch c ≡ true → feeds c k ≡ true
switch_feeds Switch2 k h = refl
switch_feeds _ k h = absurd (true≢false (sym h))

pub switch_no_choice : (c : Kind) → is_switch c ≡ true → c ≡ Select → ⊥
switch_no_choice c h e = true≢false (sym (subst (λ k. is_switch k ≡ true) e h))

pub switch_asks : (s : Spec) → typed s ≡ true → is_switch s.kind ≡ true → Asks Switch2 s
switch_asks s h switch = subst (λ c. Asks c s) (switch_kind s.kind switch) (asks s h)

comparing_kind : (c : Kind) → compares c ≡ true → c ≡ RelationalOp
comparing_kind RelationalOp h = refl
comparing_kind _ h = absurd (true≢false (sym h))

pub comparing_feeds : (c : Kind) (k : ℕ) → compares c ≡ true → feeds c k ≡ true
comparing_feeds RelationalOp k h = refl
comparing_feeds _ k h = absurd (true≢false (sym h))

pub comparing_senses_none : (c : Kind) → compares c ≡ true → is_sensor c ≡ false
comparing_senses_none RelationalOp h = refl
comparing_senses_none _ h = absurd (true≢false (sym h))

pub comparing_no_choice : (c : Kind) → compares c ≡ true → c ≡ Select → ⊥
comparing_no_choice c h e = true≢false (sym (subst (λ k. compares k ≡ true) e h))

pub comparing_asks : (s : Spec) → typed s ≡ true → compares s.kind ≡ true → Asks RelationalOp s
comparing_asks s h comparing = subst (λ c. Asks c s) (comparing_kind s.kind comparing) (asks s h)

-- ---- inputs of one element

-- the three inputs of a switch of one element have one element each
pub record IsThree (s : Spec) : Type 0 where
  pub three : length s.ins ≡ 3
  pub all : total s.ins ≡ 3
  pub places : (k : ℕ) → k < 3 → before s.ins k ≡ k
  pub each : (k : ℕ) → k < 3 → elements (port_at s.ins k) ≡ 1

before_two : (ps : List Port) → 2 ≤ length ps → before ps 2 ≡ elements (port_at ps 0) + elements (port_at ps 1)
before_two [] h = absurd (omega (arith, h))
before_two (p ∷ []) h = absurd (omega (arith, h))
before_two (p ∷ q ∷ ps) h = omega arith

up_to_three : (P : ℕ → Type 0) → P 0 → P 1 → P 2 → (k : ℕ) → k < 3 → P k
up_to_three P a b c zero l = a
up_to_three P a b c (suc zero) l = b
up_to_three P a b c (suc (suc zero)) l = c
up_to_three P a b c (suc (suc (suc k))) l = absurd (omega (arith, l))

pub switch_ports : (s : Spec) → typed s ≡ true → is_switch s.kind ≡ true → size s ≡ 1 → IsThree s
switch_ports s h switch one = by_kind s.kind switch (asks s h) (tests s.kind s h)
  where
    by_kind : (c : Kind) → is_switch c ≡ true → Asks c s → Tests c s → IsThree s
    by_kind Switch2 q a t =
        let three : length s.ins ≡ 3 = omega (arith, t.ins_least, t.ins_most) in
        let third = three_total s.ins three in
        let first = before_one s.ins (omega (arith, three)) in
        let p0 : elements (port_at s.ins 0) ≡ 1 = omega (arith, first, a.0.first_size, one) in
        let p1 : elements (port_at s.ins 1) ≡ 1 = scalar_one (port_at s.ins 1) (t.in_sizes 1 (omega (arith, three))) in
        let p2 : elements (port_at s.ins 2) ≡ 1 = omega (arith, third, a.0.total_ins, one, p0, p1) in
        let two = before_two s.ins (omega (arith, three)) in
        record {
          three = three;
          all = omega (arith, a.0.total_ins, one);
          places = up_to_three (λ k. before s.ins k ≡ k) refl (omega (arith, first, p0)) (omega (arith, two, p0, p1));
          each = up_to_three (λ k. elements (port_at s.ins k) ≡ 1) p0 p1 p2;
        }
    by_kind _ q a t = absurd (true≢false (sym q))

-- the place of an input among such
pub ones_before : (s : Spec) (t : Ty) → IsAlike s.ins t (size s) → size s ≡ 1 → (k : ℕ) → k ≤ length s.ins → before s.ins k ≡ k
ones_before s t alike one k l =
    let same : k * size s ≡ k = subst (λ z. k * z ≡ k) (sym one) (omega arith) in before_alike s.ins t (size s) k alike l ∙ same

-- ---- the input that is taken

chosen_has : (s : Spec) (o p : Option Interval) (i : Interval) (g v w : ℤ) → IsIn i g → (takes s true g ≡ true → IsInSome o v) → (takes s false g ≡ true → IsInSome p w)
    → IsInSome (join (if_so (may_take_first (param s 0) (param s 1) i) o) (if_so (may_take_third (param s 0) (param s 1) i) p)) (cond (switches (param s 0) (param s 1) g) v w)
chosen_has s o p i g v w h k l = by_truth (switches (param s 0) (param s 1) g) refl
  where
    by_truth : (b : Bool) → switches (param s 0) (param s 1) g ≡ b
        → IsInSome (join (if_so (may_take_first (param s 0) (param s 1) i) o) (if_so (may_take_third (param s 0) (param s 1) i) p)) (cond b v w)
    by_truth true e =
        join_has (if_so (may_take_first (param s 0) (param s 1) i) o) (if_so (may_take_third (param s 0) (param s 1) i) p) v
        (inl (so_has (may_take_first (param s 0) (param s 1) i) o v (first_may (param s 0) (param s 1) g i h e) (k e)))
    by_truth false e =
        join_has (if_so (may_take_first (param s 0) (param s 1) i) o) (if_so (may_take_third (param s 0) (param s 1) i) p) w
        (inr (so_has (may_take_third (param s 0) (param s 1) i) p w (third_may (param s 0) (param s 1) g i h e) (l (ap not e))))

pub taken_is_shown : TakenIsShown
taken_is_shown s xs ms us x m u e switch condition first third = by_kind s.kind switch
  where
    by_kind : (c : Kind) → is_switch c ≡ true → MayBe (cells_of c s xs ms us e) (cell_of c s x m u e)
    by_kind Switch2 h =
        on_some_has
        (λ i. valued (join (if_so (may_take_first (param s 0) (param s 1) i) (range_at us e)) (if_so (may_take_third (param s 0) (param s 1) i) (range_at us (size s + 1 + e)))))
        (range_at us (size s)) (at u (size s)) (cell_of Switch2 s x m u e) condition
        (λ i h. chosen_has s (range_at us e) (range_at us (size s + 1 + e)) i (at u (size s)) (at u e) (at u (size s + 1 + e)) h first third)
    by_kind _ h = absurd (true≢false (sym h))

-- ---- numbers on which an input is taken

between_has : (a b v : ℤ) → a ≤ℤ v → v ≤ℤ b → IsInSome (between a b) v
between_has a b v h k = rw (int_le_yes a b (le_along _ _ _ h k)) (record { above = h; below = k })

from_on_has : (a : ℤ) (i : Interval) (v : ℤ) → a ≤ℤ v → IsIn i v → IsInSome (from_on a i) v
from_on_has a i v l h = between_has (int_max i.least a) i.greatest v (above_max i.least a v h.above l) h.below

up_to_has : (a : ℤ) (i : Interval) (v : ℤ) → v ≤ℤ a → IsIn i v → IsInSome (up_to a i) v
up_to_has a i v l h = between_has i.least (int_min i.greatest a) v h.above (below_min i.greatest a v h.below l)

next_above : (a v : ℤ) → a ≤ℤ v → (v ≡ a → ⊥) → (a +ℤ pos 1) ≤ℤ v
next_above a v h differs = by_test (int_lt a v) refl
  where
    by_test : (b : Bool) → int_lt a v ≡ b → (a +ℤ pos 1) ≤ℤ v
    by_test true e = let l = int_lt_told a v e in omega (arith, ints, l)
    by_test false e = let l : v ≤ℤ a = grind (arith, ints) in absurd (differs (omega (arith, ints, h, l)))

next_below : (a v : ℤ) → v ≤ℤ a → (v ≡ a → ⊥) → v ≤ℤ (a -ℤ pos 1)
next_below a v h differs = by_test (int_lt v a) refl
  where
    by_test : (b : Bool) → int_lt v a ≡ b → v ≤ℤ (a -ℤ pos 1)
    by_test true e = let l = int_lt_told v a e in omega (arith, ints, l)
    by_test false e = let l : a ≤ℤ v = grind (arith, ints) in absurd (differs (omega (arith, ints, h, l)))

without_has : (a : ℤ) (i : Interval) (v : ℤ) → (v ≡ a → ⊥) → IsIn i v → IsInSome (without a i) v
without_has a i v differs h =
    between_has (cond (int_eq i.least a) (a +ℤ pos 1) i.least) (cond (int_eq i.greatest a) (a -ℤ pos 1) i.greatest) v (least (int_eq i.least a) refl)
    (greatest (int_eq i.greatest a) refl)
  where
    least : (b : Bool) → int_eq i.least a ≡ b → cond b (a +ℤ pos 1) i.least ≤ℤ v
    least true e = let same = int_same i.least a e in next_above a v (omega (arith, ints, same, h.above)) differs
    least false e = h.above

    greatest : (b : Bool) → int_eq i.greatest a ≡ b → v ≤ℤ cond b (a -ℤ pos 1) i.greatest
    greatest true e = let same = int_same i.greatest a e in next_below a v (omega (arith, ints, same, h.below)) differs
    greatest false e = h.below

first_has : (c a v : ℤ) (i : Interval) → IsIn i v → switches c a v ≡ true → IsInSome (first_numbers c a i) v
first_has c a v i h = by_code (int_eq c (pos 0)) (int_eq c (pos 1))
  where
    by_code : (p q : Bool) → cond p (int_le a v) (cond q (int_lt a v) (not (int_eq v a))) ≡ true
        → IsInSome (cond p (from_on a i) (cond q (from_on (a +ℤ pos 1) i) (without a i))) v
    by_code true q e = from_on_has a i v (int_le_told a v e) h
    by_code false true e = let l = int_lt_told a v e in from_on_has (a +ℤ pos 1) i v (omega (arith, ints, l)) h
    by_code false false e = without_has a i v (λ z. true≢false (sym e ∙ ap not (equal_yes v a z))) h

third_has : (c a v : ℤ) (i : Interval) → IsIn i v → switches c a v ≡ false → IsInSome (third_numbers c a i) v
third_has c a v i h = by_code (int_eq c (pos 0)) (int_eq c (pos 1))
  where
    is_same : (b : Bool) → int_eq v a ≡ b → not b ≡ false → int_eq v a ≡ true
    is_same true p q = p
    is_same false p q = cc

    by_code : (p q : Bool) → cond p (int_le a v) (cond q (int_lt a v) (not (int_eq v a))) ≡ false
        → IsInSome (cond p (up_to (a -ℤ pos 1) i) (cond q (up_to a i) (met i (one a)))) v
    by_code true q e = let l : v <ℤ a = grind (arith, ints) in up_to_has (a -ℤ pos 1) i v (omega (arith, ints, l)) h
    by_code false true e = let l : v ≤ℤ a = grind (arith, ints) in up_to_has a i v l h
    by_code false false e =
        let same = int_same v a (is_same (int_eq v a) refl e) in
        met_has i (one a) v h (record { above = omega (arith, ints, same); below = omega (arith, ints, same) })

not_taken : (b : Bool) → not b ≡ true → b ≡ false
not_taken true h = cc
not_taken false h = refl

pub taken_has_number : TakenHasNumber
taken_has_number s first o v taking h = then_has (taken_numbers s first) o v v h (λ i k. by_input first taking i k)
  where
    by_input : (b : Bool) → takes s b v ≡ true → (i : Interval) → IsIn i v → IsInSome (taken_numbers s b i) v
    by_input true t i k = first_has (param s 0) (param s 1) v i k t
    by_input false t i k = third_has (param s 0) (param s 1) v i k (not_taken (switches (param s 0) (param s 1) v) t)

-- ---- a comparison that is the condition

-- its truth is the one that is known
known_is : (s : Spec) (first holds r : Bool) → known_truth s first ≡ Some holds → takes s first (truth r) ≡ true → r ≡ holds
known_is s first holds r known t = by_tests (takes s first (pos 0)) (takes s first (pos 1)) refl refl known r t
  where
    by_tests : (a b : Bool) → takes s first (pos 0) ≡ a → takes s first (pos 1) ≡ b → cond (not a) (Some true) (cond (not b) (Some false) None) ≡ Some holds
        → (r : Bool) → takes s first (truth r) ≡ true → r ≡ holds
    by_tests false b p q k true t = cc
    by_tests false b p q k false t = absurd (true≢false (sym t ∙ p))
    by_tests true false p q k true t = absurd (true≢false (sym t ∙ q))
    by_tests true false p q k false t = cc
    by_tests true true p q k r t = cc

value_is : (w v : ℤ) → Value w ≡ Value v → w ≡ v
value_is w v e = cc

pub comparison_is_known : ComparisonIsKnown
comparison_is_known s g first holds us x m u v k h comparing single known taking given fills within l = by_input k l
  where
    a : Asks RelationalOp g
    a = comparing_asks g h comparing

    shows : truth (relation (param g 0) (input (size g) u 0 0) (input (size g) u 1 0)) ≡ v
    shows =
        value_is (truth (relation (param g 0) (input (size g) u 0 0) (input (size g) u 1 0))) v
        (sym (ap (λ c. cell_of c g x m u 0) (comparing_kind g.kind comparing)) ∙ given)

    held : relation (param g 0) (input (size g) u 0 0) (input (size g) u 1 0) ≡ holds
    held =
        known_is s first holds (relation (param g 0) (input (size g) u 0 0) (input (size g) u 1 0)) known
        (subst (λ z. takes s first z ≡ true) (sym shows) taking)

    of_two : relation (param g 0) (at u 0) (at u 1) ≡ holds
    of_two = subst (λ z. relation (param g 0) (input z u 0 0) (input z u 1 0) ≡ holds) single held

    two : total g.ins ≡ 2
    two = total_alike g.ins (in_type g) (size g) a.0.ins_alike ∙ (ap (λ z. z * size g) a.1 ∙ ap (λ z. 2 * z) single)

    typed_at : (d : ℕ) → d < 2 → InRange (in_type g) (at u d)
    typed_at d q =
        let inside : d < total g.ins = omega (arith, q, two) in
        subst (λ t. InRange t (at u d)) (type_at_alike g.ins (in_type g) (size g) a.0.ins_alike d inside) (fills.in_range d inside)

    covers : (i j : Interval) → (IsIn j (at u 1) → IsInSome (compared g 0 holds j) (at u 0)) × (IsIn i (at u 0) → IsInSome (compared g 1 holds i) (at u 1))
    covers i j =
        compared_covers g holds (at u 0) (at u 1) i j h (comparing_kind g.kind comparing) (typed_at 0 (omega arith)) (typed_at 1 (omega arith)) of_two

    by_input : (k : ℕ) → k < 2 → IsInSome (option_and_then (compared g k holds) (range_at us (1 - k))) (at u k)
    by_input zero q = then_has (compared g 0 holds) (range_at us 1) (at u 1) (at u 0) (within 1 (omega (arith, two))) (λ j r. (covers j j).0 r)
    by_input (suc zero) q = then_has (compared g 1 holds) (range_at us 0) (at u 0) (at u 1) (within 0 (omega (arith, two))) (λ i r. (covers i i).1 r)
    by_input (suc (suc k)) q = absurd (omega (arith, q))

-- ---- a sum of one element

pub sum_of_is_within : SumOfIsWithin
sum_of_is_within s f u single inside =
    sums_have (λ j. option_map (times (param s (j + 1))) (f j)) (λ j. param s (j + 1) *ℤ input (size s) u j 0) (length s.ins)
    (λ j p. map_has (times (param s (j + 1))) (f j) (input (size s) u j 0) (param s (j + 1) *ℤ input (size s) u j 0)
    (subst (IsInSome (f j)) (place j) (inside j p)) (λ i g. times_has (param s (j + 1)) i (input (size s) u j 0) g))
  where
    place : (j : ℕ) → at u j ≡ input (size s) u j 0
    place j = let here : j ≡ j * size s + 0 = subst (λ z. j ≡ j * z + 0) (sym single) (omega arith) in ap (at u) here
