-- What the pass works out of a switch is told of it.
use Rattle.std.proofs.Common.{◌≡◌, ℕ, zero, suc, ◌+◌, ◌-◌, ◌<◌, Bool, true, false, ◌&&◌, cond, nat_eq, List, [], ◌∷◌, length, Option, Some, None, refl, sym, subst, ◌∙◌, arith, add-one, true≢false}
use Rattle.std.specs.Prelude.{option_and_then, slice_index_or}
use Rattle.sci_forms.specs.declared.Kind.{Kind}
use Rattle.sci_forms.specs.declared.spec.Spec.{Spec}
use Rattle.sci_forms.specs.Words.{size}
use Rattle.sci_forms.proofs.TestLemmas.{nat_same}
use Rattle.sci_net.specs.declared.Wire.{Wire}
use Rattle.sci_net.specs.Net.{IsNet}
use Rattle.sci_net.specs.Parts.{Parts, IsBlock, no_spec, spec_of, wire_of}
use Rattle.sci_reaction.specs.Memory.{Columns}
use Rattle.sci_reaction.proofs.Lists.{and_both}
use Rattle.sci_run.specs.Laws.{AreLoopFree}
use Rattle.sci_ranges_base.specs.declared.interval.Interval.{Interval}
use Rattle.sci_ranges_base.specs.Intervals.{meet, range_at}
use Rattle.sci_ranges_rules.specs.Rules.{compared}
use Rattle.sci_ranges_refined.specs.Sums.{is_sum}
use Rattle.sci_ranges_refined.specs.Choices.{is_switch, taken_input, taken_place, taken_numbers, compares, known_truth}
use Rattle.sci_ranges.specs.Table.{Table}
use Rattle.sci_ranges.specs.Told.{ActsAlong, first_output, LooksAt, Keeps, as_read, as_condition, as_compared, TakesSum, HasTaken, is_kept, is_added, AreTaken}
use Rattle.sci_ranges_rows.specs.Marks.{Marks, AreMarks}
use Rattle.sci_ranges_rows.specs.Tests.{is_along}
use Rattle.sci_ranges_rows.proofs.Testing.{along_by_test}
use Rattle.sci_ranges_pass.specs.Ranges.{Ranges, table_of, same_wire, entered}
use Rattle.sci_ranges_pass.specs.Taken.{is_single, comparison, addition, by_condition, by_input, by_truth, by_comparison, kept_on, summand, by_addition, taken_range, is_choice, taken_ranges}
use Rattle.sci_ranges_pass.proofs.Entering.{wires_same, enters}

-- a wire from the first output of its block
pub from_first : (w : Wire) → nat_eq w.port 1 ≡ true → first_output w.block ≡ w
from_first w h = let one : 1 ≡ w.port = sym (nat_same w.port 1 h) in λ i. record { block = w.block; port = one i }

-- what isn't a block has no kind of any use
kind_inside : (P : Kind → Bool) → P no_spec.kind ≡ false → (ss : List Spec) (k : ℕ) → P (slice_index_or ss k no_spec).kind ≡ true → k < length ss
kind_inside P off [] k h = absurd (true≢false (sym h ∙ off))
kind_inside P off (s ∷ ss) zero h = omega arith
kind_inside P off (s ∷ ss) (suc k) h = let l = kind_inside P off ss k h in omega (arith, l)

pub kind_block : (P : Kind → Bool) → P no_spec.kind ≡ false → (n : Parts) (c : ℕ) → P (spec_of n c).kind ≡ true → IsBlock n c
kind_block P off n zero h = absurd (true≢false (sym h ∙ off))
kind_block P off n (suc k) h = let l = kind_inside P off n.specs k h in record { least = omega arith; most = omega (arith, l) }

some_is : (a b : ℕ) → Some a ≡ Some b → a ≡ b
some_is a b q = cc

module _ (n : Parts) (i : Columns) (m : Marks) (r : Ranges) (net : IsNet n) (free : AreLoopFree n) (marks : AreMarks n m) where
  -- ---- blocks before a switch

  single_is : (c : ℕ) (w : Wire) → is_single n m c w ≡ true → (first_output w.block ≡ w) × (size (spec_of n w.block) ≡ 1) × ActsAlong n (table_of n m.dead r) w.block c
  single_is c w h =
      let p = and_both (nat_eq w.port 1) (nat_eq (size (spec_of n w.block)) 1 && is_along m w.block c) h in
      let q = and_both (nat_eq (size (spec_of n w.block)) 1) (is_along m w.block c) p.1 in (
        from_first w p.0,
        nat_same (size (spec_of n w.block)) 1 q.0,
        λ s live may. along_by_test n m w.block c s net free marks q.1 live may,
      )

  looks : (c g : ℕ) → comparison n m c ≡ Some g → LooksAt n (table_of n m.dead r) c g
  looks c g h = by_test (compares (spec_of n (wire_of n c 2).block).kind && is_single n m c (wire_of n c 2)) refl h
    where
      by_test : (b : Bool) → (compares (spec_of n (wire_of n c 2).block).kind && is_single n m c (wire_of n c 2)) ≡ b → cond b (Some (wire_of n c 2).block) None ≡ Some g
          → LooksAt n (table_of n m.dead r) c g
      by_test false e q = cc
      by_test true e q =
          let p = and_both (compares (spec_of n (wire_of n c 2).block).kind) (is_single n m c (wire_of n c 2)) e in
          let s = single_is c (wire_of n c 2) p.1 in
          subst (LooksAt n (table_of n m.dead r) c) (some_is (wire_of n c 2).block g q) (record { along = s.2; comparing = p.0; single = s.1; condition = sym s.0 })

  takes_sum : (c : ℕ) (first : Bool) (g : ℕ) → addition n m c first ≡ Some g → TakesSum n (table_of n m.dead r) c first g
  takes_sum c first g h = by_test (is_sum (spec_of n (wire_of n c (taken_input first)).block).kind && is_single n m c (wire_of n c (taken_input first))) refl h
    where
      by_test : (b : Bool) → (is_sum (spec_of n (wire_of n c (taken_input first)).block).kind && is_single n m c (wire_of n c (taken_input first))) ≡ b
          → cond b (Some (wire_of n c (taken_input first)).block) None ≡ Some g → TakesSum n (table_of n m.dead r) c first g
      by_test false e q = cc
      by_test true e q =
          let p = and_both (is_sum (spec_of n (wire_of n c (taken_input first)).block).kind) (is_single n m c (wire_of n c (taken_input first))) e in
          let s = single_is c (wire_of n c (taken_input first)) p.1 in
          subst (TakesSum n (table_of n m.dead r) c first) (some_is (wire_of n c (taken_input first)).block g q)
          (record { along = s.2; sum = p.0; single = s.1; input = sym s.0 })

  -- ---- what a wire has

  module _ (c : ℕ) (first : Bool) where
    condition_keeps : (w : Wire) (o : Option Interval) → Keeps n i (table_of n m.dead r) c first w o (by_condition n c first w o)
    condition_keeps w o = by_test (same_wire (wire_of n c 2) w) refl
      where
        by_test : (b : Bool) → same_wire (wire_of n c 2) w ≡ b → Keeps n i (table_of n m.dead r) c first w o (cond b (option_and_then (taken_numbers (spec_of n c) first) o) o)
        by_test false e = as_read
        by_test true e = as_condition o as_read (wires_same (wire_of n c 2) w e)

    module _ (g : ℕ) (is : LooksAt n (table_of n m.dead r) c g) (w : Wire) (o : Option Interval) where
      input_keeps : (k : ℕ) (holds : Bool) (p : Option Interval) → known_truth (spec_of n c) first ≡ Some holds → k < 2 → Keeps n i (table_of n m.dead r) c first w o p
          → Keeps n i (table_of n m.dead r) c first w o (by_input n g k holds (entered n i m r g) w p)
      input_keeps k holds p known few kept = by_test (same_wire (wire_of n g (k + 1)) w) refl
        where
          by_test : (b : Bool) → same_wire (wire_of n g (k + 1)) w ≡ b → Keeps n i (table_of n m.dead r) c first w o
              (cond b (meet p (option_and_then (compared (spec_of n g) k holds) (range_at (entered n i m r g) (1 - k)))) p)
          by_test false e = kept
          by_test true e =
              as_compared g k holds (entered n i m r g) p kept is known few (subst (λ j. wire_of n g j ≡ w) (add-one k) (wires_same (wire_of n g (k + 1)) w e))
              (enters n i m r net free marks g (kind_block compares refl n g is.comparing))

      truth_keeps : (t : Option Bool) → known_truth (spec_of n c) first ≡ t → (p : Option Interval) → Keeps n i (table_of n m.dead r) c first w o p
          → Keeps n i (table_of n m.dead r) c first w o (by_truth n g (entered n i m r g) w t p)
      truth_keeps None e p kept = kept
      truth_keeps (Some holds) e p kept =
          input_keeps 1 holds (by_input n g 0 holds (entered n i m r g) w p) e (omega arith) (input_keeps 0 holds p e (omega arith) kept)

    comparison_keeps : (a : Option ℕ) → comparison n m c ≡ a → (w : Wire) (o p : Option Interval) → Keeps n i (table_of n m.dead r) c first w o p
        → Keeps n i (table_of n m.dead r) c first w o (by_comparison n i m r c first w a p)
    comparison_keeps None e w o p kept = kept
    comparison_keeps (Some g) e w o p kept = truth_keeps g (looks c g e) w o (known_truth (spec_of n c) first) refl p kept

    kept_keeps : (w : Wire) (o : Option Interval) → Keeps n i (table_of n m.dead r) c first w o (kept_on n i m r c first w o)
    kept_keeps w o = comparison_keeps (comparison n m c) refl w o (by_condition n c first w o) (condition_keeps w o)

    -- ---- what it takes

    summand_keeps : (g j : ℕ) → Keeps n i (table_of n m.dead r) c first (wire_of n g (suc j)) (range_at (entered n i m r g) j) (summand n i m r c first g j)
    summand_keeps g j =
        subst (λ k. Keeps n i (table_of n m.dead r) c first (wire_of n g k) (range_at (entered n i m r g) j) (summand n i m r c first g j)) (add-one j)
        (kept_keeps (wire_of n g (j + 1)) (range_at (entered n i m r g) j))

    addition_has : (a : Option ℕ) → addition n m c first ≡ a → (p : Option Interval) → HasTaken n i (table_of n m.dead r) c (entered n i m r c) first p
        → HasTaken n i (table_of n m.dead r) c (entered n i m r c) first (by_addition n i m r c first a p)
    addition_has None e p h = h
    addition_has (Some g) e p h =
        let is = takes_sum c first g e in
        is_added g (entered n i m r g) (summand n i m r c first g) p h is (enters n i m r net free marks g (kind_block is_sum refl n g is.sum)) (λ j l. summand_keeps g j)

    taken_is : HasTaken n i (table_of n m.dead r) c (entered n i m r c) first (taken_range n i m r c (entered n i m r c) first)
    taken_is =
        let o = range_at (entered n i m r c) (taken_place first) in
        addition_has (addition n m c first) refl (kept_on n i m r c first (wire_of n c (taken_input first)) o)
        (is_kept (kept_on n i m r c first (wire_of n c (taken_input first)) o) (kept_keeps (wire_of n c (taken_input first)) o))

  pub choice_taken : (c : ℕ) → is_choice (spec_of n c) ≡ true
      → AreTaken n i (table_of n m.dead r) c (entered n i m r c) (taken_ranges n i m r c (entered n i m r c))
  choice_taken c h =
      let p = and_both (is_switch (spec_of n c).kind) (nat_eq (size (spec_of n c)) 1) h in
      record { switch = p.0; single = nat_same (size (spec_of n c)) 1 p.1; condition = refl; taken = by_input_taken }
    where
      by_input_taken : (first : Bool)
          → HasTaken n i (table_of n m.dead r) c (entered n i m r c) first (range_at (taken_ranges n i m r c (entered n i m r c)) (taken_place first))
      by_input_taken true = taken_is c true
      by_input_taken false = taken_is c false
