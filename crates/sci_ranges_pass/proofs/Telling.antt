-- What the pass works out of an element is told of it.
use Rattle.std.proofs.Common.{◌≡◌, ℕ, zero, suc, ◌+◌, ◌<◌, Bool, true, false, ◌&&◌, cond, nat_eq, pos, negsuc, [], length, Option, Some, None, refl, sym, subst, arith, add-one}
use Rattle.std.specs.Prelude.{option_map, slice_index_or}
use Rattle.sci_base.specs.Fit.{int_eq}
use Rattle.sci_forms.specs.Words.{param}
use Rattle.sci_net.specs.declared.Wire.{Wire}
use Rattle.sci_net.specs.Net.{IsNet}
use Rattle.sci_net.specs.Parts.{Parts, IsBlock, spec_of, wire_of}
use Rattle.sci_reaction.specs.Memory.{Columns}
use Rattle.sci_reaction.proofs.Lists.{and_both}
use Rattle.sci_run.specs.Laws.{AreLoopFree}
use Rattle.sci_ranges_base.specs.declared.interval.Interval.{Interval}
use Rattle.sci_ranges_base.specs.Intervals.{meet}
use Rattle.sci_ranges_rules.specs.Rules.{cells, exact_sums}
use Rattle.sci_ranges_refined.specs.Sums.{is_sum, sum_cells, keeps_sum, shrinks, adds_two, takes_difference, subtracted, either_input, leaking_sums, shifts_right, places_of}
use Rattle.sci_ranges_refined.proofs.Adding.{two_inputs}
use Rattle.sci_ranges.specs.Table.{Table}
use Rattle.sci_ranges.specs.Told.{ActsAlong, first_output, HasPart, given, shrunk, GoesTowards, Leaks, HasSum, summed, towards, leaking, Tells, by_rule, by_sum, by_choice}
use Rattle.sci_ranges_rows.specs.Marks.{Marks, AreMarks}
use Rattle.sci_ranges_rows.specs.Tests.{is_along}
use Rattle.sci_ranges_rows.proofs.Testing.{along_by_test}
use Rattle.sci_ranges_pass.specs.Ranges.{Ranges, table_of, same_wire, entered, masks_for}
use Rattle.sci_ranges_pass.specs.Taken.{is_choice, taken_ranges, told_inputs}
use Rattle.sci_ranges_pass.specs.Told.{either_of, first_of, shrinks_along, step_back, stepped_back, subtracts_along, aim_at, aim, Leak, loses, keeps, kept_at, leak_by, leak_at, leak, by_aim, by_leak, sum_range, told}
use Rattle.sci_ranges_pass.proofs.Entering.{wires_same, enters}
use Rattle.sci_ranges_pass.proofs.Taking.{from_first, kind_block, choice_taken}

-- ---- the first that is there

either_is : {A : Type 0} (o p : Option A) (x : A) (P : A → Type 0) → (o ≡ Some x → P x) → (p ≡ Some x → P x) → either_of o p ≡ Some x → P x
either_is None p x P f g h = g h
either_is (Some y) p x P f g h = f h

first_is : {A : Type 0} (f : ℕ → Option A) (count : ℕ) (x : A) → first_of f count ≡ Some x → (k : ℕ) × (k < count) × (f k ≡ Some x)
first_is f zero x h = cc
first_is f (suc count) x h =
    either_is (first_of f count) (f count) x (λ _. (k : ℕ) × (k < suc count) × (f k ≡ Some x))
    (λ e. let r = first_is f count x e in (r.0, omega (arith, r.1), r.2)) (λ e. (count, omega arith, e)) h

-- a leak, by the block that shifts
record IsLeak (n : Parts) (t : Table) (c : ℕ) (x : Leak) : Type 0 where
  shift : ℕ
  leaks : Leaks n t c x.kept x.lost shift
  places : x.places ≡ places_of (spec_of n shift)

module _ (n : Parts) (i : Columns) (m : Marks) (r : Ranges) (net : IsNet n) (free : AreLoopFree n) (marks : AreMarks n m) where
  along : (a c : ℕ) → is_along m a c ≡ true → ActsAlong n (table_of n m.dead r) a c
  along a c h s live may = along_by_test n m a c s net free marks h live may

  -- ---- towards

  -- a part of what the wire one step back has is a part of what this one has
  step_part : (c f : ℕ) (w : Wire) → HasPart n (table_of n m.dead r) c f (step_back n m c w) → HasPart n (table_of n m.dead r) c f w
  step_part c f w h = by_test (shrinks_along n m c w) refl h
    where
      by_test : (b : Bool) → shrinks_along n m c w ≡ b → HasPart n (table_of n m.dead r) c f (cond b (wire_of n w.block 1) w) → HasPart n (table_of n m.dead r) c f w
      by_test false e g = g
      by_test true e g =
          let p = and_both (nat_eq w.port 1) (shrinks (spec_of n w.block) && is_along m w.block c) e in
          let q = and_both (shrinks (spec_of n w.block)) (is_along m w.block c) p.1 in
          subst (HasPart n (table_of n m.dead r) c f) (from_first w p.0) (shrunk w.block (along w.block c q.1) q.0 g)

  aim_goes : (c f from more : ℕ) → adds_two (spec_of n c) ≡ true → from + more ≡ 1 → aim_at n m c (suc from) (suc more) ≡ Some f → GoesTowards n (table_of n m.dead r) c f
  aim_goes c f from more adds two h =
      by_test (subtracts_along n m c (wire_of n c (suc from)) (stepped_back n m c (wire_of n c (suc more)))) refl h
    where
      by_test : (b : Bool) → subtracts_along n m c (wire_of n c (suc from)) (stepped_back n m c (wire_of n c (suc more))) ≡ b
          → cond b (Some (stepped_back n m c (wire_of n c (suc more))).block) None ≡ Some f → GoesTowards n (table_of n m.dead r) c f
      by_test false e g = cc
      by_test true e g = subst (GoesTowards n (table_of n m.dead r) c) (some_is (stepped_back n m c (wire_of n c (suc more))).block f g) (goes (stepped_back n m c (wire_of n c (suc more))) e (λ h. h))
        where
          some_is : (a b : ℕ) → Some a ≡ Some b → a ≡ b
          some_is a b q = cc

          goes : (v : Wire) → subtracts_along n m c (wire_of n c (suc from)) v ≡ true
              → (HasPart n (table_of n m.dead r) c v.block v → HasPart n (table_of n m.dead r) c v.block (stepped_back n m c (wire_of n c (suc more))))
              → GoesTowards n (table_of n m.dead r) c v.block
          goes v q back =
              let p1 = and_both (nat_eq v.port 1) (takes_difference (spec_of n v.block) && (is_along m v.block c && same_wire (wire_of n c (suc from)) (wire_of n v.block (subtracted (spec_of n v.block) + 1)))) q in
              let p2 = and_both (takes_difference (spec_of n v.block)) (is_along m v.block c && same_wire (wire_of n c (suc from)) (wire_of n v.block (subtracted (spec_of n v.block) + 1))) p1.1 in
              let p3 = and_both (is_along m v.block c) (same_wire (wire_of n c (suc from)) (wire_of n v.block (subtracted (spec_of n v.block) + 1))) p2.1 in
              let own : HasPart n (table_of n m.dead r) c v.block v = subst (HasPart n (table_of n m.dead r) c v.block) (from_first v p1.0) (given (along v.block c p3.0)) in
              record {
                adds = adds;
                takes = p2.0;
                from = from;
                more = more;
                two = two;
                same = subst (λ k. wire_of n c (suc from) ≡ wire_of n v.block k) (add-one (subtracted (spec_of n v.block)))
                    (wires_same (wire_of n c (suc from)) (wire_of n v.block (subtracted (spec_of n v.block) + 1)) p3.1);
                part = step_part c v.block (wire_of n c (suc more))
                    (step_part c v.block (step_back n m c (wire_of n c (suc more))) (step_part c v.block (step_back n m c (step_back n m c (wire_of n c (suc more)))) (back own)));
              }

  aim_is : (c f : ℕ) → aim n m c ≡ Some f → GoesTowards n (table_of n m.dead r) c f
  aim_is c f h = by_test (adds_two (spec_of n c)) refl h
    where
      by_test : (b : Bool) → adds_two (spec_of n c) ≡ b → cond b (either_of (aim_at n m c 1 2) (aim_at n m c 2 1)) None ≡ Some f → GoesTowards n (table_of n m.dead r) c f
      by_test false e g = cc
      by_test true e g =
          either_is (aim_at n m c 1 2) (aim_at n m c 2 1) f (GoesTowards n (table_of n m.dead r) c) (λ q. aim_goes c f 0 1 e (omega arith) q) (λ q. aim_goes c f 1 0 e (omega arith) q) g

  -- ---- leaking

  kept_is : (c g k count : ℕ) → first_of (kept_at n c g) count ≡ Some k → (k < count) × (keeps n c g k ≡ true)
  kept_is c g k count h =
      let f = first_is (kept_at n c g) count k h in by_test f.0 (keeps n c g f.0) refl f.2 f.1
    where
      by_test : (j : ℕ) (b : Bool) → keeps n c g j ≡ b → cond b (Some j) None ≡ Some k → j < count → (k < count) × (keeps n c g k ≡ true)
      by_test j false e q l = cc
      by_test j true e q l = let same : j ≡ k = cc in (subst (λ d. d < count) same l, subst (λ d. keeps n c g d ≡ true) same e)

  leak_is : (c : ℕ) (x : Leak) → IsBlock n c → leak n m c ≡ Some x → IsLeak n (table_of n m.dead r) c x
  leak_is c x block h = by_kind (is_sum (spec_of n c).kind) h
    where
      leaks : (l : ℕ) (k : ℕ) → l < length (spec_of n c).ins → loses n m c l ≡ true → first_of (kept_at n c (wire_of n c (l + 1)).block) (length (spec_of n c).ins) ≡ Some k
          → Leaks n (table_of n m.dead r) c k l (wire_of n c (l + 1)).block
      leaks l k few loss found =
          let v : Wire = wire_of n c (l + 1) in
          let f = kept_is c v.block k (length (spec_of n c).ins) found in
          let p1 = and_both (int_eq (param (spec_of n c) (l + 1)) (negsuc 0)) (nat_eq v.port 1 && (shifts_right (spec_of n v.block) && is_along m v.block c)) loss in
          let p2 = and_both (nat_eq v.port 1) (shifts_right (spec_of n v.block) && is_along m v.block c) p1.1 in
          let p3 = and_both (shifts_right (spec_of n v.block)) (is_along m v.block c) p2.1 in
          let q = and_both (int_eq (param (spec_of n c) (k + 1)) (pos 1)) (same_wire (wire_of n v.block 1) (wire_of n c (k + 1))) f.1 in
          record {
            kept = record { block = block; least = omega arith; most = omega (arith, f.0) };
            lost = record { block = block; least = omega arith; most = omega (arith, few) };
            signs = record { added = q.0; taken = p1.0 };
            shifts = p3.0;
            along = along v.block c p3.1;
            shifted = subst (λ j. wire_of n c j ≡ first_output v.block) (add-one l) (sym (from_first v p2.0));
            same = subst (λ j. wire_of n v.block 1 ≡ wire_of n c j) (add-one k) (wires_same (wire_of n v.block 1) (wire_of n c (k + 1)) q.1);
          }

      at_input : (l : ℕ) → l < length (spec_of n c).ins → leak_at n m c l ≡ Some x → IsLeak n (table_of n m.dead r) c x
      at_input l few g = by_loss (loses n m c l) refl g
        where
          by_kept : (o : Option ℕ) → first_of (kept_at n c (wire_of n c (l + 1)).block) (length (spec_of n c).ins) ≡ o → loses n m c l ≡ true
              → option_map (leak_by n l (wire_of n c (l + 1)).block) o ≡ Some x → IsLeak n (table_of n m.dead r) c x
          by_kept None e loss q = cc
          by_kept (Some k) e loss q =
              let same : leak_by n l (wire_of n c (l + 1)).block k ≡ x = cc in
              subst (IsLeak n (table_of n m.dead r) c) same (record { shift = (wire_of n c (l + 1)).block; leaks = leaks l k few loss e; places = refl })

          by_loss : (b : Bool) → loses n m c l ≡ b
              → cond b (option_map (leak_by n l (wire_of n c (l + 1)).block) (first_of (kept_at n c (wire_of n c (l + 1)).block) (length (spec_of n c).ins))) None ≡ Some x
              → IsLeak n (table_of n m.dead r) c x
          by_loss false e q = cc
          by_loss true e q = by_kept (first_of (kept_at n c (wire_of n c (l + 1)).block) (length (spec_of n c).ins)) refl e q

      by_kind : (b : Bool) → cond b (first_of (leak_at n m c) (length (spec_of n c).ins)) None ≡ Some x → IsLeak n (table_of n m.dead r) c x
      by_kind false g = cc
      by_kind true g = let f = first_is (leak_at n m c) (length (spec_of n c).ins) x g in at_input f.0 f.1 f.2

  -- ---- what is told

  module _ (c : ℕ) (block : IsBlock n c) (e : ℕ) where
    aimed : (o : Option ℕ) → aim n m c ≡ o → HasSum n i (table_of n m.dead r) c (entered n i m r c) e (by_aim n i m r e o (exact_sums (spec_of n c) (entered n i m r c) e))
    aimed None h = summed
    aimed (Some f) h = by_test (keeps_sum (spec_of n f) (entered n i m r f) e) refl
      where
        by_test : (b : Bool) → keeps_sum (spec_of n f) (entered n i m r f) e ≡ b → HasSum n i (table_of n m.dead r) c (entered n i m r c) e
            (cond b (meet (exact_sums (spec_of n c) (entered n i m r c) e) (either_input (spec_of n f) (entered n i m r f) e)) (exact_sums (spec_of n c) (entered n i m r c) e))
        by_test false k = summed
        by_test true k =
            towards f (entered n i m r f) (exact_sums (spec_of n c) (entered n i m r c) e) summed (aim_is c f h)
            (enters n i m r net free marks f (kind_block is_sum refl n f (two_inputs (spec_of n f) (aim_is c f h).takes).0)) k

    leaked : (p : Option Interval) → HasSum n i (table_of n m.dead r) c (entered n i m r c) e p → (o : Option Leak) → leak n m c ≡ o
        → HasSum n i (table_of n m.dead r) c (entered n i m r c) e (by_leak n c (entered n i m r c) e o p)
    leaked p g None h = g
    leaked p g (Some x) h =
        let w = leak_is c x block h in
        subst (λ d. HasSum n i (table_of n m.dead r) c (entered n i m r c) e (meet p (leaking_sums (spec_of n c) x.kept x.lost d (entered n i m r c) e))) (sym w.places)
        (leaking x.kept x.lost w.shift p g w.leaks)

    pub told_tells : Tells n i (table_of n m.dead r) c (masks_for n m c) (entered n i m r c) e (told n i m r c (entered n i m r c) e)
    told_tells = by_kind (is_sum (spec_of n c).kind) refl
      where
        by_kind : (b : Bool) → is_sum (spec_of n c).kind ≡ b → Tells n i (table_of n m.dead r) c (masks_for n m c) (entered n i m r c) e
            (cond b (sum_cells (spec_of n c) (sum_range n i m r c (entered n i m r c) e))
            (cells (spec_of n c) (slice_index_or r.states c []) (masks_for n m c) (told_inputs n i m r c (entered n i m r c)) e))
        by_kind false h = by_inputs (is_choice (spec_of n c)) refl
          where
            by_inputs : (b : Bool) → is_choice (spec_of n c) ≡ b → Tells n i (table_of n m.dead r) c (masks_for n m c) (entered n i m r c) e
                (cells (spec_of n c) (slice_index_or r.states c []) (masks_for n m c) (cond b (taken_ranges n i m r c (entered n i m r c)) (entered n i m r c)) e)
            by_inputs true k = by_choice (taken_ranges n i m r c (entered n i m r c)) (choice_taken n i m r net free marks c k)
            by_inputs false k = by_rule
        by_kind true h =
            by_sum (sum_range n i m r c (entered n i m r c) e) h
            (leaked (by_aim n i m r e (aim n m c) (exact_sums (spec_of n c) (entered n i m r c) e)) (aimed (aim n m c) refl) (leak n m c) refl)
