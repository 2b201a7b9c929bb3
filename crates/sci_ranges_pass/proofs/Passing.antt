-- A table that passes is one that no rule widens.
use Rattle.std.proofs.Common.{◌≡◌, ℕ, zero, suc, ◌+◌, ◌<◌, Bool, true, false, not, ◌||◌, ◌&&◌, cond, ℤ, List, [], ◌∷◌, length, slice_index_or, Option, Some, None, refl, sym, subst, ◌∙◌, arith, add-one, true≢false}
use Rattle.std.specs.Prelude.{is_none, int_le}
use Rattle.sci_base.specs.Lists.{at, truth_at}
use Rattle.sci_forms.specs.declared.spec.Spec.{Spec}
use Rattle.sci_forms.specs.Form.{is_sync}
use Rattle.sci_forms.specs.Ports.{total}
use Rattle.sci_forms.proofs.TestLemmas.{int_le_told}
use Rattle.sci_kinds.specs.Table.{state_len, first_state}
use Rattle.sci_net.specs.Net.{IsNet}
use Rattle.sci_net.specs.Parts.{Parts, IsBlock, no_spec, spec_of}
use Rattle.sci_reaction.specs.Active.{IsSync}
use Rattle.sci_reaction.specs.Memory.{Columns}
use Rattle.sci_reaction.proofs.Lists.{and_both}
use Rattle.sci_reaction.proofs.Spreading.{Spread-block}
use Rattle.sci_run.specs.Laws.{AreLoopFree}
use Rattle.sci_ranges_base.specs.declared.interval.Interval.{Interval}
use Rattle.sci_ranges_base.specs.declared.cells.Cells.{Cells}
use Rattle.sci_ranges_base.specs.Intervals.{IsIn, has, meet, within, range_at}
use Rattle.sci_ranges_rules.specs.Rules.{cells, next_range, state_range, taking}
use Rattle.sci_ranges_refined.specs.Sums.{is_sum, sum_cells}
use Rattle.sci_ranges_reads.specs.Live.{MayAct, IsPossible}
use Rattle.sci_ranges.specs.Reads.{Reads}
use Rattle.sci_ranges.specs.Closed.{IsBlockClosed}
use Rattle.sci_ranges_rows.specs.Marks.{Marks, AreMarks, dead_of, may_act}
use Rattle.sci_ranges_rows.specs.Tests.{all_below}
use Rattle.sci_ranges_rows.proofs.Marking.{not_of}
use Rattle.sci_ranges_rows.proofs.Placed.{place_of}
use Rattle.sci_ranges_rows.proofs.Testing.{below_to, not_yes, may_here}
use Rattle.sci_ranges_pass.specs.Ranges.{Ranges, table_of, read_range, entered, masks_for}
use Rattle.sci_ranges_pass.specs.Taken.{told_inputs}
use Rattle.sci_ranges_pass.specs.Told.{sum_range, told}
use Rattle.sci_ranges_pass.specs.Pass.{holds_cells, holds_values, holds_sums, holds_told, holds_next, holds_first, are_dead, is_possible, holds_rule, holds_block, is_closed}
use Rattle.sci_ranges_pass.specs.Laws.{ClosedByTest, PossibleByTest}
use Rattle.sci_ranges_pass.proofs.Entering.{read_reads, enters, masks_are}
use Rattle.sci_ranges_pass.proofs.Telling.{told_tells}

has_told : (j : Interval) (v : ℤ) → has j v ≡ true → IsIn j v
has_told j v h =
    let p = and_both (int_le j.least v) (int_le v j.greatest) h in
    record { above = int_le_told j.least v p.0; below = int_le_told v j.greatest p.1 }

none_told : {A : Type 0} (o : Option A) → is_none o ≡ true → o ≡ None
none_told None h = refl
none_told (Some a) h = cc

-- a mark that is set stands in the list
mark_within : (bs : List Bool) (p : ℕ) → truth_at bs p ≡ true → p < length bs
mark_within [] p h = absurd (true≢false (sym h))
mark_within (b ∷ bs) zero h = omega arith
mark_within (b ∷ bs) (suc p) h = let l = mark_within bs p h in omega (arith, l)

-- what isn't a block isn't synchronous
sync_within : (ss : List Spec) (k : ℕ) → is_sync (slice_index_or ss k no_spec).kind ≡ true → k < length ss
sync_within [] k h = absurd (true≢false (sym h))
sync_within (s ∷ ss) zero h = omega arith
sync_within (s ∷ ss) (suc k) h = let l = sync_within ss k h in omega (arith, l)

sync_block : (n : Parts) (c : ℕ) → IsSync n c → IsBlock n c
sync_block n zero h = absurd (true≢false (sym h))
sync_block n (suc k) h = let l = sync_within n.specs k h in record { least = omega arith; most = omega (arith, l) }

-- where one of all doesn't hold
all_fails : (f : ℕ → Bool) (count k : ℕ) → k < count → f k ≡ false → not (all_below f count) ≡ true
all_fails f count k l h = not_of (all_below f count) (by_all (all_below f count) refl)
  where
    by_all : (b : Bool) → all_below f count ≡ b → all_below f count ≡ false
    by_all true e = absurd (true≢false (sym (below_to f count k e l) ∙ h))
    by_all false e = e

not_not : (b : Bool) → b ≡ true → not b ≡ false
not_not true h = refl
not_not false h = cc

-- some live source may activate it
pub possible_by_test : PossibleByTest
possible_by_test n m c net free marks h =
    let p = place_of n m marks h.live in
    let on = may_here n m net free marks p.0 c p.1 p.3 (subst (λ s. MayAct n (dead_of m.dead) s c) (sym p.2) h.acts) in
    all_fails (λ k. not (may_act m k c)) (length m.rows) p.0 p.1 (not_not (may_act m p.0 c) on)

module _ (n : Parts) (i : Columns) (m : Marks) (r : Ranges) (net : IsNet n) (free : AreLoopFree n) (marks : AreMarks n m) (passed : is_closed n i m r ≡ true) where
  block_holds : (c : ℕ) → IsBlock n c → holds_block n i m r c ≡ true
  block_holds zero block = absurd (omega (arith, block.least))
  block_holds (suc b) block = subst (λ c. holds_block n i m r c ≡ true) (add-one b) (below_to (λ b. holds_block n i m r (b + 1)) (length n.specs) b passed (omega (arith, block.most)))

  -- its three parts
  module _ (c : ℕ) (block : IsBlock n c) where
    first_part : holds_first (spec_of n c) r c ≡ true
    first_part =
        (and_both (holds_first (spec_of n c) r c) ((not (is_sync (spec_of n c).kind) || are_dead n m r c) && (not (is_possible m c) || holds_rule n i m r c)) (block_holds c block)).0

    rest : (not (is_sync (spec_of n c).kind) || are_dead n m r c) && (not (is_possible m c) || holds_rule n i m r c) ≡ true
    rest =
        (and_both (holds_first (spec_of n c) r c) ((not (is_sync (spec_of n c).kind) || are_dead n m r c) && (not (is_possible m c) || holds_rule n i m r c)) (block_holds c block)).1

    dead_part : is_sync (spec_of n c).kind ≡ true → are_dead n m r c ≡ true
    dead_part sync =
        not_yes (is_sync (spec_of n c).kind) (are_dead n m r c)
        (and_both (not (is_sync (spec_of n c).kind) || are_dead n m r c) (not (is_possible m c) || holds_rule n i m r c) rest).0 sync

    rule_part : is_possible m c ≡ true → holds_rule n i m r c ≡ true
    rule_part possible =
        not_yes (is_possible m c) (holds_rule n i m r c)
        (and_both (not (is_sync (spec_of n c).kind) || are_dead n m r c) (not (is_possible m c) || holds_rule n i m r c) rest).1 possible

  rule_closed : (c : ℕ) → IsPossible n (dead_of m.dead) c → IsBlockClosed n i (table_of n m.dead r) c
  rule_closed c h =
      let block : IsBlock n c = Spread-block n h.source _ h.acts in
      let both = and_both (holds_told n i m r c (entered n i m r c)) (holds_next (spec_of n c) r c (entered n i m r c)) (rule_part c block (possible_by_test n m c net free marks h)) in
      let each = by_kind (is_sum (spec_of n c).kind) both.0 in
      record {
        inputs = entered n i m r c;
        enter = enters n i m r net free marks c block;
        masks = masks_for n m c;
        masks_are = masks_are n i m r net free marks c block;
        told = told n i m r c (entered n i m r c);
        tells = λ e l. told_tells n i m r net free marks c block e;
        values = λ e l. (parts e (told n i m r c (entered n i m r c) e) (each e l)).0;
        overflow = λ e l on.
            not_yes ((told n i m r c (entered n i m r c) e).overflow) (truth_at r.overflows c) (parts e (told n i m r c (entered n i m r c) e) (each e l)).1 on;
        zero = λ e l on. not_yes ((told n i m r c (entered n i m r c) e).zero) (truth_at r.zeros c) (parts e (told n i m r c (entered n i m r c) e) (each e l)).2 on;
        ends = λ sensor. sensor;
        next = λ k l.
            below_to (λ k. within (next_range (spec_of n c) (slice_index_or r.states c []) (entered n i m r c) k) (Some (state_range (slice_index_or r.states c []) k))) (state_len (spec_of n c)) k both.1 l;
      }
    where
      by_kind : (b : Bool) → cond b (holds_sums n i m r c (entered n i m r c)) (holds_values (spec_of n c) r c (masks_for n m c) (told_inputs n i m r c (entered n i m r c))) ≡ true
          → (e : ℕ) → e < total (spec_of n c).outs → holds_cells r c e (cond b (sum_cells (spec_of n c) (sum_range n i m r c (entered n i m r c) e))
          (cells (spec_of n c) (slice_index_or r.states c []) (masks_for n m c) (told_inputs n i m r c (entered n i m r c)) e)) ≡ true
      by_kind true h e l = below_to (λ e. holds_cells r c e (sum_cells (spec_of n c) (sum_range n i m r c (entered n i m r c) e))) (total (spec_of n c).outs) e h l
      by_kind false h e l =
          below_to (λ e. holds_cells r c e (cells (spec_of n c) (slice_index_or r.states c []) (masks_for n m c) (told_inputs n i m r c (entered n i m r c)) e)) (total (spec_of n c).outs) e h l

      parts : (e : ℕ) (cs : Cells) → holds_cells r c e cs ≡ true
          → (within cs.values (range_at (slice_index_or r.shows c []) e) ≡ true) × ((not cs.overflow || truth_at r.overflows c) ≡ true) × ((not cs.zero || truth_at r.zeros c) ≡ true)
      parts e cs h =
          let a = and_both (within cs.values (range_at (slice_index_or r.shows c []) e)) ((not cs.overflow || truth_at r.overflows c) && (not cs.zero || truth_at r.zeros c)) h in
          let b = and_both (not cs.overflow || truth_at r.overflows c) (not cs.zero || truth_at r.zeros c) a.1 in
          (a.0, b.0, b.1)

  first_closed : (c k : ℕ) → IsBlock n c → k < state_len (spec_of n c) → IsIn (state_range (slice_index_or r.states c []) k) (at (first_state (spec_of n c)) k)
  first_closed c k block l =
      has_told (state_range (slice_index_or r.states c []) k) (at (first_state (spec_of n c)) k)
      (below_to (λ k. has (state_range (slice_index_or r.states c []) k) (at (first_state (spec_of n c)) k)) (state_len (spec_of n c)) k (first_part c block) l)

  dead_closed : (c p : ℕ) → IsSync n c → dead_of m.dead c p ≡ true
      → (o : Option Interval) × Reads n (table_of n m.dead r) c 1 0 o × (meet o (Some (taking (spec_of n c) p)) ≡ None)
  dead_closed c p sync on =
      let all = dead_part c (sync_block n c sync) sync in
      let test = below_to (λ p. not (dead_of m.dead c p) || is_none (meet (read_range n m r c 1 0) (Some (taking (spec_of n c) p)))) (length (slice_index_or m.dead c [])) p all
      (mark_within (slice_index_or m.dead c []) p on) in (
        read_range n m r c 1 0,
        read_reads n i m r net free marks c 0 0,
        none_told (meet (read_range n m r c 1 0) (Some (taking (spec_of n c) p))) (not_yes (dead_of m.dead c p) (is_none (meet (read_range n m r c 1 0) (Some (taking (spec_of n c) p)))) test on),
      )

pub closed_by_test : ClosedByTest
closed_by_test n i m r net free marks passed =
    record { blocks = rule_closed n i m r net free marks passed; first = first_closed n i m r net free marks passed; dead = dead_closed n i m r net free marks passed }
