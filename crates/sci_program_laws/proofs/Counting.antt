-- In every reachable state counters stand below their bases.
use Rattle.std.proofs.Common.{◌≡◌, ℕ, ◌<◌, ◌⊎◌, inl, inr, ℤ, pos, negsuc, ◌+ℤ◌, ◌≤ℤ◌, ◌<ℤ◌, List, Bool, true, false, length, cond, refl, sym, ap, ◌∙◌, subst, arith}
use Rattle.std.specs.Prelude.{nat_eq}
use Rattle.std.specs.Int.{int_rem_euclid}
use Rattle.std.proofs.lemmas.Int.{ints}
use Rattle.sci_base.specs.declared.observation.Obs.{Obs}
use Rattle.sci_base.specs.Lists.{at, spread}
use Rattle.sci_base.proofs.FitLemmas.{rem_bounds}
use Rattle.sci_forms.specs.declared.Kind.{Kind}
use Rattle.sci_forms.specs.declared.spec.Spec.{Spec}
use Rattle.sci_forms.specs.Words.{param, state_len_of}
use Rattle.sci_kinds.specs.Asks.{Asks}
use Rattle.sci_kinds.specs.Table.{next_of, next, state_len, first_state as first_of_spec}
use Rattle.sci_kinds.proofs.Elements.{listed_at}
use Rattle.sci_kinds.proofs.LawProofs.{asks}
use Rattle.sci_net.specs.declared.Source.{Source}
use Rattle.sci_net.specs.declared.Source.TheVariants.{Start}
use Rattle.sci_net.specs.Parts.{Parts, IsBlock, spec_of}
use Rattle.sci_net.specs.Net.{IsNet}
use Rattle.sci_net.specs.Sources.{source_of}
use Rattle.sci_reaction.specs.Memory.{Memory, Columns, first_memory}
use Rattle.sci_reaction.specs.Equations.{Signals, input_in, all_inputs}
use Rattle.sci_reaction.specs.Next.{IsNextMemory, IsUpdated, Stays}
use Rattle.sci_run.specs.Run.{State, first_state, taken, Reacts, ReachableFrom, here, reacted, Reachable}
use Rattle.sci_cgen_blocks.specs.Laws.{IsCount}

abbrev pub AreCounts : Parts → Memory → Type 0
AreCounts n m = (b : ℕ) → IsBlock n b → IsCount (spec_of n b) (m.state b)

-- ---- one block

below_base : (z b : ℤ) → pos 1 ≤ℤ b → (pos 0 ≤ℤ int_rem_euclid z b) × (int_rem_euclid z b <ℤ b)
below_base z (pos n) h = rem_bounds z n (omega (arith, ints, h))
below_base z (negsuc n) h = absurd (omega (arith, ints, h))

spread_first : (vs : List ℤ) → spread vs 0 ≡ at vs 0
spread_first vs = either (nat_eq (length vs) 1)
  where
    either : (t : Bool) → cond t (at vs 0) (at vs 0) ≡ at vs 0
    either true = refl
    either false = refl

first_count : (s : Spec) → Asks s.kind s → IsCount s (first_of_spec s)
first_count s asked is =
    let a = subst (λ (k : Kind). Asks k s) is asked in
    let one : state_len s ≡ 1 = ap (λ (k : Kind). state_len_of k s) is in
    let some : 0 < state_len s = omega (arith, one) in
    let first : at (first_of_spec s) 0 ≡ at s.state 0 = (listed_at (spread s.state) (state_len s)).1 0 some ∙ spread_first s.state in
    (subst (λ (z : ℤ). pos 0 ≤ℤ z) (sym first) a.7, subst (λ (z : ℤ). z <ℤ param s 0) (sym first) a.8)

next_count : (s : Spec) (x : List ℤ) (mask : ℕ) (u : List ℤ) → Asks s.kind s → IsCount s (next s x mask u)
next_count s x mask u asked is =
    let a = subst (λ (k : Kind). Asks k s) is asked in
    let one : state_len s ≡ 1 = ap (λ (k : Kind). state_len_of k s) is in
    let some : 0 < state_len s = omega (arith, one) in
    let first : at (next s x mask u) 0 ≡ int_rem_euclid (at x 0 +ℤ pos 1) (param s 0) =
    (listed_at (next_of s.kind s x mask u) (state_len s)).1 0 some ∙ ap (λ (k : Kind). next_of k s x mask u 0) is in
    let within = below_base (at x 0 +ℤ pos 1) (param s 0) a.2 in
    (subst (λ (z : ℤ). pos 0 ≤ℤ z) (sym first) within.0, subst (λ (z : ℤ). z <ℤ param s 0) (sym first) within.1)

-- ---- all blocks

pub first_counts : (n : Parts) → IsNet n → AreCounts n (first_memory n)
first_counts n net b block = first_count (spec_of n b) (asks (spec_of n b) (net.typed_specs b block))

next_counts : (n : Parts) → IsNet n → (m after : Memory) (s : Source) (y : Signals) → AreCounts n m → IsNextMemory n m s y after → AreCounts n after
next_counts n net m after s y counts next_is b block = by_step (next_is b block)
  where
    by_step : (IsUpdated n m s y after b ⊎ Stays n m s y after b) → IsCount (spec_of n b) (after.state b)
    by_step (inl u) =
        subst (IsCount (spec_of n b)) (sym u.state)
        (next_count (spec_of n b) (m.state b) u.mask (all_inputs (spec_of n b) (input_in n y b)) (asks (spec_of n b) (net.typed_specs b block)))
    by_step (inr u) = subst (IsCount (spec_of n b)) (sym u.state) (counts b block)

module _ (n : Parts) (i : Columns) (net : IsNet n) where
  reacts_counts : (date : ℕ) (s : Source) (st after : State) (seen : List Obs) → AreCounts n st.memory → Reacts n i date s st after seen → AreCounts n after.memory
  reacts_counts date s st after seen counts h =
      subst (λ (a : State). AreCounts n a.memory) (sym h.leads) (next_counts n net st.memory h.memory s h.values counts h.next)

  reaches_counts : (until limit : ℕ) (from : State) → AreCounts n from.memory → {st : State} → {seen : List Obs} → ReachableFrom n i until limit from st seen
      → AreCounts n st.memory
  reaches_counts until limit from counts here = counts
  reaches_counts until limit from counts (reacted st after e seen more before fires h) =
      reacts_counts e.date (source_of n e.source) (taken st e) after more (reaches_counts until limit from counts before) h

  pub counts_stand : (until limit : ℕ) (st : State) (seen : List Obs) → Reachable n i until limit st seen → AreCounts n st.memory
  counts_stand until limit st seen stands =
      reaches_counts until limit stands.first (reacts_counts 0 Start (first_state n) stands.first stands.at_start (first_counts n net) stands.started) stands.reaches
