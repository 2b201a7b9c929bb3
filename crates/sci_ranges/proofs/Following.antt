-- What follows a reaction of a live source.
use Rattle.std.proofs.Common.{◌≡◌, ℕ, suc, ◌+◌, ◌<◌, Bool, true, false, cond, if◌then◌else◌, pos, negsuc, ◌≤ℤ◌, List, Contains, Some, refl, sym, ap, subst, ◌∙◌, arith, ⊎_elim, true≢false}
use Rattle.std.proofs.lemmas.Int.{ints}
use Rattle.sci_base.specs.Lists.{at}
use Rattle.sci_forms.specs.Ports.{total}
use Rattle.sci_kinds.specs.Table.{state_len, next, delay}
use Rattle.sci_net.specs.declared.Feed.{Feed}
use Rattle.sci_net.specs.declared.Source.{Source}
use Rattle.sci_net.specs.declared.Source.TheVariants.{Port}
use Rattle.sci_net.specs.Net.{IsNet}
use Rattle.sci_net.specs.Parts.{Parts, IsBlock, IsInput, spec_of, wire_of}
use Rattle.sci_net.specs.Sources.{sources_of, source_of}
use Rattle.sci_reaction.specs.Active.{IsAlways}
use Rattle.sci_reaction.specs.Depends.{IsLoopFree}
use Rattle.sci_reaction.specs.Memory.{Memory, IsMemory, Columns, AreColumns}
use Rattle.sci_reaction.specs.Equations.{Signals, Takes, Active, IsMaskOf, input_in, all_inputs}
use Rattle.sci_reaction.specs.Next.{IsNextMemory}
use Rattle.sci_reaction.specs.Result.{Whole, IsResult}
use Rattle.sci_reaction.proofs.Fills.{entering_ins}
use Rattle.sci_reaction.proofs.Next.{memory_in_range}
use Rattle.sci_reaction.proofs.Sources.{sources_are}
use Rattle.sci_reaction.proofs.Spreading.{Spread-block, from_always}
use Rattle.sci_run.specs.Activity.{Activity, IsActivity}
use Rattle.sci_run.specs.Programs.{delay_of, next_pending}
use Rattle.sci_run.specs.Run.{State, after_reaction, Reacts}
use Rattle.sci_base.specs.declared.observation.Obs.{Obs}
use Rattle.sci_ranges_base.specs.Intervals.{IsIn, IsInSome, range_at}
use Rattle.sci_ranges_rules.specs.Laws.{AreInside}
use Rattle.sci_ranges_rules.specs.Rules.{state_range, next_range}
use Rattle.sci_ranges_rules.proofs.Feeding.{port_of}
use Rattle.sci_ranges_rules.proofs.Turning.{next_covers}
use Rattle.sci_ranges_reads.specs.Live.{MayAct, IsLive, AreKnown, IsPossible, may_program}
use Rattle.sci_ranges_reads.specs.Reading.{HasActed}
use Rattle.sci_ranges_reads.proofs.Acting.{programmed_is_live, programs}
use Rattle.sci_ranges.specs.Columns.{KeepWithin}
use Rattle.sci_ranges.specs.Table.{Table, held_range}
use Rattle.sci_ranges.specs.Closed.{IsBlockClosed, IsClosed}
use Rattle.sci_ranges.proofs.Answering.{within_some}
use Rattle.sci_ranges.proofs.Sensing.{stateful}
use Rattle.sci_ranges.proofs.Reading.{IsBefore, Known, held_now}
use Rattle.sci_ranges.proofs.Reacting.{element_has}
use Rattle.sci_ranges.proofs.Knowing.{whole_known}
use Rattle.sci_ranges.proofs.Programming.{AreLive, delays_live, none_delays, source_at}

-- of a state: what is remembered is within the table, and what has acted holds what it has shown; what is pending is of live sources
pub record Stands (n : Parts) (t : Table) (st : State) : Type 0 where
  pub memory : IsMemory n st.memory
  pub held : (b e : ℕ) → IsBlock n b → e < total (spec_of n b).outs → IsInSome (held_range n t b e) (at (st.memory.held b) e)
  pub states : (b k : ℕ) → IsBlock n b → k < state_len (spec_of n b) → IsIn (state_range (t.states b) k) (at (st.memory.state b) k)
  pub acted : (b e : ℕ) → 0 < st.activations b → IsBlock n b → e < total (spec_of n b).outs → IsInSome (range_at (t.shows b) e) (at (st.memory.held b) e)
  pub pending : AreLive n t.dead st.pending.events

-- behind a reaction: the blocks that are active may act, and have acted, as have those that the source always activates; where none that may act programs
-- anything, the same is pending as before
pub record Follows (n : Parts) (t : Table) (s : Source) (st after : State) : Type 0 where
  pub stands : Stands n t after
  pub active : (b : ℕ) → IsBlock n b → after.active b ≡ true → IsPossible n t.dead b × (0 < after.activations b)
  pub always : (b : ℕ) → IsBlock n b → IsAlways n s b → 0 < after.activations b
  pub kept : (b : ℕ) → 0 < st.activations b → 0 < after.activations b
  pub quiet : ((b : ℕ) → MayAct n t.dead s b → may_program (spec_of n b) ≡ false) → after.pending ≡ st.pending

counted : (on : Bool) (k : ℕ) → on ≡ true → 0 < (if on then k + 1 else k)
counted true k e = omega arith
counted false k e = cc

more : (on : Bool) (k : ℕ) → 0 < k → 0 < (if on then k + 1 else k)
more true k l = omega arith
more false k l = l

still : (on : Bool) (k : ℕ) → (on ≡ true → ⊥) → 0 < (if on then k + 1 else k) → 0 < k
still true k h l = absurd (h refl)
still false k h l = l

module _ (n : Parts) (i j : Columns) (t : Table) (net : IsNet n) (columns : AreColumns n i) (keeps : KeepWithin n i j) (closed : IsClosed n i t)
    (date : ℕ) (s : Source) (st : State) (y : Signals) (active : Activity) (memory : Memory) (live : IsLive n t.dead s) (free : IsLoopFree n s) (stands : Stands n t st)
    (acted : (b : ℕ) → IsBlock n b → HasActed n t.dead s b → 0 < st.activations b) (whole : IsResult n st.memory j s (Whole y)) (active_are : IsActivity n s y active)
    (next_is : IsNextMemory n st.memory s y memory) where
  before : IsBefore n t st.memory s
  before = record { held = stands.held; acted = λ b e has block l. stands.acted b e (acted b block has) block l }

  known : (b : ℕ) → IsBlock n b → Known n j t st.memory s y b
  known b block = whole_known n i j t st.memory s y net stands.memory live before stands.states columns keeps closed free whole b block

  known_active : (c : ℕ) → Active n s y c → Known n j t st.memory s y c
  known_active c on = known c (Spread-block n s _ on)

  are_known : (b : ℕ) → AreKnown n t.dead s y b
  are_known b c p on decides takes = ((known_active c on).acts on, (known_active c on).takes p on decides.sync takes)

  held_after : (b e : ℕ) → IsBlock n b → e < total (spec_of n b).outs → IsInSome (held_range n t b e) (at (memory.held b) e)
  held_after b e block l =
      ⊎_elim
      (λ up. subst (λ vs. IsInSome (held_range n t b e) (at vs e)) (sym up.held) (held_now n j t st.memory s y net live before b e (known b block) l))
      (λ off. subst (λ vs. IsInSome (held_range n t b e) (at vs e)) (sym off.held) (stands.held b e block l))
      (next_is b block)

  -- the next state of an active block
  next_in : (b mask : ℕ) → IsBlock n b → Active n s y b → IsMaskOf n s y b mask → (k : ℕ) → k < state_len (spec_of n b)
      → IsIn (state_range (t.states b) k) (at (next (spec_of n b) (st.memory.state b) mask (all_inputs (spec_of n b) (input_in n y b))) k)
  next_in b mask block on is k l =
      let c : IsBlockClosed n i t b = closed.blocks b (record { source = s; live = live; acts = (known b block).acts on }) in
      let kind = stateful (spec_of n b).kind (spec_of n b) k l in
      let inside : AreInside (spec_of n b) c.inputs (all_inputs (spec_of n b) (input_in n y b)) = λ e d.
      let r = port_of (spec_of n b).ins e (subst (λ ps. e < total ps) (entering_ins (spec_of n b).kind (spec_of n b) kind.0) d) in
      let within : IsInput n b (suc r.0) = record { block = block; least = omega arith; most = omega (arith, r.1) } in
      element_has n i j t st.memory s y net stands.memory live before stands.states columns keeps b mask block on ((known b block).acts on) (are_known b) is
      (λ a decides there. known_active a there) c (input_in n y b) r.0 e r.1 refl
      (known (wire_of n b (suc r.0)).block (net.wired.wires_lead b (suc r.0) within).block) (λ z. absurd (kind.1 z)) r.2 r.3 in
      within_some (next_range (spec_of n b) (t.states b) c.inputs k) (Some (state_range (t.states b) k))
      (at (next (spec_of n b) (st.memory.state b) mask (all_inputs (spec_of n b) (input_in n y b))) k) (c.next k l)
      (next_covers (spec_of n b) (t.states b) (st.memory.state b) mask c.inputs (all_inputs (spec_of n b) (input_in n y b)) k (net.typed_specs b block) (stands.memory.states b block)
      (λ h p. stands.states b h block p) inside l)

  states_after : (b k : ℕ) → IsBlock n b → k < state_len (spec_of n b) → IsIn (state_range (t.states b) k) (at (memory.state b) k)
  states_after b k block l =
      ⊎_elim
      (λ up. subst (λ vs. IsIn (state_range (t.states b) k) (at vs k)) (sym up.state) (next_in b up.mask block up.active up.mask_is k l))
      (λ off. subst (λ vs. IsIn (state_range (t.states b) k) (at vs k)) (sym off.state) (stands.states b k block l))
      (next_is b block)

  acted_after : (b e : ℕ) → 0 < (if active b then st.activations b + 1 else st.activations b) → IsBlock n b → e < total (spec_of n b).outs
      → IsInSome (range_at (t.shows b) e) (at (memory.held b) e)
  acted_after b e some block l =
      ⊎_elim
      (λ up. subst (λ vs. IsInSome (range_at (t.shows b) e) (at vs e)) (sym up.held) ((known b block).shown up.active e l))
      (λ off. subst (λ vs. IsInSome (range_at (t.shows b) e) (at vs e)) (sym off.held)
      (stands.acted b e (still (active b) (st.activations b) (λ on. off.idle ((active_are b block).0 on)) some) block l))
      (next_is b block)

  pending_after : AreLive n t.dead (next_pending n date y active st.pending).events
  pending_after =
      delays_live n t.dead date (delay_of n y active) 0 (sources_of n) st.pending
      (λ k q e d.
      let place : 0 + k ≡ k = omega arith in
      let source = source_at n k q e in
      let there : IsLive n t.dead (Port q) = programmed_is_live n t.dead s y active q active_are live source (λ on. (known_active q.block on).acts on) d in
      subst (IsLive n t.dead) (sym (ap (source_of n) place ∙ e)) there)
      stands.pending

  quiet_after : ((b : ℕ) → MayAct n t.dead s b → may_program (spec_of n b) ≡ false) → next_pending n date y active st.pending ≡ st.pending
  quiet_after quiet = none_delays date (delay_of n y active) 0 (sources_of n) st.pending (λ q c d. none q (source_in q c) (active q.block) refl d)
    where
      source_in : (q : Feed) → Contains (sources_of n) (Port q) → IsBlock n q.block
      source_in q c = ((sources_are n (Port q)).0 c).0.block

      none : (q : Feed) → IsBlock n q.block → (on : Bool) → active q.block ≡ on
          → pos 0 ≤ℤ cond on (delay (spec_of n q.block) q.port (all_inputs (spec_of n q.block) (input_in n y q.block))) (negsuc 0) → ⊥
      none q block true e d =
          let may = (known q.block block).acts ((active_are q.block block).0 e) in
          let yes = programs (spec_of n q.block).kind (spec_of n q.block) q.port (all_inputs (spec_of n q.block) (input_in n y q.block)) d in
          true≢false (sym yes ∙ quiet q.block may)
      none q block false e d = omega (arith, ints, d)

  follows : Follows n t s st (after_reaction n date st y active memory)
  follows = record {
    stands = record {
      memory = memory_in_range n st.memory s y memory net stands.memory (λ b block. (known b block).fills) next_is;
      held = held_after;
      states = states_after;
      acted = acted_after;
      pending = pending_after;
    };
    active = λ b block on. (
      record { source = s; live = live; acts = (known b block).acts ((active_are b block).0 on) },
      counted (active b) (st.activations b) on,
    );
    always = λ b block h. counted (active b) (st.activations b) ((active_are b block).1 (from_always n s (Takes n y) h));
    kept = λ b l. more (active b) (st.activations b) l;
    quiet = quiet_after;
  }

-- and so of each reaction of a run
pub reacts_follows : (n : Parts) (i j : Columns) (t : Table) → IsNet n → AreColumns n i → KeepWithin n i j → IsClosed n i t → (date : ℕ) (s : Source) (st after : State) (seen : List Obs)
    → IsLive n t.dead s → IsLoopFree n s → Stands n t st → ((b : ℕ) → IsBlock n b → HasActed n t.dead s b → 0 < st.activations b) → Reacts n j date s st after seen → Follows n t s st after
reacts_follows n i j t net columns keeps closed date s st after seen live free stands acted h =
    subst (Follows n t s st) (sym h.leads)
    (follows n i j t net columns keeps closed date s st h.values h.active h.memory live free stands acted h.result h.active_are h.next)
