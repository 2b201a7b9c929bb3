-- What is observed of a run, and of one that goes on from what was saved, is told by a table that no rule widens.
use Rattle.std.proofs.Common.{◌≡◌, ℕ, zero, suc, ◌+◌, ◌-◌, ◌==◌, Bool, true, false, cond, ℤ, List, [], ◌∷◌, ◌++◌, Some, refl, sym, ap, subst, ◌∙◌, arith}
use Rattle.sci_base.specs.declared.observation.EndWord.TheVariants.{Halt, Events}
use Rattle.sci_base.specs.declared.observation.Obs.{Obs}
use Rattle.sci_base.specs.declared.observation.Obs.TheVariants.{End}
use Rattle.sci_base.specs.declared.observation.StopWord.{StopWord}
use Rattle.sci_base.specs.Lists.{at}
use Rattle.sci_forms.specs.declared.spec.Spec.{Spec}
use Rattle.sci_net.specs.declared.Source.{Source}
use Rattle.sci_net.specs.declared.Source.TheVariants.{Start}
use Rattle.sci_net.specs.Net.{IsNet}
use Rattle.sci_net.specs.Parts.{Parts}
use Rattle.sci_net.specs.Sources.{source_of}
use Rattle.sci_reaction.specs.Memory.{Memory, Columns, AreColumns}
use Rattle.sci_reaction.specs.Result.{Stopped, IsResult}
use Rattle.sci_reaction.proofs.Spreading.{Spread-block}
use Rattle.sci_pending.specs.Pending.{Event, next}
use Rattle.sci_run.specs.Activity.{halts_from, halts}
use Rattle.sci_run.specs.Alike.{GoOnAlike}
use Rattle.sci_run.specs.Anew.{Rises}
use Rattle.sci_run.specs.Finish.{ByEnd, ended}
use Rattle.sci_run.specs.Laws.{AreLoopFree}
use Rattle.sci_run.specs.Observed.{reactions, stop_seen}
use Rattle.sci_run.specs.Run.{State, first_state, taken, ReactionOutcome, Leads, StopsWith, IsOutcome, Decision, Over, Fires, in_time, comes_next, Then, EndsOr, Observes, IsRunFrom, IsRest}
use Rattle.sci_run.proofs.Anew.{anew}
use Rattle.sci_run.proofs.Finish.{run_is_over}
use Rattle.sci_run.proofs.Ordered.{fires_next, stands_ahead}
use Rattle.sci_run.proofs.Reactions.{reactions_joined}
use Rattle.sci_run.proofs.SameRest.{same_rest}
use Rattle.sci_run.proofs.Unique.{one_trace}
use Rattle.sci_save.specs.Resumed.{state_of}
use Rattle.sci_save.specs.Saved.{Saved}
use Rattle.sci_resume.specs.Behind.{IsSavedBehind}
use Rattle.sci_ranges_base.specs.Intervals.{IsIn, IsInSome}
use Rattle.sci_ranges_rules.specs.Rules.{state_range}
use Rattle.sci_ranges.specs.Closed.{IsClosed}
use Rattle.sci_ranges.specs.Columns.{KeepWithin}
use Rattle.sci_ranges.specs.Holds.{IsCovered}
use Rattle.sci_ranges.specs.Table.{Table, held_range}
use Rattle.sci_ranges.proofs.Running.{Behind, start_follows, behind_start, start_listed, event_follows, behind_event, event_listed, stands_behind, closed_holds}
use Rattle.sci_range_command_laws.specs.Told.{told_end, told_stop, AreTold}
use Rattle.sci_range_command_laws.specs.Runs.{RunsAreTold, RestsAreTold, SavedAreHeld}
use Rattle.sci_range_command_laws.proofs.Observing.{joined, header_is_told, reaction_is_told}

-- ---- the end, or an event

ends_told : (n : Parts) (t : Table) (d : Decision) (os : List Obs) (fires : Event → Type 0) → EndsOr d os fires → ((e : Event) → d ≡ Fires e → fires e → AreTold n t os) → AreTold n t os
ends_told n t (Over word) os fires h goes = subst (AreTold n t) (sym h) (told_end word, tt)
ends_told n t (Fires e) os fires h goes = goes e refl h

-- a block that stops is one of the net
stop_told : (n : Parts) (j : Columns) (t : Table) (date : ℕ) (s : Source) (m : Memory) (b : ℕ) (word : StopWord) → IsResult n m j s (Stopped b word) → t.stops b word ≡ true
    → AreTold n t (stop_seen date s b word)
stop_told n j t date s m b word stop listed = (header_is_told n t date s, (told_stop b word (Spread-block n s _ stop.2.active) listed, tt))

-- ---- a run

module _ (n : Parts) (i j : Columns) (t : Table) (net : IsNet n) (free : AreLoopFree n) (columns : AreColumns n i) (keeps : KeepWithin n i j) (closed : IsClosed n i t) (until : ℕ) where
  -- an event fires, behind which the rest is told
  event_told : (left : ℕ) (st : State) (e : Event) → Behind n t st → next st.pending.events ≡ Some e
      → ((after : State) (more : List Obs) → Behind n t after → IsRunFrom n j until left after more → AreTold n t more)
      → (o : ReactionOutcome) → IsOutcome n j e.date (source_of n e.source) (taken st e) o → (os : List Obs) → Then o (IsRunFrom n j until left) os → AreTold n t os
  event_told left st e behind fires rest (Leads seen after) is os h =
      let follows = event_follows n i j t net free columns keeps closed st after e seen behind fires is in
      let later = behind_event n i j t net free columns keeps closed st after e seen behind fires is in
      subst (AreTold n t) (sym h.1)
      (joined n t seen h.0 (reaction_is_told n j t e.date (source_of n e.source) (taken st e) after seen follows is) (rest after h.0 later h.2))
  event_told left st e behind fires rest (StopsWith seen) is os h =
      let listed = event_listed n i j t net free columns keeps closed st e behind fires is.block is.word is.result in
      subst (AreTold n t) (sym (h ∙ is.observed)) (stop_told n j t e.date (source_of n e.source) st.memory is.block is.word is.result listed)

  pub rest_told : (left : ℕ) (st : State) (os : List Obs) → Behind n t st → IsRunFrom n j until left st os → AreTold n t os
  unfolding IsRunFrom
  rest_told zero st os behind h = ends_told n t (comes_next n until 0 st) os (λ e. ⊥) h (λ e is none. absurd none)
  rest_told (suc left) st os behind h =
      ends_told n t (comes_next n until (suc left) st) os (λ e. Observes n j e.date (source_of n e.source) (taken st e) (IsRunFrom n j until left) os) h
      (λ e is o. event_told left st e behind (fires_next until (suc left) (halts n st.active) (next st.pending.events) e is) (λ after more b r. rest_told left after more b r)
      o.outcome o.is os o.goes_on)

  start_told : (limit : ℕ) (o : ReactionOutcome) → IsOutcome n j 0 Start (first_state n) o → (os : List Obs) → Then o (IsRest n j until limit) os → AreTold n t os
  start_told limit (Leads seen after) is os h =
      let follows = start_follows n i j t net free columns keeps closed after seen is in
      let later = behind_start n i j t net free columns keeps closed after seen is in
      subst (AreTold n t) (sym h.1)
      (joined n t seen h.0 (reaction_is_told n j t 0 Start (first_state n) after seen follows is) (rest_told (limit - after.fired) after h.0 later h.2))
  start_told limit (StopsWith seen) is os h =
      let listed = start_listed n i j t net free columns keeps closed is.block is.word is.result in
      subst (AreTold n t) (sym (h ∙ is.observed)) (stop_told n j t 0 Start (first_state n).memory is.block is.word is.result listed)

pub runs_are_told : RunsAreTold
runs_are_told n i j t until limit os net free columns closed keeps run =
    start_told n i j t net free columns keeps closed until limit run.outcome run.is os run.goes_on

-- ---- a run that goes on

none_halts : (b : ℕ) (ss : List Spec) → halts_from b ss (λ c. false) ≡ false
none_halts b [] = refl
none_halts b (s ∷ ss) = none_halts (b + 1) ss

-- where an event fires, no HALT_f was active
not_halted : (t : Bool) (d : Decision) (e : Event) → cond t (Over Halt) d ≡ Fires e → t ≡ false
not_halted true d e h = absurd cc
not_halted false d e h = refl

rises_from : (now : ℕ) (ds : List (ℕ × ℕ)) → Rises now ds → Rises 0 ds
rises_from now [] r = tt
rises_from now (d ∷ ds) r = (omega arith, r.1)

module _ (n : Parts) (j : Columns) (until limit reaction : ℕ) (m : Saved) (net : IsNet n) (free : AreLoopFree n) (h : IsSavedBehind n j until limit reaction m) where
  -- behind the reaction an event fires, since it isn't the last
  fires_behind : (d : Decision) → comes_next n until (limit - h.state.fired) h.state ≡ d → (e : Event) × (comes_next n until (limit - h.state.fired) h.state ≡ Fires e)
  fires_behind (Fires e) is = (e, is)
  fires_behind (Over word) is =
      let os = h.seen ++ End word ∷ [] in
      let run = (run_is_over n j until limit os).1 (h.state, ByEnd word, ended h.state word h.seen h.reachable is) in
      let same : reactions h.observed ≡ reactions os = ap reactions (one_trace n j net free until limit h.observed os h.run run) in
      let both = reactions_joined h.seen (End word ∷ []) in
      absurd (omega (arith, same, both, h.more, h.counted))

  pub goes_alike : GoOnAlike n (state_of m) h.state
  goes_alike =
      let fires = fires_behind (comes_next n until (limit - h.state.fired) h.state) refl in
      record {
        memory = h.saved.memory;
        numbered = anew.numbered m.pending;
        other_numbered = (stands_ahead n net j until limit h.state h.seen h.reachable).numbered;
        pending = anew.in_order_again m.pending (rises_from m.now m.pending h.saved.shaped.pending.rises) ∙ h.saved.pending;
        fired = h.saved.fired;
        halts = none_halts 1 n.specs
            ∙ sym (not_halted (halts n h.state.active) (cond (limit - h.state.fired == 0) (Over Events) (in_time until (next h.state.pending.events))) fires.0 fires.1);
      }

pub rests_are_told : RestsAreTold
rests_are_told n i j k t until limit reaction later more m os net free columns closed keeps keep h rest =
    let behind = stands_behind n i j t net free columns keeps closed until limit h.state h.seen h.reachable in
    let same = same_rest n k later more (state_of m) h.state os (goes_alike n j until limit reaction m net free h) rest in
    rest_told n i k t net free columns keep closed later (more - h.state.fired) h.state os behind same

pub saved_are_held : SavedAreHeld
saved_are_held n i j t until limit reaction m net free columns closed keeps h =
    let covered : IsCovered n t h.state = (closed_holds n i t net free columns closed).reached j until limit h.state h.seen keeps h.reachable in
    record {
      held = λ b e block l. subst (λ (vs : List ℤ). IsInSome (held_range n t b e) (at vs e)) (sym (h.saved.memory.held b block)) (covered.held b e block l);
      states = λ b e block l. subst (λ (vs : List ℤ). IsIn (state_range (t.states b) e) (at vs e)) (sym (h.saved.memory.state b block)) (covered.states b e block l);
    }
