-- There is a trace, and it goes on from each reachable state.
use Rattle.std.proofs.Common.{◌≡◌, ℕ, zero, suc, ◌+◌, ◌-◌, ◌==◌, ◌≤◌, Bool, true, false, ⊎_elim, List, [], ◌∷◌, ◌++◌, length, slice_index_or, if◌then◌else◌, refl, sym, ap, subst, ◌∙◌, append_assoc, arith}
use Rattle.std.proofs.lemmas.Bool.{cases_lt}
use Rattle.sci_base.specs.declared.observation.Obs.{Obs}
use Rattle.sci_base.specs.declared.observation.Obs.TheVariants.{End}
use Rattle.sci_base.specs.declared.observation.EndWord.TheVariants.{Halt, Events}
use Rattle.sci_net.specs.declared.Source.{Source}
use Rattle.sci_net.specs.declared.Source.TheVariants.{Start}
use Rattle.sci_net.specs.Parts.{Parts}
use Rattle.sci_net.specs.Net.{IsNet}
use Rattle.sci_net.specs.Sources.{sources_of, source_of}
use Rattle.sci_reaction.specs.Depends.{IsLoopFree}
use Rattle.sci_reaction.specs.Memory.{Columns}
use Rattle.sci_reaction.specs.Result.{Reaction, Whole, Stopped, IsResult}
use Rattle.sci_reaction.proofs.Decide.{decide_active}
use Rattle.sci_reaction.proofs.Rows.{test}
use Rattle.sci_reaction.proofs.Next.{some_next}
use Rattle.sci_reaction.proofs.Results.{some_result}
use Rattle.sci_pending.specs.Pending.{Event, next}
use Rattle.sci_run.specs.Observed.{values_seen, stop_seen}
use Rattle.sci_run.specs.Activity.{halts}
use Rattle.sci_run.specs.Run.{State, first_state, taken, after_reaction, ReactionOutcome, Leads, StopsWith, IsOutcome, Decision, Over, Fires, in_time, comes_next, Reacts, EndsOr, Observes, IsRunFrom, IsRest, IsRun, ReachableFrom, here, reacted, Reachable}
use Rattle.sci_run.specs.Laws.{AreLoopFree}

-- a number that is no place of the list names start
past_list : (ss : List Source) (k : ℕ) → length ss ≤ k → (P : Source → Type 0) → P Start → P (slice_index_or ss k Start)
past_list [] k l P h = h
past_list (s ∷ ss) zero l P h = absurd (omega (arith, l))
past_list (s ∷ ss) (suc k) l P h = past_list ss k (omega (arith, l)) P h

pub free_at : (n : Parts) → AreLoopFree n → (k : ℕ) → IsLoopFree n (source_of n k)
free_at n free k =
    ⊎_elim (λ in_list. free k in_list) (λ past. past_list (sources_of n) k past (λ s. IsLoopFree n s) (free 0 (omega arith)))
    (cases_lt k (length (sources_of n)))

module _ (n : Parts) (i : Columns) (net : IsNet n) (free : AreLoopFree n) (until : ℕ) where
  outcome_of : (date : ℕ) (s : Source) (st : State) (r : Reaction) → IsResult n st.memory i s r → (out : ReactionOutcome) × IsOutcome n i date s st out
  outcome_of date s st (Whole y) h =
      let memory = some_next n st.memory s y in (
        Leads (values_seen n date s y (λ b. (test (decide_active n s y b)).0)) (after_reaction n date st y (λ b. (test (decide_active n s y b)).0) memory.0),
        record {
          values = y;
          active = λ b. (test (decide_active n s y b)).0;
          memory = memory.0;
          result = h;
          active_are = λ b inside. (test (decide_active n s y b)).1;
          next = memory.1;
          leads = refl;
          observed = refl;
        },
      )
  outcome_of date s st (Stopped b word) h =
      (StopsWith (stop_seen date s b word), record { block = b; word = word; result = h; observed = refl })

  some_outcome : (date k : ℕ) (st : State) → (out : ReactionOutcome) × IsOutcome n i date (source_of n k) st out
  some_outcome date k st =
      let r = some_result n st.memory i (source_of n k) net (free_at n free k) in outcome_of date (source_of n k) st r.0 r.1

  observes_of : (date : ℕ) (s : Source) (st : State) (rest : State → List Obs → Type 0) → ((after : State) → (os : List Obs) × rest after os)
      → (out : ReactionOutcome) → IsOutcome n i date s st out → (os : List Obs) × Observes n i date s st rest os
  observes_of date s st rest some (Leads seen after) h =
      let r = some after in (seen ++ r.0, record { outcome = Leads seen after; is = h; goes_on = (r.0, refl, r.1) })
  observes_of date s st rest some (StopsWith seen) h = (seen, record { outcome = StopsWith seen; is = h; goes_on = refl })

  ends_or : (x : Decision) (fires : Event → List Obs → Type 0) → ((e : Event) → (os : List Obs) × fires e os) → (os : List Obs) × EndsOr x os (λ e. fires e os)
  ends_or (Over word) fires some = (End word ∷ [], refl)
  ends_or (Fires e) fires some = some e

  none_left : (halted : Bool) (x : Decision) → (os : List Obs) × EndsOr (if halted then Over Halt else if 0 == 0 then Over Events else x) os (λ e. ⊥)
  none_left true x = (End Halt ∷ [], refl)
  none_left false x = (End Events ∷ [], refl)

  some_from : (left : ℕ) (st : State) → (os : List Obs) × IsRunFrom n i until left st os
  unfolding IsRunFrom
  some_from zero st = none_left (halts n st.active) (in_time until (next st.pending.events))
  some_from (suc left) st =
      ends_or (comes_next n until (suc left) st) (λ e os. Observes n i e.date (source_of n e.source) (taken st e) (IsRunFrom n i until left) os)
      (λ e. let out = some_outcome e.date e.source (taken st e) in
      observes_of e.date (source_of n e.source) (taken st e) (IsRunFrom n i until left) (λ after. some_from left after) out.0 out.1)

  pub some_rest : (limit : ℕ) (st : State) → (os : List Obs) × IsRest n i until limit st os
  some_rest limit st = some_from (limit - st.fired) st

  pub some_trace : (limit : ℕ) → (os : List Obs) × IsRun n i until limit os
  some_trace limit =
      let out = some_outcome 0 0 (first_state n) in
      observes_of 0 Start (first_state n) (IsRest n i until limit) (λ after. some_rest limit after) out.0 out.1

-- ---- going on

module _ (n : Parts) (i : Columns) (until limit : ℕ) where
  -- an event fires only where one may
  pub left_over : (left : ℕ) (halted : Bool) (x : Decision) (e : Event) → (if halted then Over Halt else if left == 0 then Over Events else x) ≡ Fires e → (k : ℕ) × (left ≡ suc k)
  left_over zero true x e h = absurd (let w : Decision = Over Halt in cc)
  left_over zero false x e h = absurd (cc)
  left_over (suc k) halted x e h = (k, refl)

  step_back : (left : ℕ) (st after : State) (e : Event) (more os : List Obs) → comes_next n until (suc left) st ≡ Fires e
      → Reacts n i e.date (source_of n e.source) (taken st e) after more → IsRunFrom n i until left after os → IsRunFrom n i until (suc left) st (more ++ os)
  unfolding IsRunFrom
  step_back left st after e more os fires h rest =
      subst (λ x. EndsOr x (more ++ os) (λ f. Observes n i f.date (source_of n f.source) (taken st f) (IsRunFrom n i until left) (more ++ os))) (sym fires)
      (record { outcome = Leads more after; is = h; goes_on = (os, refl, rest) })

  one_back : (st after : State) (e : Event) (more os : List Obs) → comes_next n until (limit - st.fired) st ≡ Fires e
      → Reacts n i e.date (source_of n e.source) (taken st e) after more → IsRest n i until limit after os → IsRest n i until limit st (more ++ os)
  one_back st after e more os fires h rest =
      let k = left_over (limit - st.fired) (halts n st.active) (in_time until (next st.pending.events)) e fires in
      let fired : after.fired ≡ st.fired + 1 = ap (λ (a : State). a.fired) h.leads in
      let left : limit - after.fired ≡ k.0 = omega (arith, fired, k.1) in
      subst (λ m. IsRunFrom n i until m st (more ++ os)) (sym k.1)
      (step_back k.0 st after e more os (subst (λ m. comes_next n until m st ≡ Fires e) k.1 fires) h (subst (λ m. IsRunFrom n i until m after os) left rest))

  pub goes_on : (from : State) → {st : State} → {seen : List Obs} → ReachableFrom n i until limit from st seen → (os : List Obs) → IsRest n i until limit st os
      → IsRest n i until limit from (seen ++ os)
  goes_on from here os h = h
  goes_on from (reacted st after e seen more before fires h) os rest =
      subst (IsRest n i until limit from) (sym (append_assoc seen more os)) (goes_on from before (more ++ os) (one_back st after e more os fires h rest))

  pub run_goes_on : (st : State) (seen os : List Obs) → Reachable n i until limit st seen → IsRest n i until limit st os → IsRun n i until limit (seen ++ os)
  run_goes_on st seen os stands rest =
      let from = goes_on stands.first stands.reaches os rest in
      let joined : stands.at_start ++ (stands.later ++ os) ≡ seen ++ os = sym (append_assoc stands.at_start stands.later os) ∙ ap (λ l. l ++ os) (sym stands.observed) in
      subst (IsRun n i until limit) joined
      (record { outcome = Leads stands.at_start stands.first; is = stands.started; goes_on = (stands.later ++ os, refl, from) })
