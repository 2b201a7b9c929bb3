-- Each run is over behind a last state.
use Rattle.std.proofs.Common.{◌≡◌, ℕ, zero, suc, ◌+◌, ◌-◌, ◌↔◌, List, [], ◌∷◌, ◌++◌, refl, sym, ap, subst, ◌∙◌, append_assoc, append-nil, arith}
use Rattle.sci_base.specs.declared.observation.Obs.{Obs}
use Rattle.sci_base.specs.declared.observation.Obs.TheVariants.{End}
use Rattle.sci_base.specs.declared.observation.EndWord.{EndWord}
use Rattle.sci_base.specs.declared.observation.StopWord.{StopWord}
use Rattle.sci_net.specs.declared.Source.TheVariants.{Start}
use Rattle.sci_net.specs.Parts.{Parts}
use Rattle.sci_net.specs.Sources.{source_of}
use Rattle.sci_reaction.specs.Memory.{Columns}
use Rattle.sci_reaction.specs.Result.{Stopped, IsResult}
use Rattle.sci_pending.specs.Pending.{Event, next}
use Rattle.sci_run.specs.Observed.{stop_seen}
use Rattle.sci_run.specs.Activity.{halts}
use Rattle.sci_run.specs.Run.{State, first_state, taken, ReactionOutcome, Leads, StopsWith, IsOutcome, Decision, Over, Fires, in_time, comes_next, Reacts, Then, EndsOr, Observes, IsRunFrom, IsRest, IsRun, here, reacted, Reachable}
use Rattle.sci_run.specs.Finish.{Ending, ByEnd, ByStop, Finish, ended, stopped, stopped_at_start}
use Rattle.sci_run.proofs.Traces.{left_over, run_goes_on}

module _ (n : Parts) (i : Columns) (until limit : ℕ) where
  IsOver : List Obs → Type 0
  IsOver os = (st : State) × (how : Ending) × Finish n i until limit st how os

  -- ---- from the trace to the last state

  pub further : (st after : State) (e : Event) (seen more : List Obs) → Reachable n i until limit st seen → comes_next n until (limit - st.fired) st ≡ Fires e
      → Reacts n i e.date (source_of n e.source) (taken st e) after more → Reachable n i until limit after (seen ++ more)
  further st after e seen more stands fires h = record {
    first = stands.first;
    at_start = stands.at_start;
    later = stands.later ++ more;
    started = stands.started;
    reaches = reacted st after e stands.later more stands.reaches fires h;
    observed = ap (λ l. l ++ more) stands.observed ∙ append_assoc stands.at_start stands.later more;
  }

  over_at : (left : ℕ) (st : State) (seen os : List Obs) (x : Decision) (F : Event → Type 0) → limit - st.fired ≡ left → Reachable n i until limit st seen
      → comes_next n until left st ≡ x → ((e : Event) → x ≡ Fires e → F e → IsOver (seen ++ os)) → EndsOr x os F → IsOver (seen ++ os)
  unfolding IsOver
  over_at left st seen os (Over word) F l stands is fires h =
      subst (λ k. (last : State) × (how : Ending) × Finish n i until limit last how (seen ++ k)) (sym h)
      (st, ByEnd word, ended st word seen stands (subst (λ k. comes_next n until k st ≡ Over word) (sym l) is))
  over_at left st seen os (Fires e) F l stands is fires h = fires e refl h

  -- what is over from each state behind the reaction on
  Onward : ℕ → Type 0
  Onward left = (after : State) (seen os : List Obs) → limit - after.fired ≡ left → Reachable n i until limit after seen → IsRunFrom n i until left after os → IsOver (seen ++ os)

  behind_event : (left : ℕ) (st : State) (seen os : List Obs) → limit - st.fired ≡ suc left → Reachable n i until limit st seen → Onward left
      → (e : Event) → comes_next n until (limit - st.fired) st ≡ Fires e → (out : ReactionOutcome) → IsOutcome n i e.date (source_of n e.source) (taken st e) out
      → Then out (IsRunFrom n i until left) os → IsOver (seen ++ os)
  unfolding IsOver Onward
  behind_event left st seen os l stands onward e fires (Leads more after) h g =
      let fired : after.fired ≡ st.fired + 1 = ap (λ (a : State). a.fired) h.leads in
      let r = onward after (seen ++ more) g.0 (omega (arith, fired, l)) (further st after e seen more stands fires h) g.2 in
      subst (λ k. (last : State) × (how : Ending) × Finish n i until limit last how k) (append_assoc seen more g.0 ∙ ap (λ k. seen ++ k) (sym g.1)) r
  behind_event left st seen os l stands onward e fires (StopsWith more) h g =
      subst (λ k. (last : State) × (how : Ending) × Finish n i until limit last how (seen ++ k)) (sym (g ∙ h.observed))
      (st, ByStop h.block h.word, stopped st e h.block h.word seen stands fires h.result)

  over_from : (left : ℕ) (st : State) (seen os : List Obs) → limit - st.fired ≡ left → Reachable n i until limit st seen → IsRunFrom n i until left st os → IsOver (seen ++ os)
  unfolding IsRunFrom Onward
  over_from zero st seen os l stands h =
      over_at zero st seen os (comes_next n until 0 st) (λ e. ⊥) l stands refl (λ e is none. absurd none) h
  over_from (suc left) st seen os l stands h =
      over_at (suc left) st seen os (comes_next n until (suc left) st) (λ e. Observes n i e.date (source_of n e.source) (taken st e) (IsRunFrom n i until left) os) l stands refl
      (λ e is o. behind_event left st seen os l stands (λ after before more m s k. over_from left after before more m s k) e
      (subst (λ k. comes_next n until k st ≡ Fires e) (sym l) is) o.outcome o.is o.goes_on) h

  over_after : (os : List Obs) (out : ReactionOutcome) → IsOutcome n i 0 Start (first_state n) out → Then out (IsRest n i until limit) os → IsOver os
  unfolding IsOver
  over_after os (Leads seen after) h g =
      let stands : Reachable n i until limit after seen = record { first = after; at_start = seen; later = []; started = h; reaches = here; observed = sym (append-nil seen) } in
      subst (λ k. (last : State) × (how : Ending) × Finish n i until limit last how k) (sym g.1) (over_from (limit - after.fired) after seen g.0 refl stands g.2)
  over_after os (StopsWith seen) h g =
      subst (λ k. (last : State) × (how : Ending) × Finish n i until limit last how k) (sym (g ∙ h.observed))
      (first_state n, ByStop h.block h.word, stopped_at_start h.block h.word h.result)

  -- ---- and back

  ends_rest : (left : ℕ) (st : State) (word : EndWord) → comes_next n until left st ≡ Over word → IsRunFrom n i until left st (End word ∷ [])
  unfolding IsRunFrom
  ends_rest zero st word is = subst (λ x. EndsOr x (End word ∷ []) (λ e. ⊥)) (sym is) refl
  ends_rest (suc left) st word is =
      subst (λ x. EndsOr x (End word ∷ []) (λ e. Observes n i e.date (source_of n e.source) (taken st e) (IsRunFrom n i until left) (End word ∷ []))) (sym is) refl

  stops_rest : (left : ℕ) (st : State) (e : Event) (block : ℕ) (word : StopWord) → comes_next n until (suc left) st ≡ Fires e
      → IsResult n st.memory i (source_of n e.source) (Stopped block word) → IsRunFrom n i until (suc left) st (stop_seen e.date (source_of n e.source) block word)
  unfolding IsRunFrom
  stops_rest left st e block word is h =
      let seen : List Obs = stop_seen e.date (source_of n e.source) block word in
      subst (λ x. EndsOr x seen (λ f. Observes n i f.date (source_of n f.source) (taken st f) (IsRunFrom n i until left) seen)) (sym is)
      (record { outcome = StopsWith seen; is = record { block = block; word = word; result = h; observed = refl }; goes_on = refl })

  pub trace_of : {st : State} → {how : Ending} → {os : List Obs} → Finish n i until limit st how os → IsRun n i until limit os
  trace_of (ended st word seen stands is) =
      run_goes_on n i until limit st seen (End word ∷ []) stands (ends_rest (limit - st.fired) st word is)
  trace_of (stopped st e block word seen stands fires h) =
      let k = left_over n i until limit (limit - st.fired) (halts n st.active) (in_time until (next st.pending.events)) e fires in
      run_goes_on n i until limit st seen (stop_seen e.date (source_of n e.source) block word) stands
      (subst (λ m. IsRunFrom n i until m st (stop_seen e.date (source_of n e.source) block word)) (sym k.1)
      (stops_rest k.0 st e block word (subst (λ m. comes_next n until m st ≡ Fires e) k.1 fires) h))
  trace_of (stopped_at_start block word h) =
      record { outcome = StopsWith (stop_seen 0 Start block word); is = record { block = block; word = word; result = h; observed = refl }; goes_on = refl }

  pub run_is_over : (os : List Obs) → IsRun n i until limit os ↔ ((st : State) × (how : Ending) × Finish n i until limit st how os)
  unfolding IsOver
  run_is_over os = (λ h. over_after os h.outcome h.is h.goes_on, λ f. trace_of f.2)
