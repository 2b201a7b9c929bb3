-- When a step may be done.
use Rattle.std.proofs.Common.{◌≡◌, ℕ, ◌-◌, Bool, true, List, refl, sym, subst, None}
use Rattle.sci_reaction.specs.Memory.{Columns}
use Rattle.sci_pending.specs.Pending.{Event}
use Rattle.sci_run.specs.Run.{State, first_state, taken, ReactionOutcome, Leads, StopsWith, Decision, Over, Fires, comes_next}
use Rattle.sci_bank.specs.Bank.{Meaning}
use Rattle.sci_sim.specs.declared.end.Step.TheVariants.{More}
use Rattle.sci_sim.specs.At.{Running, IsAt, IsAtStart}
use Rattle.sci_sim.specs.Reacting.{FiresNext, start, event, MayStep}
use Rattle.sci_sim.specs.Steps.{end_due, step_of, IsStep}

module _ (until limit : ℕ) (r : Running) (banks : List Meaning) where
  -- before start
  pub may_begin : IsAtStart r.fixed.net r banks → MayStep until limit r banks
  may_begin h =
      let n = r.fixed.net in
      (first_state n, first_state n, 0, 0, h.at, subst (λ (b : Bool). FiresNext n until limit b (first_state n) 0 0 (first_state n)) (sym h.not_started) start)

  -- behind a reaction, where an event fires
  by_event : (st : State) → r.started ≡ true → IsAt r banks st → (e : Event) → comes_next r.fixed.net until (limit - st.fired) st ≡ Fires e → MayStep until limit r banks
  by_event st started at e fires =
      (st, taken st e, e.date, e.source, at, subst (λ (b : Bool). FiresNext r.fixed.net until limit b st e.date e.source (taken st e)) (sym started) (event st e fires))

  -- where no end is due
  pub may_go_on : (st : State) → r.started ≡ true → IsAt r banks st → None ≡ end_due (comes_next r.fixed.net until (limit - st.fired) st) → MayStep until limit r banks
  may_go_on st started at none = by_decision (comes_next r.fixed.net until (limit - st.fired) st) refl none
    where
      by_decision : (d : Decision) → comes_next r.fixed.net until (limit - st.fired) st ≡ d → None ≡ end_due d → MayStep until limit r banks
      by_decision (Over word) is h = absurd (cc h)
      by_decision (Fires e) is h = by_event st started at e is

  -- behind a step that wasn't the last
  pub may_follow : (i : Columns) (date source : ℕ) (from : State) (o : ReactionOutcome) → r.started ≡ true → IsStep i until limit date source from r banks o More → MayStep until limit r banks
  may_follow i date source from (StopsWith seen) started step = absurd step
  may_follow i date source from (Leads seen after) started step = by_decision (comes_next r.fixed.net until (limit - after.fired) after) refl step.2
    where
      by_decision : (d : Decision) → comes_next r.fixed.net until (limit - after.fired) after ≡ d → More ≡ step_of d → MayStep until limit r banks
      by_decision (Over word) is h = absurd (cc h)
      by_decision (Fires e) is h = by_event after started step.0 e is
