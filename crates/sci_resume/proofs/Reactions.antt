-- How many reactions were observed of a run, step after step.
use Rattle.std.proofs.Common.{◌≡◌, ℕ, ◌+◌, ◌-◌, ◌<◌, ◌≤◌, ◌^◌, Bool, true, false, List, [], ◌∷◌, ◌++◌, inl, inr, refl, sym, ap, subst, ◌∙◌, arith}
use Rattle.std.specs.Prelude.{if◌then◌else◌}
use Rattle.sci_base.specs.declared.observation.Obs.{Obs}
use Rattle.sci_base.specs.declared.observation.Obs.TheVariants.{End}
use Rattle.sci_io.specs.Taken.{SinkState}
use Rattle.sci_net.specs.Parts.{Parts}
use Rattle.sci_net.specs.Net.{IsNet}
use Rattle.sci_net.specs.Sources.{source_of}
use Rattle.sci_reaction.specs.Memory.{Columns, AreColumns}
use Rattle.sci_bank.specs.Bank.{Meaning}
use Rattle.sci_run.specs.Laws.{AreLoopFree}
use Rattle.sci_run.specs.Observed.{reactions}
use Rattle.sci_run.specs.Run.{State, IsRun}
use Rattle.sci_run.specs.Finish.{Ending, ByEnd, ByStop, Finish, ended, stopped, stopped_at_start}
use Rattle.sci_run.proofs.Traces.{some_rest, run_goes_on}
use Rattle.sci_save.specs.Saved.{Saved}
use Rattle.sci_save.specs.Resumed.{IsSavedOf}
use Rattle.sci_save.proofs.Reached.{reached_is_saved}
use Rattle.sci_run.proofs.Reactions.{reactions_joined, counted, stop_counted}
use Rattle.sci_sim.specs.declared.end.RunEnd.{RunEnd}
use Rattle.sci_sim.specs.declared.end.RunEnd.TheVariants.{End as Ended, Stop as Stopped}
use Rattle.sci_store.specs.Frame.{Fixed}
use Rattle.sci_sim.specs.At.{Running}
use Rattle.sci_sim.specs.Steps.{IsFiring, start, event, IsFinished}
use Rattle.sci_sim.proofs.Runs.{IsBeforeStep, IsOnWay}
use Rattle.sci_resume.specs.Behind.{IsSavedBehind, HasEnded}
use Rattle.sci_resume.proofs.Behind.{fires_headed, headed_counts}
use Rattle.sci_resume.specs.Stands.{StandsBehind}

begun : (started : Bool) (fired k : ℕ) → started ≡ true → (if started then fired + 1 else 0) ≡ k → fired + 1 ≡ k
begun true fired k is h = h
begun false fired k is h = absurd (cc is)

not_begun : (started : Bool) (fired k : ℕ) → started ≡ false → (if started then fired + 1 else 0) ≡ k → k ≡ 0
not_begun false fired k is h = sym h
not_begun true fired k is h = absurd (cc is)

-- as many reactions were observed as steps were done
pub counted_on_way : (i : Columns) (until limit : ℕ) (from r : Running) (banks : List Meaning) (old mid : SinkState) (k : ℕ) → (w : IsOnWay i until limit from r banks old mid k) → reactions w.seen ≡ k
counted_on_way i until limit from r banks old mid k w = by_cases w.before
  where
    by_cases : IsBeforeStep i until limit r banks w.seen → reactions w.seen ≡ k
    by_cases (inl s) = let none = not_begun r.started r.fired k s.0.not_started w.steps in ap reactions s.1 ∙ sym none
    by_cases (inr u) =
        let steps = begun r.started r.fired k u.started w.steps in
        let fired = u.at.fired in
        let all = counted r.fixed.net i until limit u.st w.seen u.reachable in
        omega (arith, steps, fired, all)

-- behind some steps an event fires
pub stands_behind : (i : Columns) (until limit : ℕ) (from r : Running) (banks : List Meaning) (old mid : SinkState) (k count : ℕ) → k ≡ count → 1 ≤ count → IsOnWay i until limit from r banks old mid k
    → StandsBehind i until limit count r banks
stands_behind i until limit from r banks old mid k count all some w = by_cases w.before
  where
    by_cases : IsBeforeStep i until limit r banks w.seen → StandsBehind i until limit count r banks
    by_cases (inl s) = let none = not_begun r.started r.fired k s.0.not_started w.steps in absurd (omega (arith, none, some, all))
    by_cases (inr u) = record {
      state = u.st;
      seen = w.seen;
      event = u.e;
      at = u.at;
      reachable = u.reachable;
      counted = counted_on_way i until limit from r banks old mid k w ∙ all;
      fires = u.fires;
    }

-- ---- behind the last step

fired_by : (started : Bool) (was now k : ℕ) → now ≡ (if started then was + 1 else was) → (if started then was + 1 else 0) ≡ k → (started ≡ false → was ≡ 0) → now ≡ k
fired_by true was now k is steps idle = is ∙ steps
fired_by false was now k is steps idle = is ∙ (idle refl ∙ steps)

-- so many events have fired as steps were done before
pub fired_on_way : (i : Columns) (until limit : ℕ) (from r : Running) (banks : List Meaning) (old mid : SinkState) (k now : ℕ) → IsOnWay i until limit from r banks old mid k
    → now ≡ (if r.started then r.fired + 1 else r.fired) → now ≡ k
fired_on_way i until limit from r banks old mid k now w is = fired_by r.started r.fired now k is w.steps (idle w.before)
  where
    idle : IsBeforeStep i until limit r banks w.seen → r.started ≡ false → r.fired ≡ 0
    idle (inl s) h = s.0.at.fired
    idle (inr u) h = let both : true ≡ false = sym u.started ∙ h in absurd (cc both)

firing_counted : (n : Parts) (i : Columns) (until limit : ℕ) {before : List Obs} {date source : ℕ} {st : State} → IsFiring n i until limit before date source st → reactions before ≡ st.fired
firing_counted n i until limit start = refl
firing_counted n i until limit (event st e seen reachable fires) = counted n i until limit st seen reachable

abbrev CountsReactions : Ending → State → List Obs → Type 0
CountsReactions (ByEnd word) st os = reactions os ≡ st.fired + 1
CountsReactions (ByStop block word) st os = Unit {0}

end_counted : (n : Parts) (i : Columns) (until limit : ℕ) {st : State} {how : Ending} {os : List Obs} → Finish n i until limit st how os → CountsReactions how st os
end_counted n i until limit (ended st word seen reachable next) =
    let all = counted n i until limit st seen reachable in
    let joined = reactions_joined seen (End word ∷ []) in
    omega (arith, all, joined)
end_counted n i until limit (stopped st e block word seen reachable next result) = tt
end_counted n i until limit (stopped_at_start block word result) = tt

-- start and each event that fired is a reaction of a run that is over
finished_counted : (i : Columns) (until limit : ℕ) (r : Running) (banks : List Meaning) (os : List Obs) (end : RunEnd) → IsFinished i until limit r banks os end → reactions os ≡ r.fired + 1
finished_counted i until limit r banks os (Ended word) h =
    let all : reactions os ≡ h.0.fired + 1 = end_counted r.fixed.net i until limit h.1 in
    let fired = h.2.fired in
    omega (arith, all, fired)
finished_counted i until limit r banks os (Stopped word) h =
    let s = h.4 in
    let before = firing_counted r.fixed.net i until limit s.fires in
    let last = ap reactions s.stopped.observed ∙ stop_counted s.date (source_of r.fixed.net s.source) s.stopped.block word in
    let joined = ap reactions s.observed ∙ reactions_joined s.before s.seen in
    let fired = s.stopped.fired in
    omega (arith, before, last, joined, fired)

-- the run is over by its (k + 1)-th reaction
pub over_by : (n : Parts) (i : Columns) (until limit count k told : ℕ) (r : Running) (banks : List Meaning) (os : List Obs) (end : RunEnd) → IsFinished i until limit r banks os end → IsRun n i until limit os → r.fired ≡ k → k < count
    → told ≡ k + 1 → HasEnded n i until limit count told
over_by n i until limit count k told r banks os end h run fired within is =
    let all = finished_counted i until limit r banks os end h in
    record { observed = os; run = run; few = omega (arith, all, fired, within); counted = omega (arith, all, fired, is) }

-- ---- what is saved behind a reaction

module _ (i : Columns) (until limit k : ℕ) (from r : Running) (banks : List Meaning) (h : StandsBehind i until limit k r banks) (same : r.fixed ≡ from.fixed) (net : IsNet from.fixed.net) (free : AreLoopFree from.fixed.net) where
  its_net : IsNet r.fixed.net
  its_net = subst (λ (f : Fixed). IsNet f.net) (sym same) net

  its_free : AreLoopFree r.fixed.net
  its_free = subst (λ (f : Fixed). AreLoopFree f.net) (sym same) free

  pub saved_there : AreColumns from.fixed.net i → until ≤ 2 ^ 62 → limit ≤ 1000000 → (m : Saved) × IsSavedOf r.fixed.net h.state m
  saved_there columns late most =
      let reached = reached_is_saved r.fixed.net i until limit h.state h.seen its_net its_free (subst (λ (f : Fixed). AreColumns f.net i) (sym same) columns) late most h.reachable in
      (reached.0, reached.1)

  pub saved_behind : (m o : Saved) → IsSavedOf r.fixed.net h.state m → o ≡ m → IsSavedBehind from.fixed.net i until limit k o
  saved_behind m o is told =
      let n = r.fixed.net in
      let rest = some_rest n i its_net its_free until limit h.state in
      let some = headed_counts rest.0 (fires_headed n i until (limit - h.state.fired) h.state rest.0 h.event rest.1 h.fires) in
      let joined = reactions_joined h.seen rest.0 in
      subst (λ (f : Fixed). IsSavedBehind f.net i until limit k o) same
      (record {
        observed = h.seen ++ rest.0;
        run = run_goes_on n i until limit h.state h.seen rest.0 h.reachable rest.1;
        more = omega (arith, some, joined, h.counted);
        state = h.state;
        seen = h.seen;
        reachable = h.reachable;
        counted = h.counted;
        saved = subst (λ (x : Saved). IsSavedOf n h.state x) (sym told) is;
      })
