-- A step of the run, and how the run ends.
use Rattle.std.specs.Prelude.{◌≡◌, ℕ, ◌+◌, ◌-◌, ◌≤◌, min, List, [], ◌∷◌, ◌++◌, Option, Some, None, Result, IfOk}
use Rattle.sci_base.specs.declared.observation.Obs.{Obs}
use Rattle.sci_base.specs.declared.observation.Obs.TheVariants.{End}
use Rattle.sci_base.specs.declared.observation.EndWord.{EndWord}
use Rattle.sci_base.specs.declared.observation.StopWord.{StopWord}
use Rattle.sci_io.specs.declared.sink.Failed.{Failed}
use Rattle.sci_io.specs.Taken.{SinkState, Writes}
use Rattle.sci_trace.specs.Lines.{text}
use Rattle.sci_forms.specs.declared.Kind.{Kind}
use Rattle.sci_net.specs.declared.Source.{Source}
use Rattle.sci_net.specs.Parts.{Parts}
use Rattle.sci_net.specs.Sources.{source_of}
use Rattle.sci_reaction.specs.Memory.{Columns}
use Rattle.sci_reaction.specs.Result.{Stopped as NoValue, IsResult}
use Rattle.sci_pending.specs.Pending.{Event}
use Rattle.sci_run.specs.Activity.{Activity}
use Rattle.sci_run.specs.Observed.{stop_seen}
use Rattle.sci_run.specs.Counts.{activations_of_kind}
use Rattle.sci_run.specs.Run.{State, first_state, taken, ReactionOutcome, IsOutcome, IsRun, Leads, StopsWith, Decision, Over, Fires, comes_next, Reachable}
use Rattle.sci_run.specs.Finish.{ByEnd, ByStop, Finish}
use Rattle.sci_bank.specs.Bank.{Meaning}
use Rattle.sci_bank.specs.Library.{bank_of}
use Rattle.sci_sim.specs.declared.end.RunEnd.{RunEnd}
use Rattle.sci_sim.specs.declared.end.RunEnd.TheVariants.{End as Ended, Stop as Stopped}
use Rattle.sci_sim.specs.declared.end.Step.{Step}
use Rattle.sci_sim.specs.declared.end.Step.TheVariants.{More, Over as IsOver}
use Rattle.sci_store.specs.Store.{active_of, MayActivate}
use Rattle.sci_sim.specs.At.{Running, IsAt, AreTallied, IsTallied}
use Rattle.sci_sim.specs.Reacting.{FiresNext}

-- ---- behind a reaction with values

-- the end that is due
abbrev pub end_due : Decision → Option EndWord
end_due (Over word) = Some word
end_due (Fires e) = None

abbrev pub end_seen : Decision → List Obs
end_seen (Over word) = End word ∷ []
end_seen (Fires e) = []

abbrev pub step_of : Decision → Step
step_of (Over word) = IsOver (Ended word)
step_of (Fires e) = More

-- what a step observes: its reaction and, behind one with values, the end of the run where it is due
abbrev pub step_seen : Parts → (until limit : ℕ) → ReactionOutcome → List Obs
step_seen n until limit (Leads seen after) = seen ++ end_seen (comes_next n until (limit - after.fired) after)
step_seen n until limit (StopsWith seen) = seen

-- ---- a reaction that stops

-- Each bank has counted its active blocks in the reactions before, and of the one that stops at most a call for each block that the source may
-- activate.
pub record AreCountedToStop (n : Parts) (s : Source) (st : State) (banks : List Meaning) : Type 0 where
  pub least : (k : Kind) → min (activations_of_kind n st k) 18446744073709551615 ≤ (bank_of banks k).outs
  pub most : (possible : Activity) → MayActivate n s possible → (k : Kind)
      → (bank_of banks k).outs ≤ min (activations_of_kind n st k + active_of n possible k) 18446744073709551615

-- The reaction of a source at a date, from a state, stopped with this word, since a block has no value. What is observed of it; and date, source
-- and the events that have fired are those of the reaction.
pub record IsStoppedAt (i : Columns) (date source : ℕ) (from : State) (r : Running) (banks : List Meaning) (seen : List Obs) (word : StopWord) : Type 0 where
  pub block : ℕ
  pub stops : IsResult r.fixed.net from.memory i (source_of r.fixed.net source) (NoValue block word)
  pub observed : seen ≡ stop_seen date (source_of r.fixed.net source) block word
  pub now : r.now ≡ date
  pub fired : r.fired ≡ from.fired
  pub row : r.row ≡ source
  pub counts : AreCountedToStop r.fixed.net (source_of r.fixed.net source) from banks

-- ---- a step

-- The answer to a step whose reaction has this outcome. With values the net stands at the state that the reaction leads to, and the run goes on
-- where an event fires then; or it has stopped.
abbrev pub IsStep : Columns → (until limit : ℕ) → (date source : ℕ) → State → Running → List Meaning → ReactionOutcome → Step → Type 0
IsStep i until limit date source from r banks (Leads seen after) step =
    IsAt r banks after × (r.row ≡ source) × (step ≡ step_of (comes_next r.fixed.net until (limit - after.fired) after))
IsStep i until limit date source from r banks (StopsWith seen) More = ⊥
IsStep i until limit date source from r banks (StopsWith seen) (IsOver (Ended word)) = ⊥
IsStep i until limit date source from r banks (StopsWith seen) (IsOver (Stopped word)) = IsStoppedAt i date source from r banks seen word

-- the next source of a net reacts, at whichever state of a run it stands: what is observed is written, and counted where the step is answered
abbrev pub StepsTo : Columns → (until limit : ℕ) → (old new : Running) → (before banks : List Meaning) → (out written : SinkState) → Result Step Failed → Type 0
StepsTo i until limit old new before banks out written result =
    (st from : State) (date source : ℕ) → IsAt old before st → FiresNext old.fixed.net until limit old.started st date source from
    → (o : ReactionOutcome) × IsOutcome old.fixed.net i date (source_of old.fixed.net source) from o
    × Writes out written (text (step_seen old.fixed.net until limit o)) result
    × IfOk result (λ step. IsStep i until limit date source from new banks o step × AreTallied old.store new.store (step_seen old.fixed.net until limit o))

-- the end that is due at whichever state of a run the net stands
abbrev pub TellsEnd : (until limit : ℕ) → Running → Option EndWord → Type 0
TellsEnd until limit r end = (banks : List Meaning) (st : State) → IsAt r banks st → end ≡ end_due (comes_next r.fixed.net until (limit - st.fired) st)

-- ---- how a run ends

-- the source at this place fires at this date from this state, where this has been observed before: start before the run, or the event that
-- comes next, which is taken from the pending ones
pub data IsFiring (n : Parts) (i : Columns) (until limit : ℕ) : (seen : List Obs) → (date source : ℕ) → State → Type 0 where
  start : IsFiring n i until limit [] 0 0 (first_state n)
  event : (st : State) (e : Event) (seen : List Obs) → Reachable n i until limit st seen → comes_next n until (limit - st.fired) st ≡ Fires e
      → IsFiring n i until limit seen e.date e.source (taken st e)

-- the last reaction of the run, which stopped, and what was observed before it and of it
pub record StopsRun (i : Columns) (until limit : ℕ) (r : Running) (banks : List Meaning) (os : List Obs) (word : StopWord) : Type 0 where
  pub before : List Obs
  pub seen : List Obs
  pub observed : os ≡ before ++ seen
  pub date : ℕ
  pub source : ℕ
  pub from : State
  pub fires : IsFiring r.fixed.net i until limit before date source from
  pub stopped : IsStoppedAt i date source from r banks seen word

-- The run is over, and this was observed. Behind an end the net stands at the last state, whose counts are those of the banks; where it stops,
-- at the reaction that has no values.
abbrev pub IsFinished : Columns → (until limit : ℕ) → Running → List Meaning → List Obs → RunEnd → Type 0
IsFinished i until limit r banks os (Ended word) =
    (st : State) × Finish r.fixed.net i until limit st (ByEnd word) os × IsAt r banks st × IsTallied r.store os
IsFinished i until limit r banks os (Stopped word) =
    (st : State) × (block : ℕ) × Finish r.fixed.net i until limit st (ByStop block word) os × IsTallied r.store os × StopsRun i until limit r banks os word

-- the run of a net has ended so, and this was all of it
abbrev pub HasRun : Parts → Columns → (until limit : ℕ) → Running → List Meaning → RunEnd → Type 0
HasRun n i until limit r banks end = (os : List Obs) × IsRun n i until limit os × IsFinished i until limit r banks os end
