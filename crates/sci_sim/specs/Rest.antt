-- How the rest of a run ends, from a state behind a reaction.
use Rattle.std.specs.Prelude.{◌≡◌, ℕ, ◌-◌, List, [], ◌∷◌, ◌++◌, Result, IfOk}
use Rattle.sci_base.specs.declared.observation.Obs.{Obs}
use Rattle.sci_base.specs.declared.observation.Obs.TheVariants.{End}
use Rattle.sci_base.specs.declared.observation.EndWord.{EndWord}
use Rattle.sci_base.specs.declared.observation.StopWord.{StopWord}
use Rattle.sci_io.specs.declared.sink.Failed.{Failed}
use Rattle.sci_io.specs.Taken.{SinkState, Writes}
use Rattle.sci_trace.specs.Lines.{text}
use Rattle.sci_reaction.specs.Memory.{Columns}
use Rattle.sci_pending.specs.Pending.{Event}
use Rattle.sci_run.specs.Run.{State, taken, Over, Fires, comes_next, IsRest, ReachableFrom}
use Rattle.sci_bank.specs.Bank.{Meaning}
use Rattle.sci_sim.specs.declared.end.RunEnd.{RunEnd}
use Rattle.sci_sim.specs.declared.end.RunEnd.TheVariants.{End as Ended, Stop as Stopped}
use Rattle.sci_sim.specs.At.{Running, IsAt, AreTallied}
use Rattle.sci_sim.specs.Steps.{IsStoppedAt}

-- Behind an end the net stands at the last state, which is reachable from the one where the rest began; the banks have counted as its activations
-- say.
pub record EndsRest (i : Columns) (until limit : ℕ) (from : State) (r : Running) (banks : List Meaning) (os : List Obs) (word : EndWord) : Type 0 where
  pub last : State
  pub seen : List Obs
  pub reaches : ReachableFrom r.fixed.net i until limit from last seen
  pub ends : comes_next r.fixed.net until (limit - last.fired) last ≡ Over word
  pub observed : os ≡ seen ++ End word ∷ []
  pub at : IsAt r banks last

-- or the event that fires at the last state stops the run
pub record StopsRest (i : Columns) (until limit : ℕ) (from : State) (r : Running) (banks : List Meaning) (os : List Obs) (word : StopWord) : Type 0 where
  pub last : State
  pub before : List Obs
  pub reaches : ReachableFrom r.fixed.net i until limit from last before
  pub e : Event
  pub fires : comes_next r.fixed.net until (limit - last.fired) last ≡ Fires e
  pub seen : List Obs
  pub observed : os ≡ before ++ seen
  pub stopped : IsStoppedAt i e.date e.source (taken last e) r banks seen word

-- the rest of the run from a state is over in this way, and this was observed of it
abbrev pub IsRestFinished : Columns → (until limit : ℕ) → (from : State) → Running → List Meaning → List Obs → RunEnd → Type 0
IsRestFinished i until limit from r banks os (Ended word) = EndsRest i until limit from r banks os word
IsRestFinished i until limit from r banks os (Stopped word) = StopsRest i until limit from r banks os word

-- from whichever state of a run the net stands at, what is observed of its rest is written
abbrev pub WritesRest : Columns → (until limit : ℕ) → (old : Running) → List Meaning → (out written : SinkState) → Result RunEnd Failed → Type 0
WritesRest i until limit old banks out written result =
    (st : State) (os : List Obs) → IsAt old banks st → IsRest old.fixed.net i until limit st os → Writes out written (text os) result

-- and counted, and the rest is over so
abbrev pub FinishesRest : Columns → (until limit : ℕ) → (old new : Running) → (before banks : List Meaning) → Result RunEnd Failed → Type 0
FinishesRest i until limit old new before banks result =
    (st : State) → IsAt old before st
    → IfOk result (λ end.
    (os : List Obs) × IsRest old.fixed.net i until limit st os × IsRestFinished i until limit st new banks os end × AreTallied old.store new.store os)
