-- How a run is over.
use Rattle.std.specs.Prelude.{◌≡◌, ℕ, ◌-◌, List, [], ◌∷◌, ◌++◌}
use Rattle.sci_base.specs.declared.observation.Obs.{Obs}
use Rattle.sci_base.specs.declared.observation.Obs.TheVariants.{End}
use Rattle.sci_base.specs.declared.observation.EndWord.{EndWord}
use Rattle.sci_base.specs.declared.observation.StopWord.{StopWord}
use Rattle.sci_net.specs.declared.Source.TheVariants.{Start}
use Rattle.sci_net.specs.Parts.{Parts}
use Rattle.sci_net.specs.Sources.{source_of}
use Rattle.sci_reaction.specs.Memory.{Columns}
use Rattle.sci_reaction.specs.Result.{Stopped, IsResult}
use Rattle.sci_pending.specs.Pending.{Event}
use Rattle.sci_run.specs.Observed.{stop_seen}
use Rattle.sci_run.specs.Run.{State, first_state, Over, Fires, comes_next, Reachable}

-- behind a reaction it ends, or a block that has no value stops it
pub data Ending : Type 0 where
  ByEnd : EndWord → Ending
  ByStop : (block : ℕ) → StopWord → Ending

-- The run is over in this way, and this has been observed. The state is the one behind the last reaction with values, where the event of a reaction
-- that stops is pending still; where start stops, it is the one before the run.
pub data Finish (n : Parts) (i : Columns) (until limit : ℕ) : State → Ending → List Obs → Type 0 where
  ended : (st : State) (word : EndWord) (seen : List Obs) → Reachable n i until limit st seen → comes_next n until (limit - st.fired) st ≡ Over word
      → Finish n i until limit st (ByEnd word) (seen ++ End word ∷ [])
  stopped : (st : State) (e : Event) (block : ℕ) (word : StopWord) (seen : List Obs) → Reachable n i until limit st seen
      → comes_next n until (limit - st.fired) st ≡ Fires e → IsResult n st.memory i (source_of n e.source) (Stopped block word)
      → Finish n i until limit st (ByStop block word) (seen ++ stop_seen e.date (source_of n e.source) block word)
  stopped_at_start : (block : ℕ) (word : StopWord) → IsResult n (first_state n).memory i Start (Stopped block word)
      → Finish n i until limit (first_state n) (ByStop block word) (stop_seen 0 Start block word)

-- of the last state this holds
abbrev pub FinishesWith : Parts → Columns → (until limit : ℕ) → Ending → List Obs → (State → Type 0) → Type 0
FinishesWith n i until limit how os P = (st : State) × Finish n i until limit st how os × P st
