-- The states of a run, each behind a reaction with values, in the order of the reactions.
use Rattle.std.specs.Prelude.{◌≡◌, ℕ, ◌-◌, List, [], ◌∷◌, ◌++◌, nat_le, if◌then◌else◌}
use Rattle.sci_base.specs.declared.observation.Obs.{Obs}
use Rattle.sci_base.specs.declared.observation.EndWord.{EndWord}
use Rattle.sci_base.specs.declared.observation.StopWord.{StopWord}
use Rattle.sci_net.specs.declared.Source.TheVariants.{Start}
use Rattle.sci_net.specs.Parts.{Parts}
use Rattle.sci_net.specs.Sources.{source_of}
use Rattle.sci_reaction.specs.Memory.{Memory, Columns}
use Rattle.sci_reaction.specs.Result.{Stopped, IsResult}
use Rattle.sci_pending.specs.Pending.{Event}
use Rattle.sci_run.specs.Run.{State, first_state, taken, Over, Fires, comes_next, Reacts}

-- the states up to this one
pub data IsHistory (n : Parts) (i : Columns) (until limit : ℕ) : List State → State → Type 0 where
  start : (st : State) (seen : List Obs) → Reacts n i 0 Start (first_state n) st seen → IsHistory n i until limit (st ∷ []) st
  event : (states : List State) (st after : State) (e : Event) (seen : List Obs) → IsHistory n i until limit states st
      → comes_next n until (limit - st.fired) st ≡ Fires e → Reacts n i e.date (source_of n e.source) (taken st e) after seen
      → IsHistory n i until limit (states ++ after ∷ []) after

-- all states of a run, until it ends or stops; where start stops, there is none
pub data IsWholeHistory (n : Parts) (i : Columns) (until limit : ℕ) : List State → Type 0 where
  ended : (states : List State) (st : State) (word : EndWord) → IsHistory n i until limit states st
      → comes_next n until (limit - st.fired) st ≡ Over word → IsWholeHistory n i until limit states
  stopped : (states : List State) (st : State) (e : Event) (block : ℕ) (word : StopWord) → IsHistory n i until limit states st
      → comes_next n until (limit - st.fired) st ≡ Fires e → IsResult n st.memory i (source_of n e.source) (Stopped block word)
      → IsWholeHistory n i until limit states
  stopped_at_start : (block : ℕ) (word : StopWord) → IsResult n (first_state n).memory i Start (Stopped block word) → IsWholeHistory n i until limit []

-- what is remembered behind the last of these reactions whose date is up to t; before all of them, this
abbrev pub memory_at : Memory → List State → (t : ℕ) → Memory
memory_at m [] t = m
memory_at m (st ∷ states) t = memory_at (if nat_le st.now t then st.memory else m) states t
