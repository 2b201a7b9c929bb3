-- The run that goes on from what was saved.
use Rattle.std.specs.Prelude.{◌≡◌, ℕ, ◌-◌, ◌++◌, ◌≤◌, false, List}
use Rattle.sci_base.specs.declared.limits.TheConstants.{TICKS, EVENTS}
use Rattle.sci_base.specs.declared.observation.Obs.{Obs}
use Rattle.sci_net.specs.Parts.{Parts}
use Rattle.sci_net.specs.Net.{IsNet}
use Rattle.sci_reaction.specs.Memory.{Columns, AreColumns}
use Rattle.sci_pending.specs.Order.{in_order}
use Rattle.sci_pending.specs.Pending.{Event}
use Rattle.sci_run.specs.Anew.{numbered_anew}
use Rattle.sci_run.specs.Alike.{SameMemory}
use Rattle.sci_run.specs.Laws.{AreLoopFree}
use Rattle.sci_run.specs.Run.{State, Fires, comes_next, ReachableFrom, Reachable, IsRest, IsRun}
use Rattle.sci_save.specs.Saved.{Saved, memory_of}
use Rattle.sci_save.specs.Valid.{IsShaped, IsValid}

-- The state of a run that it stands for: what is pending is numbered anew, and no block counts as active. So the run goes on by the bound on events
-- first, then by what is pending, then by the bound on time.
abbrev pub state_of : Saved → State
state_of m =
    record { memory = memory_of m; pending = numbered_anew m.pending; now = m.now; fired = m.fired; active = λ b. false; activations = λ b. 0 }

-- the state of a run was saved
pub record IsSavedOf (n : Parts) (st : State) (m : Saved) : Type 0 where
  pub shaped : IsShaped n m
  pub fired : m.fired ≡ st.fired
  pub now : m.now ≡ st.now
  pub memory : SameMemory n (memory_of m) st.memory
  pub pending : m.pending ≡ in_order st.pending.events

-- Of each state that a run reaches something is saved, and it is valid, where the input file is in range and the bounds are those of words.
abbrev pub ReachedIsSaved : Type 0
ReachedIsSaved =
    (n : Parts) (i : Columns) (until limit : ℕ) (st : State) (seen : List Obs) → IsNet n → AreLoopFree n → AreColumns n i → until ≤ TICKS → limit ≤ EVENTS
    → Reachable n i until limit st seen → (m : Saved) × IsSavedOf n st m × IsValid n i m

-- And so of each state that the run reaches which goes on from what was saved, by whatever bounds; valid where that was.
abbrev pub RestIsSaved : Type 0
RestIsSaved =
    (n : Parts) (i : Columns) (until limit : ℕ) (m : Saved) (st : State) (seen : List Obs) → IsNet n → AreLoopFree n → AreColumns n i → until ≤ TICKS → limit ≤ EVENTS
    → IsShaped n m → ReachableFrom n i until limit (state_of m) st seen → (o : Saved) × IsSavedOf n st o × (IsValid n i m → IsValid n i o)

-- Where a run goes on behind a reaction, what was observed up to there, and then from what was saved there on, is the whole run.
abbrev pub ResumedGoesOn : Type 0
ResumedGoesOn =
    (n : Parts) (i : Columns) (until limit : ℕ) (st : State) (e : Event) (seen os : List Obs) (m : Saved) → IsNet n → Reachable n i until limit st seen
    → comes_next n until (limit - st.fired) st ≡ Fires e → IsSavedOf n st m → IsRest n i until limit (state_of m) os → IsRun n i until limit (seen ++ os)
