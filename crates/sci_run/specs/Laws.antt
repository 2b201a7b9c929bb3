-- The laws of the run, for every net, all inputs and all bounds.
use Rattle.std.specs.Prelude.{◌≡◌, ℕ, ◌+◌, ◌*◌, ◌<◌, ◌≤◌, ◌↔◌, List, ◌++◌, length}
use Rattle.sci_base.specs.declared.observation.Obs.{Obs}
use Rattle.sci_base.specs.declared.observation.StopWord.TheVariants.{Conflict}
use Rattle.sci_net.specs.Parts.{Parts}
use Rattle.sci_net.specs.Net.{IsNet}
use Rattle.sci_net.specs.Sources.{sources_of, source_of}
use Rattle.sci_reaction.specs.Depends.{IsLoopFree}
use Rattle.sci_reaction.specs.Memory.{Columns, IsMemory, AreColumns}
use Rattle.sci_pending.specs.Pending.{Event}
use Rattle.sci_run.specs.Programs.{first_pending}
use Rattle.sci_run.specs.Observed.{reactions}
use Rattle.sci_run.specs.Run.{State, Fires, comes_next, ReachableFrom, Reachable, IsRest, IsRun}
use Rattle.sci_run.specs.Alike.{AreAlike, GoOnAlike}
use Rattle.sci_run.specs.Finish.{Ending, ByStop, Finish}
use Rattle.sci_run.specs.Order.{IsAhead, PendingInOrder}

-- no source of the net has a loop
abbrev pub AreLoopFree : Parts → Type 0
AreLoopFree n = (k : ℕ) → k < length (sources_of n) → IsLoopFree n (source_of n k)

-- ---- the trace

-- where no source has a loop there is a trace
abbrev pub SomeTrace : Type 0
SomeTrace = (n : Parts) (i : Columns) (until limit : ℕ) → IsNet n → AreLoopFree n → (os : List Obs) × IsRun n i until limit os

-- and a rest from every state
abbrev pub SomeRest : Type 0
SomeRest = (n : Parts) (i : Columns) (until limit : ℕ) (st : State) → IsNet n → AreLoopFree n → (os : List Obs) × IsRest n i until limit st os

-- and no other
abbrev pub OneTrace : Type 0
OneTrace =
    (n : Parts) (i : Columns) (until limit : ℕ) (os ps : List Obs) → IsNet n → AreLoopFree n → IsRun n i until limit os → IsRun n i until limit ps → os ≡ ps

abbrev pub OneRest : Type 0
OneRest =
    (n : Parts) (i : Columns) (until limit : ℕ) (st : State) (os ps : List Obs) → IsNet n → AreLoopFree n →
    IsRest n i until limit st os → IsRest n i until limit st ps → os ≡ ps

-- ---- states that are alike

-- where as many events have fired, one state alone is reachable, but for what isn't a block, and one list has been observed
abbrev pub OneState : Type 0
OneState =
    (n : Parts) (i : Columns) (until limit : ℕ) (st other : State) (seen others : List Obs) → IsNet n → AreLoopFree n → Reachable n i until limit st seen →
    Reachable n i until limit other others → st.fired ≡ other.fired → (seen ≡ others) × AreAlike n st other

-- and so the run is over in one way, behind one last state
abbrev pub OneFinish : Type 0
OneFinish =
    (n : Parts) (i : Columns) (until limit : ℕ) (st other : State) (how way : Ending) (os others : List Obs) → IsNet n → AreLoopFree n →
    Finish n i until limit st how os → Finish n i until limit other way others → (os ≡ others) × (how ≡ way) × AreAlike n st other

-- from states that are the same at the blocks the same is observed
abbrev pub AlikeRest : Type 0
AlikeRest =
    (n : Parts) (i : Columns) (until limit : ℕ) (st other : State) (os : List Obs) → AreAlike n st other → IsRest n i until limit st os →
    IsRest n i until limit other os

-- and so where the orders of what is pending differ, but not the order in which it fires
abbrev pub SameRest : Type 0
SameRest =
    (n : Parts) (i : Columns) (until limit : ℕ) (st other : State) (os : List Obs) → GoOnAlike n st other → IsRest n i until limit st os →
    IsRest n i until limit other os

-- ---- in the midst of a run

-- what is observed on the way to a state, and then from there on, is the rest of the run
abbrev pub RestGoesOn : Type 0
RestGoesOn =
    (n : Parts) (i : Columns) (until limit : ℕ) (from st : State) (seen os : List Obs) → ReachableFrom n i until limit from st seen →
    IsRest n i until limit st os → IsRest n i until limit from (seen ++ os)

-- and of a reachable state, the whole run
abbrev pub RunGoesOn : Type 0
RunGoesOn =
    (n : Parts) (i : Columns) (until limit : ℕ) (st : State) (seen os : List Obs) → Reachable n i until limit st seen → IsRest n i until limit st os →
    IsRun n i until limit (seen ++ os)

-- each run is over in some way behind some last state, and what has been observed there is its trace
abbrev pub RunIsOver : Type 0
RunIsOver =
    (n : Parts) (i : Columns) (until limit : ℕ) (os : List Obs) →
    IsRun n i until limit os ↔ ((st : State) × (how : Ending) × Finish n i until limit st how os)

-- and it is no conflict that stops it
abbrev pub NeverConflicts : Type 0
NeverConflicts =
    (n : Parts) (i : Columns) (until limit : ℕ) (st : State) (block : ℕ) (os : List Obs) → Finish n i until limit st (ByStop block Conflict) os → ⊥

-- ---- ranges

-- with the input file in range, a reaction from a memory in range leaves one in range, and so does a run on its way
abbrev pub InRangeFrom : Type 0
InRangeFrom =
    (n : Parts) (i : Columns) (until limit : ℕ) (from st : State) (seen : List Obs) → IsNet n → AreLoopFree n → AreColumns n i → IsMemory n from.memory →
    ReachableFrom n i until limit from st seen → IsMemory n st.memory

-- and in every reachable state the memory is in range
abbrev pub ReachableInRange : Type 0
ReachableInRange =
    (n : Parts) (i : Columns) (until limit : ℕ) (st : State) (seen : List Obs) → IsNet n → AreLoopFree n → AreColumns n i → Reachable n i until limit st seen →
    IsMemory n st.memory

-- no more events have fired than may
abbrev pub FiredWithinLimit : Type 0
FiredWithinLimit = (n : Parts) (i : Columns) (until limit : ℕ) (st : State) (seen : List Obs) → Reachable n i until limit st seen → st.fired ≤ limit

-- no event fires past the bound on time
abbrev pub NowWithinUntil : Type 0
NowWithinUntil = (n : Parts) (i : Columns) (until limit : ℕ) (st : State) (seen : List Obs) → Reachable n i until limit st seen → st.now ≤ until

-- start has reacted, and each event that fired
abbrev pub ReactionsAreCounted : Type 0
ReactionsAreCounted =
    (n : Parts) (i : Columns) (until limit : ℕ) (st : State) (seen : List Obs) → Reachable n i until limit st seen → reactions seen ≡ st.fired + 1

-- in the reactions, and before the run, no source is programmed twice
abbrev pub OrdersWithinReactions : Type 0
OrdersWithinReactions =
    (n : Parts) (i : Columns) (until limit : ℕ) (st : State) (seen : List Obs) → Reachable n i until limit st seen →
    st.pending.programmed ≤ (st.fired + 2) * length (sources_of n)

-- a block is active at most once in each reaction
abbrev pub ActivationsWithinReactions : Type 0
ActivationsWithinReactions =
    (n : Parts) (i : Columns) (until limit : ℕ) (st : State) (seen : List Obs) (b : ℕ) → Reachable n i until limit st seen → st.activations b ≤ st.fired + 1

-- ---- what is pending

-- before the run
abbrev pub FirstPending : Type 0
FirstPending = (n : Parts) → IsNet n → PendingInOrder n 0 (first_pending n)

-- and on its way
abbrev pub PendingFrom : Type 0
PendingFrom =
    (n : Parts) (i : Columns) (until limit : ℕ) (from st : State) (seen : List Obs) → IsNet n → PendingInOrder n from.now from.pending →
    ReachableFrom n i until limit from st seen → PendingInOrder n st.now st.pending

-- in every reachable state
abbrev pub ReachablePending : Type 0
ReachablePending = (n : Parts) (i : Columns) (until limit : ℕ) (st : State) (seen : List Obs) → IsNet n → Reachable n i until limit st seen → PendingInOrder n st.now st.pending

-- the event that fires was pending, and so its date isn't past
abbrev pub FiresAhead : Type 0
FiresAhead =
    (n : Parts) (until left : ℕ) (st : State) (e : Event) → PendingInOrder n st.now st.pending → comes_next n until left st ≡ Fires e → IsAhead n st.now e

-- dates never fall
abbrev pub NowNeverFalls : Type 0
NowNeverFalls =
    (n : Parts) (i : Columns) (until limit : ℕ) (from st : State) (seen : List Obs) → IsNet n → PendingInOrder n from.now from.pending →
    ReachableFrom n i until limit from st seen → from.now ≤ st.now
