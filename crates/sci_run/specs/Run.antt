-- The run of a net: its reactions one after another.
use Rattle.std.specs.Prelude.{◌≡◌, ℕ, zero, suc, ◌+◌, ◌-◌, ◌==◌, nat_lt, false, List, [], ◌∷◌, ◌++◌, Option, Some, None, if◌then◌else◌}
use Rattle.sci_base.specs.declared.observation.Obs.{Obs}
use Rattle.sci_base.specs.declared.observation.Obs.TheVariants.{End}
use Rattle.sci_base.specs.declared.observation.EndWord.{EndWord}
use Rattle.sci_base.specs.declared.observation.EndWord.TheVariants.{Halt, Events, Empty, Until}
use Rattle.sci_base.specs.declared.observation.StopWord.{StopWord}
use Rattle.sci_net.specs.declared.Source.{Source}
use Rattle.sci_net.specs.declared.Source.TheVariants.{Start}
use Rattle.sci_net.specs.Parts.{Parts}
use Rattle.sci_net.specs.Sources.{source_of}
use Rattle.sci_reaction.specs.Memory.{Memory, Columns, first_memory}
use Rattle.sci_reaction.specs.Equations.{Signals}
use Rattle.sci_reaction.specs.Result.{Whole, Stopped, IsResult}
use Rattle.sci_reaction.specs.Next.{IsNextMemory}
use Rattle.sci_pending.specs.Pending.{Event, Pending, next, without}
use Rattle.sci_run.specs.Activity.{Activity, IsActivity, halts}
use Rattle.sci_run.specs.Programs.{first_pending, next_pending}
use Rattle.sci_run.specs.Observed.{values_seen, stop_seen}

-- Where a run stands: what the net remembers, the pending events, the date of the last reaction, how many events have fired, which blocks the
-- last reaction activated, and of each block how many reactions have activated it.
pub record State : Type 0 where
  pub memory : Memory
  pub pending : Pending
  pub now : ℕ
  pub fired : ℕ
  pub active : Activity
  pub activations : ℕ → ℕ

-- before start reacts
abbrev pub first_state : Parts → State
first_state n =
    record { memory = first_memory n; pending = first_pending n; now = 0; fired = 0; active = λ b. false; activations = λ b. 0 }

-- the event is taken from the pending ones
abbrev pub taken : State → Event → State
taken st e = record st { pending = record st.pending { events = without e.order st.pending.events }; fired = st.fired + 1 }

-- ---- one reaction

-- behind a reaction with these values
abbrev pub after_reaction : Parts → (date : ℕ) → State → Signals → Activity → Memory → State
after_reaction n date st y active memory = record {
  memory = memory;
  pending = next_pending n date y active st.pending;
  now = date;
  fired = st.fired;
  active = active;
  activations = λ b. if active b then st.activations b + 1 else st.activations b;
}

-- with values: the blocks that are active on them, and the next memory
pub record Reacts (n : Parts) (i : Columns) (date : ℕ) (s : Source) (st after : State) (seen : List Obs) : Type 0 where
  pub values : Signals
  pub active : Activity
  pub memory : Memory
  pub result : IsResult n st.memory i s (Whole values)
  pub active_are : IsActivity n s values active
  pub next : IsNextMemory n st.memory s values memory
  pub leads : after ≡ after_reaction n date st values active memory
  pub observed : seen ≡ values_seen n date s values active

-- with a stop
pub record Stops (n : Parts) (i : Columns) (date : ℕ) (s : Source) (st : State) (seen : List Obs) : Type 0 where
  pub block : ℕ
  pub word : StopWord
  pub result : IsResult n st.memory i s (Stopped block word)
  pub observed : seen ≡ stop_seen date s block word

-- what a reaction comes to: it leads to a state, or it stops the run
pub data ReactionOutcome : Type 0 where
  Leads : List Obs → State → ReactionOutcome
  StopsWith : List Obs → ReactionOutcome

abbrev pub IsOutcome : Parts → Columns → (date : ℕ) → Source → State → ReactionOutcome → Type 0
IsOutcome n i date s st (Leads seen after) = Reacts n i date s st after seen
IsOutcome n i date s st (StopsWith seen) = Stops n i date s st seen

-- ---- behind a reaction

-- the end of the run, or an event that fires
pub data Decision : Type 0 where
  Over : EndWord → Decision
  Fires : Event → Decision

abbrev pub in_time : (until : ℕ) → Option Event → Decision
in_time until None = Over Empty
in_time until (Some e) = if nat_lt until e.date then Over Until else Fires e

-- by the first that holds: a HALT_f was active; no event may fire any more; none is pending; the next is later than the bound on time
abbrev pub comes_next : Parts → (until left : ℕ) → State → Decision
comes_next n until left st =
    if halts n st.active then Over Halt else if left == 0 then Over Events else in_time until (next st.pending.events)

-- ---- the run

-- behind the reaction the rest of the run is observed; a stop ends the run
abbrev pub Then : ReactionOutcome → (State → List Obs → Type 0) → List Obs → Type 0
Then (Leads seen after) rest os = (more : List Obs) × (os ≡ seen ++ more) × rest after more
Then (StopsWith seen) rest os = os ≡ seen

-- the source reacts, and the rest follows
pub record Observes (n : Parts) (i : Columns) (date : ℕ) (s : Source) (st : State) (rest : State → List Obs → Type 0) (os : List Obs) : Type 0 where
  pub outcome : ReactionOutcome
  pub is : IsOutcome n i date s st outcome
  pub goes_on : Then outcome rest os

-- the end is observed, or what an event brings
abbrev pub EndsOr : Decision → List Obs → (Event → Type 0) → Type 0
EndsOr (Over word) os fires = os ≡ End word ∷ []
EndsOr (Fires e) os fires = fires e

-- what is observed from a state behind a reaction on, where so many events may still fire
unfoldable pub IsRunFrom : Parts → Columns → (until left : ℕ) → State → List Obs → Type 0
IsRunFrom n i until zero st os = EndsOr (comes_next n until 0 st) os (λ e. ⊥)
IsRunFrom n i until (suc left) st os =
    EndsOr (comes_next n until (suc left) st) os (λ e. Observes n i e.date (source_of n e.source) (taken st e) (IsRunFrom n i until left) os)

-- the same, where so many may fire in the whole run
abbrev pub IsRest : Parts → Columns → (until limit : ℕ) → State → List Obs → Type 0
IsRest n i until limit st os = IsRunFrom n i until (limit - st.fired) st os

-- the whole run: start reacts, whatever the bounds are
abbrev pub IsRun : Parts → Columns → (until limit : ℕ) → List Obs → Type 0
IsRun n i until limit os = Observes n i 0 Start (first_state n) (IsRest n i until limit) os

-- ---- in the midst of a run

-- the other states that are reachable from one behind a reaction, and what is observed on the way
pub data ReachableFrom (n : Parts) (i : Columns) (until limit : ℕ) (from : State) : State → List Obs → Type 0 where
  here : ReachableFrom n i until limit from from []
  reacted : (st after : State) (e : Event) (seen more : List Obs) → ReachableFrom n i until limit from st seen
      → comes_next n until (limit - st.fired) st ≡ Fires e → Reacts n i e.date (source_of n e.source) (taken st e) after more
      → ReachableFrom n i until limit from after (seen ++ more)

-- the states that are reachable in the whole run, each behind a reaction, and what has been observed there
pub record Reachable (n : Parts) (i : Columns) (until limit : ℕ) (st : State) (seen : List Obs) : Type 0 where
  pub first : State
  pub at_start : List Obs
  pub later : List Obs
  pub started : Reacts n i 0 Start (first_state n) first at_start
  pub reaches : ReachableFrom n i until limit first st later
  pub observed : seen ≡ at_start ++ later
