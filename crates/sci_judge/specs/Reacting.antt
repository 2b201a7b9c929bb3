-- A reaction of the run, and what comes behind it.
use Rattle.std.specs.Prelude.{◌≡◌, ℕ, ◌≤◌, Bool, true, false, List, [], ◌∷◌, ◌++◌, map, length, slice_index_or, Contains, Option, Some, None, Result, IfOk}
use Rattle.sci_base.specs.declared.observation.Obs.{Obs}
use Rattle.sci_base.specs.declared.observation.Obs.TheVariants.{End}
use Rattle.sci_io.specs.declared.sink.Failed.{Failed}
use Rattle.sci_io.specs.Taken.{SinkState, Writes}
use Rattle.sci_trace.specs.Lines.{text}
use Rattle.sci_forms.specs.declared.Kind.{Kind}
use Rattle.sci_net.specs.declared.Source.{Source}
use Rattle.sci_net.specs.Parts.{Parts, IsBlock}
use Rattle.sci_net.specs.Sources.{sources_of, source_of}
use Rattle.sci_reaction.specs.Memory.{Columns, IsMemory}
use Rattle.sci_reaction.specs.Equations.{Signals}
use Rattle.sci_pending.specs.Pending.{Pending}
use Rattle.sci_run.specs.Run.{State, first_state, taken, ReactionOutcome, IsOutcome, IsRun, Leads, StopsWith, Decision, Over, Fires, comes_next}
use Rattle.sci_bank.specs.Bank.{Meaning}
use Rattle.sci_bank.specs.Library.{bank_of}
use Rattle.sci_events.specs.declared.events.Event.{Event as Kept}
use Rattle.sci_events.specs.Events.{event_of}
use Rattle.sci_store.specs.Frame.{Fixed, AreSeated}
use Rattle.sci_store.specs.Marks.{mark_at, idle}
use Rattle.sci_store.specs.Store.{Standing, AreIdle, ShowsMemory, ShowsValues}
use Rattle.sci_store.specs.Written.{AreAmong}
use Rattle.sci_judge.specs.declared.rows.SourcePlan.{SourcePlan}
use Rattle.sci_judge.specs.declared.judging.Judging.{Judging}
use Rattle.sci_judge.specs.declared.judging.Firing.{Firing}
use Rattle.sci_judge.specs.Rows.{ArePlans}
use Rattle.sci_judge.specs.declared.judging.Due.{Due}
use Rattle.sci_judge.specs.declared.judging.Due.TheVariants.{Over as IsOver, Fires as DoesFire}

-- what is kept stands for this state of a run
pub record Shows (f : Fixed) (s : Standing) (banks : List Meaning) (pending : Pending) (st : State) : Type 0 where
  pub seated : AreSeated f banks
  pub memory : ShowsMemory f s banks st.memory
  pub in_range : IsMemory f.net st.memory
  pub pending_is : pending ≡ st.pending
  pub counts : (k : Kind) → (bank_of banks k).outs ≤ 18446744073709551615

-- the blocks that a source may activate, by its place
abbrev pub blocks_at : List SourcePlan → ℕ → List ℕ
blocks_at plans k = slice_index_or (map (λ (p : SourcePlan). p.row.blocks) plans) k []

-- a net that is run to be judged: what is kept of it fits the net
pub record IsSound (j : Judging) : Type 0 where
  pub plans_are : ArePlans j.kept.fixed j.plans.items
  pub sources_are : j.events.sources ≡ length (sources_of j.kept.fixed.net)

-- it stands for this state
abbrev pub IsAt : Judging → List Meaning → State → Type 0
IsAt j banks st = Shows j.kept.fixed j.kept.store banks j.events.pending st

-- before its run
abbrev pub IsAtStart : Judging → List Meaning → Type 0
IsAtStart j banks = AreIdle j.kept.fixed j.kept.store × IsAt j banks (first_state j.kept.fixed.net)

-- ---- what a reaction comes to

abbrev pub seen_in : ReactionOutcome → List Obs
seen_in (Leads seen after) = seen
seen_in (StopsWith seen) = seen

-- the marks are those of the reaction that led to this state, and of these blocks alone
pub record AreMarksOf (f : Fixed) (source : Source) (blocks : List ℕ) (s : Standing) (after : State) : Type 0 where
  pub y : Signals
  pub shown : ShowsValues f source s y after.active
  pub among : AreAmong f.net after.active blocks

-- behind a reaction: it led to a state, which is shown now, or it stopped
abbrev pub IsReacted : Fixed → Source → (blocks : List ℕ) → Standing → List Meaning → Pending → ReactionOutcome → (stopped : Bool) → Type 0
IsReacted f source blocks s banks pending (Leads seen after) stopped = (stopped ≡ false) × Shows f s banks pending after × AreMarksOf f source blocks s after
IsReacted f source blocks s banks pending (StopsWith seen) stopped = stopped ≡ true

-- no block but these is marked
abbrev pub MarksOnly : Fixed → (blocks : List ℕ) → Standing → Type 0
MarksOnly f blocks s = (b : ℕ) → IsBlock f.net b → (Contains blocks b → ⊥) → mark_at s.marks b ≡ idle

-- a source reacts at its date, from whichever state the net stands for: what is observed is written, and the reaction led to a state or stopped
abbrev pub ReactsTo : Columns → Firing → (old new : Judging) → (before banks : List Meaning) → (out written : SinkState) → Result Bool Failed → Type 0
ReactsTo i firing old new before banks out written result =
    let f = old.kept.fixed in
    (st : State) → IsAt old before st
    → (o : ReactionOutcome) × IsOutcome f.net i firing.date (source_of f.net firing.source) st o × Writes out written (text (seen_in o)) result
    × IfOk result (λ stopped.
    IsReacted f (source_of f.net firing.source) (blocks_at old.plans.items firing.source) new.kept.store banks new.events.pending o stopped)

-- ---- what comes behind it

abbrev pub decision_of : Due → Decision
decision_of (IsOver word) = Over word
decision_of (DoesFire e) = Fires (event_of e)

abbrev pub end_seen : Decision → List Obs
end_seen (Over word) = End word ∷ []
end_seen (Fires e) = []

-- what is observed of a reaction and, behind one with values, the end of the run where it is due
abbrev pub step_seen : Parts → (until left : ℕ) → ReactionOutcome → List Obs
step_seen n until left (Leads seen after) = seen ++ end_seen (comes_next n until left after)
step_seen n until left (StopsWith seen) = seen

-- the run is over, or this event fires and is taken from what is pending
abbrev pub Follows : Fixed → Standing → List Meaning → Pending → State → Decision → Option Kept → Type 0
Follows f s banks pending after (Over word) next = next ≡ None
Follows f s banks pending after (Fires e) next = (k : Kept) × (next ≡ Some k) × (event_of k ≡ e) × Shows f s banks pending (taken after e)

abbrev pub IsStep : Fixed → (until left : ℕ) → Standing → List Meaning → Pending → ReactionOutcome → Option Kept → Type 0
IsStep f until left s banks pending (Leads seen after) next = Follows f s banks pending after (comes_next f.net until left after) next
IsStep f until left s banks pending (StopsWith seen) next = next ≡ None

-- what is due behind the reaction whose marks are kept, where so many events may still fire
abbrev pub TellsDue : (source until left : ℕ) → Judging → Due → Type 0
TellsDue source until left j due =
    (s : Source) (st : State) → j.events.pending ≡ st.pending → AreMarksOf j.kept.fixed s (blocks_at j.plans.items source) j.kept.store st
    → decision_of due ≡ comes_next j.kept.fixed.net until left st

-- the same with what comes behind it: the end of the run is written too, and the event that fires next is taken
abbrev pub StepsTo : Columns → Firing → (until left : ℕ) → (old new : Judging) → (before banks : List Meaning) → (out written : SinkState)
    → Result (Option Kept) Failed → Type 0
StepsTo i firing until left old new before banks out written result =
    let f = old.kept.fixed in
    (st : State) → IsAt old before st
    → (o : ReactionOutcome) × IsOutcome f.net i firing.date (source_of f.net firing.source) st o
    × Writes out written (text (step_seen f.net until left o)) result
    × IfOk result (λ next. IsStep f until left new.kept.store banks new.events.pending o next)

-- ---- the run

abbrev pub WritesRun : Parts → Columns → (until limit : ℕ) → (out written : SinkState) → Result (Unit {0}) Failed → Type 0
WritesRun n i until limit out written result = (os : List Obs) → IsRun n i until limit os → Writes out written (text os) result
