-- A reaction of the run: the source that fires, and what its reaction comes to.
use Rattle.std.specs.Prelude.{◌≡◌, ℕ, ◌-◌, ◌≤◌, ◌⊎◌, pos, Bool, true, false, List, [], ◌∷◌, Option, Some, None, Result, IfOk}
use Rattle.sci_base.specs.declared.limits.TheConstants.{TICKS, EVENTS}
use Rattle.sci_base.specs.declared.observation.Obs.{Obs}
use Rattle.sci_base.specs.declared.observation.Obs.TheVariants.{Stop}
use Rattle.sci_base.specs.declared.observation.StopWord.{StopWord}
use Rattle.sci_io.specs.declared.sink.Failed.{Failed}
use Rattle.sci_io.specs.Taken.{SinkState, Writes}
use Rattle.sci_trace.specs.Lines.{text}
use Rattle.sci_net.specs.Parts.{Parts}
use Rattle.sci_net.specs.Sources.{source_of}
use Rattle.sci_reaction.specs.Memory.{Columns}
use Rattle.sci_reaction.specs.Equations.{Signals}
use Rattle.sci_pending.specs.Pending.{Event}
use Rattle.sci_run.specs.Activity.{halts}
use Rattle.sci_run.specs.Run.{State, first_state, taken, ReactionOutcome, IsOutcome, Leads, StopsWith, Fires, comes_next}
use Rattle.sci_agenda.specs.Firing.{Meaning as Waiting}
use Rattle.sci_bank.specs.Bank.{Meaning}
use Rattle.sci_store.specs.Frame.{Fixed}
use Rattle.sci_store.specs.Store.{Standing, ShowsValues, AreCountedWithin}
use Rattle.sci_store.specs.Written.{AreAmong}
use Rattle.sci_store.specs.Rows.{ReadyRow}
use Rattle.sci_sim.specs.Rows.{row_in}
use Rattle.sci_sim.specs.At.{Running, Shows, IsAt, AreTallied}

-- ---- the source that fires

-- Where a run stands at a state, and has begun or not, the source at this place fires next, at this date and from this state: start before
-- the run, or the event that comes next, which is taken from the pending ones.
pub data FiresNext (n : Parts) (until limit : ℕ) : (started : Bool) → State → (date source : ℕ) → (from : State) → Type 0 where
  start : FiresNext n until limit false (first_state n) 0 0 (first_state n)
  event : (st : State) (e : Event) → comes_next n until (limit - st.fired) st ≡ Fires e → FiresNext n until limit true st e.date e.source (taken st e)

-- a step may be done: the net stands at a state in which a source fires next
abbrev pub MayStep : (until limit : ℕ) → Running → List Meaning → Type 0
MayStep until limit r banks = (st from : State) × (date source : ℕ) × IsAt r banks st × FiresNext r.fixed.net until limit r.started st date source from

-- the state from which a source fires at this date, but for its own date, which is that of the reaction before
abbrev pub ShowsFiring : Fixed → Standing → List Meaning → Waiting → (puts offset date : ℕ) → State → Type 0
ShowsFiring f s banks waiting puts offset date st = Shows f s banks waiting puts offset (record st { now = date })

-- the same of a net, at the date of its reaction
abbrev pub IsFiring : Running → List Meaning → State → Type 0
IsFiring r banks st = ShowsFiring r.fixed r.store banks r.wheel.meaning r.wheel.puts r.offset r.now st

-- the net fires this source at this date from this state, where it stood at another before
pub record HasSetOut (until : ℕ) (old new : Running) (banks : List Meaning) (date source : ℕ) (from : State) (fires : ℕ) : Type 0 where
  pub source_is : fires ≡ source
  pub now : new.now ≡ date
  pub fired : new.fired ≡ from.fired
  pub shown : ShowsFiring old.fixed old.store banks new.wheel.meaning new.wheel.puts old.offset date from
  pub in_time : (date ≤ until) ⊎ (date ≡ 0)

-- some run stands where the net does, within bounds, and its next source may fire
abbrev pub MayFire : Running → Type 0
MayFire r =
    (until limit : ℕ) × (banks : List Meaning) × (st from : State) × (date source : ℕ) × IsAt r banks st
    × FiresNext r.fixed.net until limit r.started st date source from × (until ≤ TICKS) × (limit ≤ EVENTS)

-- whichever run stands there, its next source is the one that fires now
abbrev pub SetsOut : (old new : Running) → (fires : ℕ) → Type 0
SetsOut old new fires =
    (until limit : ℕ) (banks : List Meaning) (st from : State) (date source : ℕ) → IsAt old banks st
    → FiresNext old.fixed.net until limit old.started st date source from → HasSetOut until old new banks date source from fires

-- ---- what the reaction comes to

abbrev pub seen_in : ReactionOutcome → List Obs
seen_in (Leads seen after) = seen
seen_in (StopsWith seen) = seen

-- the word of the stop with which an outcome ends: the last that is observed
abbrev pub IsStopOf : ReactionOutcome → Option StopWord → Type 0
IsStopOf (Leads seen after) stop = stop ≡ None
IsStopOf (StopsWith seen) None = ⊥
IsStopOf (StopsWith seen) (Some word) = (h : Obs) × (b : ℕ) × (seen ≡ h ∷ Stop word (pos b) (pos 0) ∷ [])

-- the marks are those of the reaction that led to this state, of the source at this place, whose row this is
pub record AreMarksOf (f : Fixed) (source : ℕ) (row : ReadyRow) (s : Standing) (after : State) : Type 0 where
  pub y : Signals
  pub shown : ShowsValues f (source_of f.net source) s y after.active
  pub among : AreAmong f.net after.active row.blocks

-- a reaction with values leads to the state that is shown now; of one that stops, the banks have counted at most a call for each block that the
-- source may activate
abbrev pub LeadsTo : Fixed → (source : ℕ) → ReadyRow → Standing → (old banks : List Meaning) → Waiting → (puts offset : ℕ) → ReactionOutcome → Type 0
LeadsTo f source row new old banks waiting puts offset (Leads seen after) = Shows f new banks waiting puts offset after × AreMarksOf f source row new after
LeadsTo f source row new old banks waiting puts offset (StopsWith seen) = AreCountedWithin f.net (source_of f.net source) old banks

-- behind a reaction; what was observed is counted
pub record IsReacted (f : Fixed) (source : ℕ) (row : ReadyRow) (old new : Standing) (before banks : List Meaning) (waiting : Waiting) (puts offset : ℕ)
    (o : ReactionOutcome) (stop : Option StopWord) : Type 0 where
  pub stops : IsStopOf o stop
  pub leads : LeadsTo f source row new before banks waiting puts offset o
  pub tallied : AreTallied old new (seen_in o)

-- a source reacts from the state that fires it: what is observed is written, and then the net stands where the reaction leads to
abbrev pub ReactsTo : Columns → (source : ℕ) → (old new : Running) → (before banks : List Meaning) → (out written : SinkState)
    → Result (Option StopWord) Failed → Type 0
ReactsTo i source old new before banks out written result =
    (st : State) → IsFiring old before st
    → (o : ReactionOutcome) × IsOutcome old.fixed.net i old.now (source_of old.fixed.net source) st o × Writes out written (text (seen_in o)) result
    × IfOk result (λ stop.
    IsReacted old.fixed source (row_in old.rows source) old.store new.store before banks new.wheel.meaning new.wheel.puts old.offset o stop)

-- whether a HALT_f was active in the reaction whose marks are kept
abbrev pub TellsHalted : (source : ℕ) → (old new : Running) → Type 0
TellsHalted source old new =
    (after : State) → AreMarksOf old.fixed source (row_in old.rows source) new.store after → new.halted ≡ halts old.fixed.net after.active
