-- What the memory of a program stands for between two events, and what the function of one event does to it.
use Rattle.std.specs.Prelude.{◌≡◌, ℕ, ◌-◌, ◌<◌, ◌≤◌, ◌^◌, pos, true, List, length, Some}
use Rattle.sci_base.specs.declared.limits.TheConstants.{TICKS}
use Rattle.sci_base.specs.declared.observation.Obs.{Obs}
use Rattle.sci_base.specs.declared.observation.EndWord.{EndWord}
use Rattle.sci_base.specs.declared.observation.StopWord.{StopWord}
use Rattle.sci_net.specs.declared.Source.TheVariants.{Start}
use Rattle.sci_net.specs.Parts.{Parts}
use Rattle.sci_net.specs.Net.{IsNet}
use Rattle.sci_net.specs.Sources.{source_of}
use Rattle.sci_reaction.specs.Memory.{Columns, AreColumns}
use Rattle.sci_reaction.specs.Result.{Stopped, IsResult}
use Rattle.sci_reaction.specs.Schedule.{Entry, IsSchedule}
use Rattle.sci_pending.specs.Pending.{Event, next}
use Rattle.sci_run.specs.Laws.{AreLoopFree}
use Rattle.sci_run.specs.Observed.{stop_seen}
use Rattle.sci_run.specs.Run.{State, first_state, taken, Over, Fires, comes_next, Reacts, Reachable}
use Rattle.c_ast.specs.Events.{program_events}
use Rattle.c_ast.specs.Syntax.{Block, Whole}
use Rattle.c_mean.specs.Meaning.{World, Ran, going, halted}
use Rattle.c_mean.specs.Places.{get}
use Rattle.c_mean.specs.Runs.{Ends}
use Rattle.c_trim.specs.Laws.{kept_world}
use Rattle.c_trim.specs.Trim.{is_named, is_kept}
use Rattle.sci_cgen_blocks.specs.Texts.{values, states}
use Rattle.sci_due.specs.Due.{best as chosen_name}
use Rattle.sci_program.specs.Names.{fired_name, next_date, event_name}
use Rattle.sci_program.specs.Program.{port_count, scratch_count, program}
use Rattle.sci_program.specs.Shows.{ShowsValues, ShowsStates, ShowsColumns, ShowsState}
use Rattle.sci_program.specs.Stepping.{called, stepped, date_of, IsParted}

-- ---- what memory stands for

-- Memory with all variables, where main has counted so many events: it shows the state, the date of the next event, or -1, and, of several sources, the one
-- whose event that is.
pub record Stands (n : Parts) (scratch : ℕ) (i : Columns) (until limit count : ℕ) (st : State) (w : World) : Type 0 where
  pub shows : ShowsState n scratch i until limit st w
  pub chosen : 2 ≤ port_count n → (e : Event) → next st.pending.events ≡ Some e → get w chosen_name 0 ≡ Some (pos (e.source - 1))
  pub coming : get w next_date 0 ≡ Some (date_of (next st.pending.events))
  pub fired : get w fired_name 0 ≡ Some (pos count)

-- The memory of program p stands for a state: it has of such a memory the variables that the texts of p name. The host has answered `until` for the last date,
-- and `most` for the most events.
pub record StandsFor (n : Parts) (rows : List (List Entry)) (p : Whole) (i : Columns) (until most : ℕ) (st : State) (w : World) : Type 0 where
  pub whole : World
  pub count : ℕ
  pub stands : Stands n (scratch_count n rows (length n.specs)) i until most count st whole
  pub kept : w ≡ kept_world (is_kept p) whole

-- What can be read in it: the date of the next event, or -1; what is left of the columns; and, where a text names their arrays, held values and states.
pub record TellsState (n : Parts) (p : Whole) (i : Columns) (st : State) (w : World) : Type 0 where
  pub date : get w next_date 0 ≡ Some (date_of (next st.pending.events))
  pub columns : ShowsColumns n i st.memory.cursor w
  pub held : is_named (program_events p) values ≡ true → ShowsValues n st.memory.held w
  pub states : is_named (program_events p) states ≡ true → ShowsStates n st.memory.state w

-- ---- one event

-- What one turn does from any memory that shows a state, of those that are reached in a run of at most so many events. Where an event fires, it is observed
-- as the run observes it, and memory then shows the state behind it; or the reaction's stop is observed; or the end of the run.
pub record DoesEvents (n : Parts) (i : Columns) (until limit : ℕ) (turn : World → Ran) (Shows : State → World → Type 0) : Type 0 where
  pub fires : (st after : State) (e : Event) (seen more : List Obs) (w : World) → Reachable n i until limit st seen
      → comes_next n until (limit - st.fired) st ≡ Fires e → Reacts n i e.date (source_of n e.source) (taken st e) after more → Shows st w
      → (w' : World) × ((turn w ≡ record { seen = more; how = going w' }) × Shows after w')
  pub stops : (st : State) (e : Event) (block : ℕ) (word : StopWord) (seen : List Obs) (w : World) → Reachable n i until limit st seen
      → comes_next n until (limit - st.fired) st ≡ Fires e → IsResult n st.memory i (source_of n e.source) (Stopped block word) → Shows st w
      → turn w ≡ record { seen = stop_seen e.date (source_of n e.source) block word; how = halted }
  pub ends : (st : State) (word : EndWord) (seen : List Obs) (w : World) → Reachable n i until limit st seen → st.fired < limit
      → comes_next n until (limit - st.fired) st ≡ Over word → Shows st w → Ends (turn w) word

-- ---- the law

-- Memory follows the run. Behind the statements of main before its loop it stands for the state behind the reaction of start; and from any memory that stands
-- for a state of a run of at most 2^51 events, one call of the function of one event does what the run does there, and memory stands for the next state.
pub record FollowsRun (n : Parts) (rows : List (List Entry)) (p : Whole) : Type 0 where
  pub begin : Block
  pub parted : IsParted p begin
  pub begins : (i : Columns) (until most : ℕ) (first : State) (seen : List Obs) → AreColumns n i → until ≤ TICKS
      → Reacts n i 0 Start (first_state n) first seen
      → (w : World) × ((stepped p begin i (pos until) (pos most) 0 ≡ record { seen = seen; how = going w }) × StandsFor n rows p i until most first w)
  pub events : (i : Columns) (until most limit : ℕ) → AreColumns n i → until ≤ TICKS → limit ≤ 2 ^ 51
      → DoesEvents n i until limit (called p (pos until) (pos most) event_name) (StandsFor n rows p i until most)
  pub tells : (i : Columns) (until most : ℕ) (st : State) (w : World) → StandsFor n rows p i until most st w → TellsState n p i st w

-- That of the program of a net does.
abbrev pub ProgramFollowsRun : Type 0
ProgramFollowsRun = (n : Parts) (rows : List (List Entry)) → IsNet n → AreLoopFree n → IsSchedule n rows → FollowsRun n rows (program n rows)
