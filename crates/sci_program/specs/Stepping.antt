-- A program that its host steps: one call of one function is one event.
use Rattle.std.specs.Prelude.{◌≡◌, ℕ, ◌<◌, ◌≤◌, ◌^◌, ℤ, pos, negsuc, List, Option, Some, None}
use Rattle.sci_base.specs.declared.limits.TheConstants.{TICKS}
use Rattle.sci_base.specs.declared.observation.Obs.{Obs}
use Rattle.sci_net.specs.Parts.{Parts}
use Rattle.sci_net.specs.Net.{IsNet}
use Rattle.sci_reaction.specs.Memory.{Columns, AreColumns}
use Rattle.sci_reaction.specs.Schedule.{Entry, IsSchedule}
use Rattle.sci_pending.specs.Pending.{Event, next as next_pending}
use Rattle.sci_run.specs.Laws.{AreLoopFree}
use Rattle.sci_run.specs.Run.{State, Reachable}
use Rattle.sci_run.specs.Finish.{Ending, ByEnd, ByStop, Finish}
use Rattle.c_ast.specs.declared.Name.{Name}
use Rattle.c_ast.specs.declared.Bound.TheVariants as bounds
use Rattle.c_ast.specs.Syntax.{loop, call, Block, done, next, Whole}
use Rattle.c_mean.specs.Meaning.{World, behind_functions, first_world, Ran, going, then_run, run_block, turns, calling}
use Rattle.c_mean.specs.Places.{get}
use Rattle.c_mean.specs.Programs.{surroundings}
use Rattle.c_mean.specs.Texts.{joined}
use Rattle.sci_program.specs.Names.{limit_name, fired_name, next_date, event_name}
use Rattle.sci_program.specs.Program.{program}
use Rattle.sci_program.specs.Laws.{answer_by}

-- a call of one of a program's functions by its host, which answers these bounds; it is counted as the first statement of main
abbrev pub called : Whole → ℤ → ℤ → Name → World → Ran
called p last most f = calling (surroundings p.funcs last most) (behind_functions 1 p.funcs) f

-- the first statements of main, and then k calls of the function of one event
abbrev pub stepped : Whole → Block → Columns → ℤ → ℤ → ℕ → Ran
stepped p begin columns last most k =
    then_run (run_block (surroundings p.funcs last most) (behind_functions 1 p.funcs) begin (first_world p columns)) (turns k (called p last most event_name))

-- a date as the scalar holds it
abbrev pub date_of : Option Event → ℤ
date_of None = negsuc 0
date_of (Some e) = pos e.date

-- This has been observed, the program can go on, and the scalar holds the date of the next event, or -1.
pub record Waits (st : State) (seen : List Obs) (r : Ran) : Type 0 where
  pub world : World
  pub is : r ≡ record { seen = seen; how = going world }
  pub date : get world next_date 0 ≡ Some (date_of (next_pending st.pending.events))

-- The run is over, and told to be so, within k calls: an end is told where an event more is asked for.
abbrev pub IsToldBy : ℕ → State → Ending → Type 0
IsToldBy k st (ByEnd word) = st.fired < k
IsToldBy k st (ByStop block word) = Unit {0}

-- main begins, calls the function of one event again and again, and ends
pub record IsParted (p : Whole) (begin : Block) : Type 0 where
  pub rest : Block
  pub is : p.main ≡ joined begin (next (loop fired_name (bounds.Var limit_name) (next (call event_name) done)) rest)

-- Begun and then stepped k times, the program has observed exactly the reactions of start and of the first k events; or, where the run has fewer, all of
-- it. It doesn't matter how many events its host asks for.
pub record Steps (n : Parts) (p : Whole) : Type 0 where
  pub begin : Block
  pub parted : IsParted p begin
  pub waits : (i : Columns) (until most k : ℕ) (st : State) (seen : List Obs) → AreColumns n i → until ≤ TICKS → k ≤ 2 ^ 51
      → Reachable n i until k st seen → st.fired ≡ k → Waits st seen (stepped p begin i (pos until) (pos most) k)
  pub ends : (i : Columns) (until most k : ℕ) (st : State) (how : Ending) (os : List Obs) → AreColumns n i → until ≤ TICKS → k ≤ 2 ^ 51
      → Finish n i until k st how os → IsToldBy k st how → stepped p begin i (pos until) (pos most) k ≡ record { seen = os; how = answer_by how }

-- A program that is made so can be stepped.
abbrev pub ProgramSteps : Type 0
ProgramSteps = (n : Parts) (rows : List (List Entry)) → IsNet n → AreLoopFree n → IsSchedule n rows → Steps n (program n rows)
