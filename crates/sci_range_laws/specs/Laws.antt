-- What a safe table of ranges says of runs, and of programs in C.
use Rattle.std.specs.Prelude.{◌≡◌, ℕ, ◌≤◌, ◌^◌, pos, false, List, ◌++◌, ◌⊎◌}
use Rattle.sci_base.specs.declared.limits.TheConstants.{TICKS}
use Rattle.sci_base.specs.declared.observation.Obs.{Obs}
use Rattle.sci_base.specs.declared.observation.StopWord.TheVariants.{Input}
use Rattle.sci_net.specs.Net.{IsNet}
use Rattle.sci_net.specs.Parts.{Parts}
use Rattle.sci_reaction.specs.Memory.{Columns, AreColumns}
use Rattle.sci_reaction.specs.Schedule.{Entry, IsSchedule}
use Rattle.sci_run.specs.Finish.{Ending, ByEnd, ByStop, Finish}
use Rattle.sci_run.specs.Laws.{AreLoopFree}
use Rattle.sci_run.specs.Run.{State, Reachable, IsRest}
use Rattle.c_ast.specs.Syntax.{Whole}
use Rattle.c_mean.specs.Meaning.{Ran, meaning}
use Rattle.sci_program.specs.Laws.{answer_by}
use Rattle.sci_program.specs.Program.{program}
use Rattle.sci_program.specs.Stepping.{stepped, Waits, Steps}
use Rattle.sci_ranges.specs.Closed.{IsClosed}
use Rattle.sci_ranges.specs.Columns.{KeepWithin}
use Rattle.sci_ranges.specs.Table.{Table}
use Rattle.sci_ranges_text.specs.Text.{is_open}

-- a table of a net that no rule widens, for input files within the columns i, is safe, and the columns j are those of such a file
pub record IsSafe (n : Parts) (i j : Columns) (t : Table) : Type 0 where
  pub net : IsNet n
  pub free : AreLoopFree n
  pub columns : AreColumns n i
  pub closed : IsClosed n i t
  pub safe : is_open n t ≡ false
  pub keeps : KeepWithin n i j

-- by no overflow and by no divisor of 0: by an end, or by a sensor whose column ends
abbrev pub EndsWell : Ending → Type 0
EndsWell (ByEnd word) = Unit {0}
EndsWell (ByStop block word) = word ≡ Input

-- each run does, whatever its bounds are
abbrev pub SafeRunsEndWell : Type 0
SafeRunsEndWell =
    (n : Parts) (i j : Columns) (t : Table) (until limit : ℕ) (st : State) (how : Ending) (os : List Obs) → IsSafe n i j t → Finish n j until limit st how os → EndsWell how

-- and where one goes on from a state on its way, all that has been observed is that of a run that does
abbrev pub SafeRestsEndWell : Type 0
SafeRestsEndWell =
    (n : Parts) (i j : Columns) (t : Table) (until limit : ℕ) (st : State) (seen os : List Obs) → IsSafe n i j t → Reachable n j until limit st seen
    → IsRest n j until limit st os → (last : State) × (how : Ending) × Finish n j until limit last how (seen ++ os) × EndsWell how

-- and the program in C observes such a run and ends as it does, on each input file in range
abbrev pub SafeCodeEndsWell : Type 0
SafeCodeEndsWell =
    (n : Parts) (rows : List (List Entry)) (i j : Columns) (t : Table) (until limit : ℕ) → IsSafe n i j t → IsSchedule n rows → AreColumns n j → until ≤ TICKS → limit ≤ 2 ^ 51
    → (last : State) × (how : Ending) × (os : List Obs) × Finish n j until limit last how os × EndsWell how
    × (meaning (program n rows) j (pos until) (pos limit) ≡ record { seen = os; how = answer_by how })

-- ---- stepped by its host

-- start and k events of a run have been observed, and the program waits for a call more
abbrev pub WaitsOn : Parts → Columns → (until k : ℕ) → Ran → Type 0
WaitsOn n j until k r = (st : State) × (seen : List Obs) × Reachable n j until k st seen × (st.fired ≡ k) × Waits st seen r

-- a whole run has been observed, and both end well
abbrev pub IsOverWell : Parts → Columns → (until k : ℕ) → Ran → Type 0
IsOverWell n j until k r =
    (last : State) × (how : Ending) × (os : List Obs) × Finish n j until k last how os × EndsWell how × (r ≡ record { seen = os; how = answer_by how })

-- The program can be stepped. Begun, and then stepped k times, on an input file that a safe table means, it waits for a call more, or is over by no overflow
-- and no divisor of 0, however many events its host asks for.
pub record StepsWell (n : Parts) (p : Whole) : Type 0 where
  pub steps : Steps n p
  pub well : (i j : Columns) (t : Table) (until most k : ℕ) → IsSafe n i j t → AreColumns n j → until ≤ TICKS → k ≤ 2 ^ 51
      → WaitsOn n j until k (stepped p steps.begin j (pos until) (pos most) k) ⊎ IsOverWell n j until k (stepped p steps.begin j (pos until) (pos most) k)

abbrev pub SafeStepsEndWell : Type 0
SafeStepsEndWell = (n : Parts) (rows : List (List Entry)) → IsNet n → AreLoopFree n → IsSchedule n rows → StepsWell n (program n rows)
