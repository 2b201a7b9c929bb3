-- The answer to a net: its schedule, or the rule that it breaks.
use Rattle.std.specs.Prelude.{◌≡◌, ℕ, ◌<◌, ◌≤◌, ◌⊎◌, ℤ, pos, List, [], ◌∷◌, ◌++◌, length, map, slice_index}
use Rattle.sci_base.specs.declared.limits.TheConstants.{ENTRIES}
use Rattle.sci_base.specs.Plain.{Violation}
use Rattle.sci_base.specs.declared.refusal.Rule.TheVariants.{AlgebraicLoop, ScheduleTooLong}
use Rattle.sci_loop.specs.Loops.{IsLoop, IsFromLeast}
use Rattle.sci_net.specs.declared.Source.{Source}
use Rattle.sci_net.specs.declared.Source.TheVariants.{Start, Port}
use Rattle.sci_net.specs.Parts.{Parts, path_of}
use Rattle.sci_net.specs.Sources.{sources_of, source_of}
use Rattle.sci_reaction.specs.Depends.{Depends, IsLoopFree}
use Rattle.sci_reaction.specs.Schedule.{Entry, IsSchedule}
use Rattle.sci_base.specs.declared.stop.Stop.{Stop}
use Rattle.sci_base.specs.Stops.{StopsBy}
use Rattle.sci_sched.specs.Size.{size_of}

-- the first k sources have no loop
abbrev pub AreLoopFree : Parts → ℕ → Type 0
AreLoopFree n k = (i : ℕ) → i < k → IsLoopFree n (source_of n i)

-- the schedule of a net, none of whose sources has a loop
pub record IsPlan (n : Parts) (rows : List (List Entry)) : Type 0 where
  pub free : AreLoopFree n (length (sources_of n))
  pub schedule : IsSchedule n rows
  pub short : size_of rows ≤ ENTRIES

-- ---- the rules

-- start is told by two zeros
abbrev pub source_numbers : Source → List ℤ
source_numbers Start = pos 0 ∷ pos 0 ∷ []
source_numbers (Port q) = pos q.block ∷ pos q.port ∷ []

abbrev pub numbers_of : List ℕ → List ℤ
numbers_of ns = map (λ b. pos b) ns

-- a refusal of a loop is at its first block, and tells the source and the loop
abbrev pub loop_violation : Parts → Source → List ℕ → Violation
loop_violation n s found = record { rule = AlgebraicLoop; place = path_of n (slice_index found 0); detail = source_numbers s ++ numbers_of found }

-- a loop of the source, listed from its least block
pub record TellsLoop (n : Parts) (s : Source) (v : Violation) : Type 0 where
  pub found : List ℕ
  pub is_loop : IsLoop (Depends n s) found
  pub from_least : IsFromLeast found
  pub told : v ≡ loop_violation n s found

-- the first source that has a loop
pub record BreaksLoops (n : Parts) (v : Violation) : Type 0 where
  pub at : ℕ
  pub within : at < length (sources_of n)
  pub before : AreLoopFree n at
  pub tells : TellsLoop n (source_of n at) v

abbrev pub length_violation : ℕ → Violation
length_violation count = record { rule = ScheduleTooLong; place = []; detail = pos count ∷ [] }

-- no source has a loop, and the schedule has more entries and guards than it may have
pub record BreaksLength (n : Parts) (v : Violation) : Type 0 where
  pub free : AreLoopFree n (length (sources_of n))
  pub rows : List (List Entry)
  pub schedule : IsSchedule n rows
  pub long : ENTRIES < size_of rows
  pub told : v ≡ length_violation (size_of rows)

abbrev pub IsPlanBreak : Parts → Violation → Type 0
IsPlanBreak n v = BreaksLoops n v ⊎ BreaksLength n v

-- a refusal tells the rule that the net breaks; want of memory says nothing
abbrev pub IsPlanStop : Parts → Stop → Type 0
IsPlanStop n = StopsBy (IsPlanBreak n)

-- the same of one source
abbrev pub IsLoopStop : Parts → Source → Stop → Type 0
IsLoopStop n s = StopsBy (TellsLoop n s)

-- and of the sources in order
abbrev pub IsFirstLoopStop : Parts → Stop → Type 0
IsFirstLoopStop n = StopsBy (BreaksLoops n)
