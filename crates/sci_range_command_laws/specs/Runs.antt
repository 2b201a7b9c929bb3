-- A table that no rule widens tells what is observed of runs.
use Rattle.std.specs.Prelude.{◌≡◌, ℕ, false, List}
use Rattle.sci_base.specs.declared.observation.Obs.{Obs}
use Rattle.sci_net.specs.Net.{IsNet}
use Rattle.sci_net.specs.Parts.{Parts}
use Rattle.sci_reaction.specs.Memory.{Columns, AreColumns}
use Rattle.sci_run.specs.Laws.{AreLoopFree}
use Rattle.sci_run.specs.Run.{IsRest, IsRun}
use Rattle.sci_save.specs.Saved.{Saved, memory_of}
use Rattle.sci_save.specs.Resumed.{state_of}
use Rattle.sci_resume.specs.Behind.{IsSavedBehind}
use Rattle.sci_ranges.specs.Closed.{IsClosed}
use Rattle.sci_ranges.specs.Columns.{KeepWithin}
use Rattle.sci_ranges.specs.Table.{Table}
use Rattle.sci_ranges_text.specs.Text.{is_open}
use Rattle.sci_range_command_laws.specs.Told.{AreTold, AreNoFaults, IsHeld}

-- of each run on an input file whose columns keep within the given ones, whatever the bounds are
abbrev pub RunsAreTold : Type 0
RunsAreTold =
    (n : Parts) (i j : Columns) (t : Table) (until limit : ℕ) (os : List Obs) → IsNet n → AreLoopFree n → AreColumns n i → IsClosed n i t → KeepWithin n i j →
    IsRun n j until limit os → AreTold n t os

-- and of what goes on from what was saved of such a run, on another such file and by other bounds
abbrev pub RestsAreTold : Type 0
RestsAreTold =
    (n : Parts) (i j k : Columns) (t : Table) (until limit reaction later more : ℕ) (m : Saved) (os : List Obs) → IsNet n → AreLoopFree n → AreColumns n i →
    IsClosed n i t → KeepWithin n i j → KeepWithin n i k → IsSavedBehind n j until limit reaction m → IsRest n k later more (state_of m) os → AreTold n t os

-- and what was saved is within it
abbrev pub SavedAreHeld : Type 0
SavedAreHeld =
    (n : Parts) (i j : Columns) (t : Table) (until limit reaction : ℕ) (m : Saved) → IsNet n → AreLoopFree n → AreColumns n i → IsClosed n i t → KeepWithin n i j →
    IsSavedBehind n j until limit reaction m → IsHeld n t (memory_of m)

-- a safe table tells no overflow and no division by 0
abbrev pub SafeHasNoFaults : Type 0
SafeHasNoFaults = (n : Parts) (t : Table) (os : List Obs) → is_open n t ≡ false → AreTold n t os → AreNoFaults os
