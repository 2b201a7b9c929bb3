-- What a table says that holds: where it is safe, no run stops by an overflow or a zero.
use Rattle.std.specs.Prelude.{◌≡◌, ℕ, ◌⊎◌, false, List}
use Rattle.sci_base.specs.declared.observation.Obs.{Obs}
use Rattle.sci_base.specs.declared.observation.StopWord.{StopWord}
use Rattle.sci_base.specs.declared.observation.StopWord.TheVariants.{Overflow, Zero}
use Rattle.sci_net.specs.Net.{IsNet}
use Rattle.sci_net.specs.Parts.{Parts}
use Rattle.sci_reaction.specs.Memory.{Columns, AreColumns}
use Rattle.sci_run.specs.Finish.{Finish, ByStop}
use Rattle.sci_run.specs.Laws.{AreLoopFree}
use Rattle.sci_run.specs.Run.{State}
use Rattle.sci_ranges.specs.Columns.{KeepWithin}
use Rattle.sci_ranges.specs.Closed.{IsClosed}
use Rattle.sci_ranges.specs.Table.{Table}
use Rattle.sci_ranges_text.specs.Text.{is_open}

abbrev pub SafeNeverStops : Type 0
SafeNeverStops =
    (n : Parts) (i j : Columns) (t : Table) (until limit : ℕ) (st : State) (b : ℕ) (word : StopWord) (seen : List Obs) → IsNet n → AreLoopFree n → AreColumns n i → IsClosed n i t →
    is_open n t ≡ false → KeepWithin n i j → Finish n j until limit st (ByStop b word) seen → (word ≡ Overflow) ⊎ (word ≡ Zero) → ⊥
