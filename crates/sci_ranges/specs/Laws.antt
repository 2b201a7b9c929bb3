-- A table that no rule widens holds.
use Rattle.std.specs.Prelude.{ℕ, ◌<◌, length}
use Rattle.sci_net.specs.Net.{IsNet}
use Rattle.sci_net.specs.Parts.{Parts}
use Rattle.sci_net.specs.Sources.{sources_of, source_of}
use Rattle.sci_reaction.specs.Depends.{IsLoopFree}
use Rattle.sci_reaction.specs.Memory.{Columns, AreColumns}
use Rattle.sci_ranges.specs.Closed.{IsClosed}
use Rattle.sci_ranges.specs.Holds.{Holds}
use Rattle.sci_ranges.specs.Table.{Table}

abbrev pub ClosedHolds : Type 0
ClosedHolds =
    (n : Parts) (i : Columns) (t : Table) → IsNet n → ((k : ℕ) → k < length (sources_of n) → IsLoopFree n (source_of n k)) → AreColumns n i →
    IsClosed n i t → Holds n i t
