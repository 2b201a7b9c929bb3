-- Why a block has no wires.
use Rattle.std.specs.Prelude.{ℕ, List}
use Rattle.sci_flat.specs.declared.steps.port_numbers.PortNumbers.{PortNumbers}
use Rattle.sci_flat.specs.declared.rows.RowStop.{RowStop}
use Rattle.sci_flat.specs.declared.rows.RowStop.TheVariants.{Unfed, Memory}
use Rattle.sci_flat.specs.Wired.{IsFirstUnfed}

abbrev pub IsUnfedStop : List (List ℕ) → PortNumbers → RowStop → Type 0
IsUnfedStop lists s (Unfed k) = IsFirstUnfed lists s k
IsUnfedStop lists s Memory = Unit {0}
