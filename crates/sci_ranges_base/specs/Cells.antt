-- What an element of an output may be.
use Rattle.std.specs.Prelude.{◌≡◌, true, false, Option, Some, None}
use Rattle.sci_kinds.specs.declared.Cell.{Cell}
use Rattle.sci_kinds.specs.declared.Cell.TheVariants.{Value, Overflow, Zero}
use Rattle.sci_ranges_base.specs.declared.interval.Interval.{Interval}
use Rattle.sci_ranges_base.specs.declared.cells.Cells.{Cells}
use Rattle.sci_ranges_base.specs.Intervals.{IsInSome}

-- the cell is one of these: its value is in the interval, or its stop may be
abbrev pub MayBe : Cells → Cell → Type 0
MayBe c (Value v) = IsInSome c.values v
MayBe c Overflow = c.overflow ≡ true
MayBe c Zero = c.zero ≡ true

-- values alone, without a stop
abbrev pub valued : Option Interval → Cells
valued i = record { values = i; overflow = false; zero = false }

-- no cell
abbrev pub nothing : Cells
nothing = valued None

-- what comes of an interval, if it is there
abbrev pub on_some : (Interval → Cells) → Option Interval → Cells
on_some f None = nothing
on_some f (Some i) = f i

-- of two intervals, if both are there
abbrev pub on_both : (Interval → Interval → Cells) → Option Interval → Option Interval → Cells
on_both f None j = nothing
on_both f (Some i) j = on_some (f i) j
