-- What fitting makes of the numbers of an interval.
use Rattle.std.specs.Prelude.{ℤ}
use Rattle.sci_base.specs.declared.Ty.{Ty}
use Rattle.sci_base.specs.declared.Mode.{Mode}
use Rattle.sci_base.specs.Fit.{fit}
use Rattle.sci_kinds.specs.Table.{fitted}
use Rattle.sci_ranges_base.specs.declared.interval.Interval.{Interval}
use Rattle.sci_ranges_base.specs.Intervals.{IsIn}
use Rattle.sci_ranges_base.specs.Cells.{MayBe}
use Rattle.sci_ranges_base.specs.Fitting.{fitted_range}

-- what a number of the interval is fitted to, or its stop, is one of the cells that the interval is fitted to
abbrev pub FittedLaw : Type 0
FittedLaw = (t : Ty) (m : Mode) (i : Interval) (v : ℤ) → IsIn i v → MayBe (fitted_range t m i) (fitted (fit t m v))
