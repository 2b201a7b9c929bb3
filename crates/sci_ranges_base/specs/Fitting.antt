-- What an interval comes to when its numbers are fitted into a type.
use Rattle.std.specs.Prelude.{ℤ, pos, ◌-ℤ◌, true, false, if◌then◌else◌, ◌&&◌, Some}
use Rattle.std.specs.Int.{int_div_euclid}
use Rattle.sci_base.specs.declared.Ty.{Ty}
use Rattle.sci_base.specs.declared.Mode.{Mode}
use Rattle.sci_base.specs.declared.Mode.TheVariants.{Wrap, Saturate, Stop}
use Rattle.sci_base.specs.Fit.{low, high, span, wrap, int_eq, in_range}
use Rattle.sci_kinds.specs.Table.{brought}
use Rattle.sci_ranges_base.specs.declared.interval.Interval.{Interval}
use Rattle.sci_ranges_base.specs.declared.cells.Cells.{Cells}
use Rattle.sci_ranges_base.specs.Intervals.{from_to, whole, met, at_ends}
use Rattle.sci_ranges_base.specs.Cells.{valued}

-- how many spans of the type lie between its own numbers and v
abbrev pub turns : Ty → ℤ → ℤ
turns t v = int_div_euclid (v -ℤ low t) (pos (span t))

-- wrapped: the ends where both are as many turns away, else any number of the type up to a greatest one
abbrev pub wrapped_up_to : Ty → ℤ → Interval → Interval
wrapped_up_to t most i = if int_eq (turns t i.least) (turns t i.greatest) then at_ends (wrap t) i else from_to (low t) most

abbrev pub wrapped : Ty → Interval → Interval
wrapped t i = wrapped_up_to t (high t) i

-- an interval with an end out of range
abbrev pub fitted_beyond : Ty → Mode → Interval → Cells
fitted_beyond t Wrap i = valued (Some (wrapped t i))
fitted_beyond t Saturate i = valued (Some (at_ends (brought (low t) (high t)) i))
fitted_beyond t Stop i = record { values = met i (whole t); overflow = true; zero = false }

-- as it is where both ends are in range
abbrev pub fitted_range : Ty → Mode → Interval → Cells
fitted_range t m i = if in_range t i.least && in_range t i.greatest then valued (Some i) else fitted_beyond t m i
