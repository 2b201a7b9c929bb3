-- An interval of exact results, as an interval.
use Rattle.sci_ranges_base.specs.declared.interval.Interval.{Interval}
use Rattle.sci_ranges_base.specs.declared.wide.Wide.{Wide}
use Rattle.sci_ranges_base.specs.Intervals.{from_to}

abbrev pub numbers : Wide → Interval
numbers w = from_to w.least w.greatest
