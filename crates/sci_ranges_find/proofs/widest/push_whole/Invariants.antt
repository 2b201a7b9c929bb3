use Rattle.std.proofs.Common.{◌≡◌, ◌++◌, replicate, Some}
use Rattle.sci_forms.specs.Ports.{type_of}
use Rattle.sci_ranges_base.specs.Intervals.{whole}
use Rattle.sci_ranges_find.proofs.widest.push_whole.Given as goal

abbrev pub invariant-loop : goal.invariant-loop
invariant-loop l = l.all.items ≡ l.fn.all.items ++ replicate l.counter (Some (whole (type_of l.fn.port)))
