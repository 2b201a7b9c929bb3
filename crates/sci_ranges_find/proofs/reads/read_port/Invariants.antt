use Rattle.std.proofs.Common.{◌≡◌, ◌++◌}
use Rattle.sci_ranges_find.specs.View.{ranges_of}
use Rattle.sci_ranges_find.specs.Readings.{port_by}
use Rattle.sci_ranges_find.proofs.reads.read_port.Given as goal

abbrev pub invariant-loop-d : goal.invariant-loop-d
invariant-loop-d l = l.entered.items ≡ l.fn.entered.items ++ port_by l.net (ranges_of l.table) l.reading l.block l.port l.d
