use Rattle.std.proofs.Common.{◌≡◌}
use Rattle.sci_forms.specs.Ports.{before}
use Rattle.sci_ranges_find.proofs.table.before.Given as goal

abbrev pub invariant-loop-port : goal.invariant-loop-port
invariant-loop-port l = l.count ≡ before l.ports l.port
