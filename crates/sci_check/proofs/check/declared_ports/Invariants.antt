use Rattle.std.proofs.Common.{◌≡◌}
use Rattle.sci_check.specs.Check.{declared_ports}
use Rattle.sci_check.proofs.check.declared_ports.Given as goal

abbrev pub invariant-loop-k : goal.invariant-loop-k
invariant-loop-k l = l.items.items ≡ declared_ports l.rows l.cols l.types l.k
