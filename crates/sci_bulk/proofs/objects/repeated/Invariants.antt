use Rattle.std.proofs.Common.{◌≡◌}
use Rattle.sci_base.specs.Lists.{repeated}
use Rattle.sci_bulk.proofs.objects.repeated.Given as goal

abbrev pub invariant-loop-port : goal.invariant-loop-port
invariant-loop-port l = l.values.items ≡ repeated l.value l._port
