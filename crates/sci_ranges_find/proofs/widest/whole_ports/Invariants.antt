use Rattle.std.proofs.Common.{◌≡◌, take}
use Rattle.sci_ranges_find.specs.Widest.{whole_ports}
use Rattle.sci_ranges_find.proofs.widest.whole_ports.Given as goal

abbrev pub invariant-loop-k : goal.invariant-loop-k
invariant-loop-k l = l.all.items ≡ whole_ports (take l.k l.ports)
