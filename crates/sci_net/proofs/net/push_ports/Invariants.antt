use Rattle.std.proofs.Common.{◌≡◌, ◌++◌}
use Rattle.sci_net.specs.Sources.{ports_to}
use Rattle.sci_net.proofs.net.push_ports.Given as goal

abbrev pub invariant-loop-port : goal.invariant-loop-port
invariant-loop-port l = l.sources.items ≡ l.initial.sources.items ++ ports_to l.block l.port
