use Rattle.std.proofs.Common.{◌≡◌, ◌+◌, ◌*◌, ◌++◌, drop}
use Rattle.sci_infer.specs.Typed.{typed_ports}
use Rattle.sci_infer.proofs.typed.fill_ports.Given as goal

abbrev pub invariant-loop-port : goal.invariant-loop-port
invariant-loop-port l = l.items.items ++ typed_ports l.values (l.start + 3 * l.port) (drop l.port l.ports) ≡ typed_ports l.values l.start l.ports
