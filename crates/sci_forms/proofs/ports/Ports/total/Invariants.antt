use Rattle.std.proofs.Common.{◌≡◌, ◌+◌, drop}
use Rattle.sci_forms.specs.Ports.{total}
use Rattle.sci_forms.proofs.ports.Ports.total.Given as goal

abbrev pub invariant-loop-port : goal.invariant-loop-port
invariant-loop-port l = l.count + total (drop l.port l.self) ≡ total l.self
