use Rattle.std.proofs.Common.{◌≡◌, drop}
use Rattle.sci_forms.specs.Ports.{type_at}
use Rattle.sci_ranges_kinds.proofs.rules.type_at.Given as goal

abbrev pub invariant-loop-k : goal.invariant-loop-k
invariant-loop-k l = type_at l.fn.ports l.fn.e ≡ type_at (drop l.k l.fn.ports) l.left
