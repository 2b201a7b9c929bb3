use Rattle.std.proofs.Common.{◌≡◌, ◌+◌, ◌++◌, drop}
use Rattle.sci_infer.specs.PortParts.{side_parts}
use Rattle.sci_infer.proofs.parts.push_side.Given as goal

abbrev pub invariant-loop-at : goal.invariant-loop-at
invariant-loop-at l = l.parts.items ++ side_parts l.block l.side (l.at + 1) (drop l.at l.ports) ≡ l.initial.parts.items ++ side_parts l.block l.side 1 l.ports
