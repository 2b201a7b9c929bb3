use Rattle.std.proofs.Common.{◌≡◌, ◌++◌, drop}
use Rattle.sci_save.specs.Bounds.{port_bounds}
use Rattle.sci_save.proofs.bounds.held_bounds.Given as goal

abbrev pub invariant-loop-at : goal.invariant-loop-at
invariant-loop-at l = l.bounds.items ++ port_bounds (drop l.at l.spec.outs) ≡ port_bounds l.spec.outs
