use Rattle.std.proofs.Common.{◌≡◌, ◌+◌, drop}
use Rattle.sci_infer.specs.Broken.{outs_large}
use Rattle.sci_infer.proofs.broken.outs_large.Given as goal

abbrev pub invariant-loop-at : goal.invariant-loop-at
invariant-loop-at l = outs_large (l.at + 1) (drop l.at l.ports) ≡ outs_large 1 l.ports
