use Rattle.std.proofs.Common.{◌≡◌, ◌+◌, drop}
use Rattle.sci_infer.specs.Broken.{specs_large}
use Rattle.sci_infer.proofs.broken.specs_large.Given as goal

abbrev pub invariant-loop-at : goal.invariant-loop-at
invariant-loop-at l = specs_large (l.at + 1) (drop l.at l.specs) ≡ specs_large 1 l.specs
