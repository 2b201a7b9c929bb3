use Rattle.std.proofs.Common.{◌≡◌, ◌+◌, drop}
use Rattle.sci_infer.specs.Broken.{specs_broken}
use Rattle.sci_infer.proofs.broken.specs_broken.Given as goal

abbrev pub invariant-loop-at : goal.invariant-loop-at
invariant-loop-at l = specs_broken (l.at + 1) (drop l.at l.specs) ≡ specs_broken 1 l.specs
