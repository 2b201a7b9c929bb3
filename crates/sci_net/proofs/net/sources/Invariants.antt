use Rattle.std.proofs.Common.{◌≡◌, ◌+◌, ◌++◌, ◌∷◌, drop}
use Rattle.sci_net.specs.Sources.{sources_from}
use Rattle.sci_net.specs.declared.Source.TheVariants.{Start}
use Rattle.sci_net.proofs.net.sources.Given as goal

abbrev pub invariant-loop-at : goal.invariant-loop-at
invariant-loop-at l = l.sources.items ++ sources_from (l.at + 1) (drop l.at l.specs) ≡ Start ∷ sources_from 1 l.specs
