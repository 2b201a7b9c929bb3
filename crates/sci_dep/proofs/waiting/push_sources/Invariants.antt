use Rattle.sci_dep.specs.Building.{Puts, SuppliesBelow}
use Rattle.sci_dep.proofs.waiting.push_sources.Given as goal

abbrev pub invariant-loop-at : goal.invariant-loop-at
invariant-loop-at l = Puts (SuppliesBelow l.net l.block l.at) l.initial.blocks.items l.blocks.items
