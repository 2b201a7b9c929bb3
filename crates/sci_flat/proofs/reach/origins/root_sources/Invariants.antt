use Rattle.sci_flat.specs.Origins.{AreRooted}
use Rattle.sci_flat.proofs.reach.origins.root_sources.Given as goal

abbrev pub invariant-loop-source : goal.invariant-loop-source
invariant-loop-source l = AreRooted l.sources l.source-index l.fn.origins.items l.origins.items
