use Rattle.sci_flat.specs.Origins.{AreOrigins}
use Rattle.sci_flat.proofs.reach.origins.find_origins.Given as goal

abbrev pub invariant-loop-target : goal.invariant-loop-target
invariant-loop-target l = AreOrigins l.steps l.sources l.ports l.origins.items
