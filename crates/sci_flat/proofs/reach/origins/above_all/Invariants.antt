use Rattle.sci_flat.specs.Origins.{AreAbove}
use Rattle.sci_flat.proofs.reach.origins.above_all.Given as goal

abbrev pub invariant-loop-port : goal.invariant-loop-port
invariant-loop-port l = AreAbove l.befores l.port l.origins.items
