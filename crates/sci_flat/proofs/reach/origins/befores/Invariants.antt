use Rattle.sci_flat.specs.Origins.{AreBefores}
use Rattle.sci_flat.proofs.reach.origins.befores.Given as goal

abbrev pub invariant-loop-step : goal.invariant-loop-step
invariant-loop-step l = AreBefores l.steps l.ports l.step-index l.befores.items
