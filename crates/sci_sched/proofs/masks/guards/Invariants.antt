use Rattle.sci_sched.specs.Guards.{GuardsTo}
use Rattle.sci_sched.proofs.masks.guards.Given as goal

abbrev pub invariant-loop-condition : goal.invariant-loop-condition
invariant-loop-condition l = GuardsTo l.net l.conditions l.branches l.block l.condition-index l.at l.guards.items
