use Rattle.sci_flat.proofs.Leading.{Listed}
use Rattle.sci_flat.proofs.reach.successors.successors_of.Given as goal

abbrev pub invariant-loop-i : goal.invariant-loop-i
invariant-loop-i l = Listed l.steps l.ports l.latest.items l.earlier.items l.i
