use Rattle.sci_inherit.specs.Gather.{AreConstants}
use Rattle.sci_inherit.proofs.always.constants.Given as goal

abbrev pub invariant-loop-at : goal.invariant-loop-at
invariant-loop-at l = AreConstants l.net l.at l.constants.items
