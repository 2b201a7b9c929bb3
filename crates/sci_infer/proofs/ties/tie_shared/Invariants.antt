use Rattle.sci_infer.specs.Ties.{SharedTied}
use Rattle.sci_infer.proofs.ties.tie_shared.Given as goal

abbrev pub invariant-loop-at : goal.invariant-loop-at
invariant-loop-at l = SharedTied l.layout.parts.items l.at l.initial.ties.items l.ties.items
