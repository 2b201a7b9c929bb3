use Rattle.sci_infer.specs.Ties.{WiresTied}
use Rattle.sci_infer.proofs.ties.tie_wires.Given as goal

abbrev pub invariant-loop-at : goal.invariant-loop-at
invariant-loop-at l = WiresTied l.flat l.at l.initial.ties.items l.ties.items
