use Rattle.sci_infer.specs.Values.{AreOne}
use Rattle.sci_infer.proofs.values.first_split.Given as goal

abbrev pub invariant-loop-i : goal.invariant-loop-i
invariant-loop-i l = AreOne l.labels l.spans l.i
