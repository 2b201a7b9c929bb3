use Rattle.sci_infer.specs.Classes.{AreFlat, IsRenewed}
use Rattle.sci_infer.proofs.classes.flatten.Given as goal

abbrev pub invariant-loop-i : goal.invariant-loop-i
invariant-loop-i l = record { renewed : IsRenewed l.initial.parents.items l.parents.items; flat : AreFlat l.parents.items l.i }
