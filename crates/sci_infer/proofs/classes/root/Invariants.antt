use Rattle.std.proofs.Common.{◌<◌, length}
use Rattle.sci_infer.specs.Classes.{Tied, Points, IsRenewed}
use Rattle.sci_infer.proofs.classes.root.Given as goal

abbrev pub invariant-loop-at : goal.invariant-loop-at
invariant-loop-at l = record {
  renewed : IsRenewed l.initial.parents.items l.parents.items;
  within : l.at < length l.parents.items;
  leads : Tied (Points l.parents.items) l.from l.at;
}

abbrev pub decreases-loop-at : goal.decreases-loop-at
decreases-loop-at l = l.at
