use Rattle.std.proofs.Common.{take}
use Rattle.sci_infer.specs.Classes.{IsAcross}
use Rattle.sci_infer.proofs.classes.join_all.Given as goal

abbrev pub invariant-loop-tie : goal.invariant-loop-tie
invariant-loop-tie l = IsAcross l.initial.parents.items l.parents.items (take l.tie-index l.ties)
