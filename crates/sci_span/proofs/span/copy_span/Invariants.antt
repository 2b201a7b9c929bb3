use Rattle.std.proofs.Common.{◌≡◌, drop}
use Rattle.std.proofs.Math.Seq.{paste}
use Rattle.sci_span.proofs.span.copy_span.Given as goal

abbrev pub invariant-loop-e : goal.invariant-loop-e
invariant-loop-e l = l.ins ≡ paste l.initial.ins l.at (drop l.span.start l.values) l.e
