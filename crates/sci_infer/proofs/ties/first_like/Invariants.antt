use Rattle.sci_infer.specs.Ties.{BeginsAt}
use Rattle.sci_infer.proofs.ties.first_like.Given as goal

abbrev pub invariant-loop-k : goal.invariant-loop-k
invariant-loop-k l = BeginsAt l.parts l.k l.at
