use Rattle.sci_ranges_base.specs.Wide.{numbers}
use Rattle.sci_ranges_kinds.proofs.Looping.{term, IsSumSoFar}
use Rattle.sci_ranges_kinds.proofs.sums.exact_sums.Given as goal

abbrev pub invariant-loop-k : goal.invariant-loop-k
invariant-loop-k l = IsSumSoFar (term l.spec l.ins l.e) l.k (numbers l.sum)
