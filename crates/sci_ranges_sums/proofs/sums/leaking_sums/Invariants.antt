use Rattle.sci_ranges_base.specs.Wide.{numbers}
use Rattle.sci_ranges_refined.specs.Sums.{leaking_term}
use Rattle.sci_ranges_kinds.proofs.Looping.{IsSumSoFar}
use Rattle.sci_ranges_sums.proofs.sums.leaking_sums.Given as goal

abbrev pub invariant-loop-k : goal.invariant-loop-k
invariant-loop-k l = IsSumSoFar (leaking_term l.spec l.leak.kept l.leak.lost l.leak.places l.ins l.e) l.k (numbers l.sum)
