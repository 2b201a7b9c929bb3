use Rattle.sci_ranges_base.specs.Wide.{numbers}
use Rattle.sci_ranges_kinds.proofs.Looping.{IsSumSoFar}
use Rattle.sci_ranges_choices.proofs.Sums.{sum_term}
use Rattle.sci_ranges_choices.proofs.taking.sum_of.Given as goal

abbrev pub invariant-loop-j : goal.invariant-loop-j
invariant-loop-j l = IsSumSoFar (sum_term l.net l.block l.first l.choice l.sum) l.j (numbers l.sums)
