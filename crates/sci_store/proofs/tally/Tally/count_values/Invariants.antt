use Rattle.std.proofs.Common.{◌≡◌, drop}
use Rattle.sci_store.specs.Tally.{sum_with}
use Rattle.sci_store.proofs.tally.Tally.count_values.Given as goal

-- with the values that are still to come it is the sum of all
abbrev pub invariant-loop-value : goal.invariant-loop-value
invariant-loop-value l = sum_with l.sum (drop l.value-index l.values) ≡ sum_with l.initial.sum l.values
