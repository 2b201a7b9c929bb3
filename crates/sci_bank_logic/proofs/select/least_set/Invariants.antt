use Rattle.std.proofs.Common.{◌≡◌, ◌+◌, ◌-◌}
use Rattle.sci_kinds.specs.Table.{least_set}
use Rattle.sci_bank_logic.proofs.select.least_set.Given as goal

abbrev pub invariant-loop-k : goal.invariant-loop-k
invariant-loop-k l = least_set l.fn.mask l.n ≡ l.k + least_set l.rest (l.n - l.k)
