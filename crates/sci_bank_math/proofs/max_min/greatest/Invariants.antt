use Rattle.std.proofs.Common.{◌≡◌, ◌-◌}
use Rattle.sci_forms.specs.Words.{size}
use Rattle.sci_kinds.specs.Table.{greatest_to, input}
use Rattle.sci_bank_math.proofs.max_min.greatest.Given as goal

abbrev pub invariant-loop-k : goal.invariant-loop-k
invariant-loop-k l = l.greatest ≡ greatest_to (λ k. input (size l.spec) l.ins k l.at) (l.k - 1)
