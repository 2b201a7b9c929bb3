use Rattle.std.proofs.Common.{◌≡◌, ◌+◌, ◌*◌, ◌≤ℤ◌, neg_ℤ, ◌*ℤ◌, pos}
use Rattle.sci_kinds.specs.Table.{sum_to, input}
use Rattle.sci_forms.specs.Words.{param, size}
use Rattle.sci_bank_math.proofs.summation.signed_sum.Given as goal

abbrev pub invariant-loop-k : goal.invariant-loop-k
invariant-loop-k l =
    (l.sum ≡ sum_to (λ k. param l.spec (k + 1) *ℤ input (size l.spec) l.ins k l.at) l.k)
    × (neg_ℤ (pos (l.k * 4294967296)) ≤ℤ l.sum)
    × (l.sum ≤ℤ pos (l.k * 4294967296))
