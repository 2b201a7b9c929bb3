use Rattle.std.proofs.Common.{◌≡◌}
use Rattle.sci_forms.specs.Words.{size}
use Rattle.sci_kinds.specs.Table.{count_to, input}
use Rattle.sci_bank_logic.proofs.logical_op.true_inputs.Given as goal

abbrev pub invariant-loop-k : goal.invariant-loop-k
invariant-loop-k l = l.count ≡ count_to (λ k. input (size l.spec) l.ins k l.at) l.k
