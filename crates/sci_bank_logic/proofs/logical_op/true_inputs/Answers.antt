use Rattle.std.proofs.Common.{arith}
use Rattle.sci_forms.specs.Words.{size}
use Rattle.sci_kinds.specs.Table.{input}
use Rattle.sci_bank_logic.proofs.JoinLemmas.{count_most}
use Rattle.sci_bank_logic.proofs.logical_op.true_inputs.Goals as goal

pub overflow_add-count : goal.overflow_add-count
overflow_add-count c =
    let most = count_most (λ k. input (size c.args.spec.now) c.args.ins.now k c.args.at) c.loop-k.k in
    let is = c.loop-k.invariant in
    let few = c.digit-count.ensures.few in
    omega (arith, most, is, few)
