use Rattle.std.proofs.Common.{arith, ◌≡◌, ◌^◌, ℕ, length, ap}
use Rattle.sci_cgen_blocks.proofs.KindBounds.{few_ins, few_tested, few_rows}
use Rattle.sci_cgen_blocks.proofs.table_texts.table.Goals as goal

pub inputs-requires : goal.inputs-requires
inputs-requires c = omega (arith, few_ins c.args.s.now c.requires.is_typed)

pub decided-requires-clause-ports : goal.decided-requires-clause-ports
decided-requires-clause-ports c = omega (arith, few_tested c.args.s.now c.requires.is_typed c.requires.kind)

pub decided-requires-clause-rows : goal.decided-requires-clause-rows
decided-requires-clause-rows c =
    let same : 2 ^ c.inputs.result ≡ 2 ^ length c.args.s.now.ins = ap (λ (k : ℕ). 2 ^ k) c.inputs.ensures in
    omega (arith, few_rows c.args.s.now c.requires.is_typed c.requires.kind)
