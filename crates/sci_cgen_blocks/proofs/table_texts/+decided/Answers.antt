use Rattle.std.proofs.Common.{arith}
use Rattle.sci_cgen_blocks.proofs.Tables.{two_halves}
use Rattle.sci_cgen_blocks.proofs.table_texts.+decided.Goals as goal

pub decided-requires : goal.decided-requires
decided-requires t c =
    let halves = two_halves c.args.n (omega arith) in
    (omega arith, (c.requires.is_typed, (c.requires.few, (c.requires.kind, (omega arith, omega (arith, halves, c.power-2.ensures.value))))))

pub decided-requires-2 : goal.decided-requires-2
decided-requires-2 t c =
    let halves = two_halves c.args.n (omega arith) in
    (omega arith, (c.requires.is_typed, (c.requires.few, (c.requires.kind, (omega arith, omega (arith, halves))))))
