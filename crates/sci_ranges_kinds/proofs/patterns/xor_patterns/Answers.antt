use Rattle.std.proofs.Common.{arith}
use Rattle.sci_base.proofs.FitLemmas.{span_at_most}
use Rattle.sci_ranges_kinds.proofs.Patterning.{xor_small}
use Rattle.sci_ranges_kinds.proofs.patterns.xor_patterns.Goals as goal

pub overflow_add-size : goal.overflow_add-size
overflow_add-size c = omega (arith, c.max-open.ensures, c.open_bits.ensures.few, c.open_bits-2.ensures.few, span_at_most c.args.ty)

pub overflow_add-greatest : goal.overflow_add-greatest
overflow_add-greatest c =
    let small = xor_small c.args.ty c.lowest.result c.lowest-2.result c.lowest.ensures.bits c.lowest-2.ensures.bits in
    omega (arith, small, c.max-open.ensures, c.open_bits.ensures.few, c.open_bits-2.ensures.few, span_at_most c.args.ty)
