use Rattle.std.proofs.Common.{arith}
use Rattle.std.proofs.lemmas.Nat.{mul-le}
use Rattle.sci_ranges_kinds.proofs.truths.row_truth.Goals as goal

pub overflow_mul-place : goal.overflow_mul-place
overflow_mul-place c = omega (arith, mul-le c.args.row c.len.result 256 8 (omega arith) (omega (arith, c.len.ensures.value, c.requires.outs)))

pub overflow_add-place : goal.overflow_add-place
overflow_add-place c = omega (
  arith,
  mul-le c.args.row c.len.result 256 8 (omega arith) (omega (arith, c.len.ensures.value, c.requires.outs)),
  c.requires.element,
  c.requires.outs,
)
