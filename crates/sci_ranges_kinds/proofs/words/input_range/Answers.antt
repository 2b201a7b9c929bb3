use Rattle.std.proofs.Common.{◌∙◌, ◌+◌, ◌*◌, ap, arith}
use Rattle.std.proofs.lemmas.Nat.{mul-le}
use Rattle.sci_ranges_base.specs.Intervals.{range_at}
use Rattle.sci_ranges_kinds.proofs.words.input_range.Goals as goal

pub overflow_mul-place : goal.overflow_mul-place
overflow_mul-place c = omega (arith, mul-le c.args.k c.size-n.result 64 256 c.requires.few c.size-n.ensures.few)

pub overflow_add-place : goal.overflow_add-place
overflow_add-place c = omega (arith, mul-le c.args.k c.size-n.result 64 256 c.requires.few c.size-n.ensures.few, c.size-n.ensures.value, c.requires.element)

pub returns : goal.returns
returns c = c.range_at.ensures ∙ ap (λ n. range_at c.args.ins.now (c.args.k * n + c.args.e)) c.size-n.ensures.value
