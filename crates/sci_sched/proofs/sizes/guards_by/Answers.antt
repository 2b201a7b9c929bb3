use Rattle.std.proofs.Common.{◌∙◌, get_or, ap, arith}
use Rattle.std.specs.List.{sum_by}
use Rattle.std.proofs.lemmas.List.{take_all}
use Rattle.std.proofs.lemmas.List.Sums.{sum_by_more, sum_by_more_le}
use Rattle.sci_sched.proofs.sizes.guards_by.Goals as goal

pub overflow_add-count : goal.overflow_add-count
overflow_add-count c =
    let part = sum_by_more_le (λ b. get_or c.args.counts.now b 0) c.args.blocks.now c.loop-block.block-index 0 c.loop-block-test.true in
    omega (arith, part, c.requires.small, c.loop-block.invariant)

pub loop-block-preserved : goal.loop-block-preserved
loop-block-preserved c =
    let more = sum_by_more (λ b. get_or c.args.counts.now b 0) c.args.blocks.now c.loop-block.block-index 0 c.loop-block-test.true in
    omega (arith, more, c.loop-block.invariant)

pub returns : goal.returns
returns c = c.loop-block.invariant ∙ ap (λ bs. sum_by (λ b. get_or c.args.counts.now b 0) bs) (take_all c.loop-block.block-index c.args.blocks.now c.loop-block-test.false)
