use Rattle.std.proofs.Common.{arith}
use Rattle.sci_sched.specs.Outlines.{outline_size}
use Rattle.sci_sched.proofs.Counts.{part_fits, part_more, part_all}
use Rattle.sci_sched.proofs.sizes.total.Goals as goal

pub overflow_add-total : goal.overflow_add-total
overflow_add-total c =
    let fits = part_fits outline_size c.args.outlines.now c.loop-outline.outline-index c.loop-outline.total _ c.outline-item.result c.loop-outline-test.true c.outline-item.is c.loop-outline.invariant c.requires in
    let long = c.outline-item.result.blocks.ok.0 in
    omega (arith, fits, long, c.len.ensures)

pub loop-outline-preserved : goal.loop-outline-preserved
loop-outline-preserved c =
    let more = part_more outline_size c.args.outlines.now c.loop-outline.outline-index c.loop-outline.total c.outline-item.result c.loop-outline-test.true c.outline-item.is c.loop-outline.invariant in
    let long = c.outline-item.result.blocks.ok.0 in
    omega (arith, more, long, c.len.ensures)

pub returns : goal.returns
returns c = part_all outline_size c.args.outlines.now c.loop-outline.outline-index c.loop-outline.total c.loop-outline-test.false c.loop-outline.invariant
