use Rattle.std.proofs.Common.{◌<◌, length, get_or, refl, arith}
use Rattle.std.proofs.lemmas.List.Elements.{All-contains}
use Rattle.sci_sched.proofs.Deep.{member_in, needs_below, next_low, depths_more, depths_all}
use Rattle.sci_sched.proofs.depth.set_depths.Goals as goal

pub needs_of-requires-clause-member : goal.needs_of-requires-clause-member
needs_of-requires-clause-member c = member_in c.args.table.now c.args.order.now c.loop-block.block-index c.requires.order c.loop-block-test.true

pub deepest-depth-requires : goal.deepest-depth-requires
deepest-depth-requires c k d h =
    let b = needs_below c.args.table.now (length c.args.depths.now) (get_or c.args.order.now c.loop-block.block-index 0) c.needs_of.result.now c.requires.table c.requires.below c.needs_of.ensures.exactly k d h in
    omega (arith, b, c.loop-block.auto.depths)

pub overflow_add-depth : goal.overflow_add-depth
overflow_add-depth c =
    let low = next_low c.args.table.now c.args.order.now c.loop-block.depths c.loop-block.block-index c.loop-block.invariant c.loop-block-test.true (get_or c.args.order.now c.loop-block.block-index 0) c.deepest-depth.result c.needs_of.result.now
    c.requires.order refl c.needs_of.ensures.exactly c.deepest-depth.ensures in
    omega (arith, low, c.loop-block-test.true)

pub bounds-depths-block : goal.bounds-depths-block
bounds-depths-block c =
    let inside = All-contains (λ b. b < length c.args.depths.now) c.args.table.now.members.items _ c.requires.below
    (member_in c.args.table.now c.args.order.now c.loop-block.block-index c.requires.order c.loop-block-test.true) in
    omega (arith, inside, c.loop-block.auto.depths)

pub loop-block-preserved : goal.loop-block-preserved
loop-block-preserved c =
    let inside = All-contains (λ b. b < length c.args.depths.now) c.args.table.now.members.items _ c.requires.below
    (member_in c.args.table.now c.args.order.now c.loop-block.block-index c.requires.order c.loop-block-test.true) in
    depths_more c.args.table.now c.args.order.now c.loop-block.depths c.needs_of.result.now c.loop-block.block-index (get_or c.args.order.now c.loop-block.block-index 0) c.deepest-depth.result
    c.requires.order c.loop-block.invariant c.loop-block-test.true refl (omega (arith, inside, c.loop-block.auto.depths)) c.needs_of.ensures.exactly c.deepest-depth.ensures

pub returns : goal.returns
returns c = depths_all c.args.table.now c.args.order.now c.loop-block.depths c.loop-block.block-index c.requires.order c.loop-block.invariant c.loop-block-test.false
