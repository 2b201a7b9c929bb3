use Rattle.std.proofs.Common.{arith, ◌+◌}
use Rattle.std.proofs.lemmas.Grind.{common_steps}
use Rattle.sci_bulk.specs.Bulk.{data_blocks}
use Rattle.sci_bulk.proofs.Drawing.{one_more}
use Rattle.sci_bulk.proofs.data_block.data_blocks.Goals as goal

pub loop-i-preserved : goal.loop-i-preserved
loop-i-preserved c =
    let made = one_more c.loop-i.blocks.items (data_blocks c.args.seed c.args.size) (c.args.size + 1) c.loop-i.i c.loop-i.x (omega arith) c.loop-i.invariant.0 in
    (cc (made, c.in_ok-push-2.ensures.items, c.data_block.ensures, c.behind_block-x.ensures), grind (arith, common_steps))
