use Rattle.sci_store.proofs.Joining.{no_rank}
use Rattle.sci_store.proofs.Listing.{call_next}
use Rattle.sci_store.proofs.row.calls.Goals as goal

pub loop-rank-preserved : goal.loop-rank-preserved
loop-rank-preserved c depth sorted ranks at =
    call_next c.args.frame.now c.args.entries.now c.args.order.now c.loop-rank.rank-index no_rank c.index-entries-rank.result c.seat.result c.loop-rank.calls.items c.push.new.self.items
    c.loop-rank-test.true c.seat.ensures c.loop-rank.invariant c.in_ok-push.ensures.items depth sorted ranks at
