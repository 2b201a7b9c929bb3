use Rattle.std.proofs.Common.{length, ◌-◌}
use Rattle.sci_loop.proofs.Steps.{none_free, all_in_order, rest_within}
use Rattle.sci_loop.proofs.listing.order_or_loop.Goals as goal

pub returns-in-None : goal.returns-in-None
returns-in-None c = (
  none_free c.args.table.now c.all.new.self c.in_ok-all.field-0 c.in-None.is c.in_ok-all.ensures.search c.in_ok-all.ensures.done,
  all_in_order c.args.table.now c.all.new.self c.in_ok-all.field-0 c.deref-in-None.result.now c.deref-in-None-2.result.now c.in_ok-order-in-None.order.items c.in-None.is c.requires c.in_ok-all.ensures.order
      c.in_ok-all.ensures.done c.deref-in-None.ensures.value c.deref-in-None-2.ensures.value c.in_ok-order-in-None.ensures,
)

pub listed-requires-clause-within : goal.listed-requires-clause-within
listed-requires-clause-within c =
    rest_within c.args.table.now c.all.new.self c.deref-in-Some.result.now (length c.deref-in-Some.result.now - c.in-Some.depth) c.in-Some.depth c.deref-in-Some.ensures.value c.in_ok-all.ensures.search
