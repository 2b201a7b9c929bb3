use Rattle.std.proofs.Common.{◌≤◌, length, get_or, subst, sym}
use Rattle.sci_sched.specs.Answer.{loop_violation}
use Rattle.sci_base.specs.Stops.{IsViolation}
use Rattle.sci_sched.proofs.Outlining.{sorted_loop, sorted_order, loop_source, loop_block, loop_told, below_size, ordered_are, depths_source}
use Rattle.sci_sched.proofs.outline.ranked.Goals as goal

pub loop_stop-requires-clause-least : goal.loop_stop-requires-clause-least
loop_stop-requires-clause-least c =
    let t = c.args.table.now in let n = c.args.net.now in let s = c.args.source in
    let h = sorted_loop t c.in_ok-found.field-0 c.in-Loop.found c.in-Loop.is c.in_ok-found.ensures in
    let b = loop_block n s c.in-Loop.found.items (loop_source n s t c.requires.table.needs c.in-Loop.found.items h.0) in
    subst (λ xs. 1 ≤ get_or xs 0 0) (sym c.deref.ensures.value) b.least

pub loop_stop-requires-clause-most : goal.loop_stop-requires-clause-most
loop_stop-requires-clause-most c =
    let t = c.args.table.now in let n = c.args.net.now in let s = c.args.source in
    let h = sorted_loop t c.in_ok-found.field-0 c.in-Loop.found c.in-Loop.is c.in_ok-found.ensures in
    let b = loop_block n s c.in-Loop.found.items (loop_source n s t c.requires.table.needs c.in-Loop.found.items h.0) in
    subst (λ xs. get_or xs 0 0 ≤ length n.specs) (sym c.deref.ensures.value) b.most

pub in_order-requires-clause-below : goal.in_order-requires-clause-below
in_order-requires-clause-below c =
    below_size c.args.table.now c.args.net.now c.args.source (length c.args.depths.now) c.requires.table.members c.well_formed-2.ensures.wired c.requires.depths

pub returns-in-Loop-clause-stop : goal.returns-in-Loop-clause-stop
returns-in-Loop-clause-stop c =
    let t = c.args.table.now in let n = c.args.net.now in let s = c.args.source in
    let h = sorted_loop t c.in_ok-found.field-0 c.in-Loop.found c.in-Loop.is c.in_ok-found.ensures in
    loop_told n s c.in-Loop.found.items c.loop_stop.result (loop_source n s t c.requires.table.needs c.in-Loop.found.items h.0) h.1
    (subst (λ xs. IsViolation (loop_violation n s xs) c.loop_stop.result) c.deref.ensures.value c.loop_stop.ensures)

pub returns-in_ok-ordered-in-Order-clause-ok : goal.returns-in_ok-ordered-in-Order-clause-ok
returns-in_ok-ordered-in-Order-clause-ok c =
    let t = c.args.table.now in
    let h = sorted_order t c.in_ok-found.field-0 c.in-Order.order c.in-Order.is c.in_ok-found.ensures in
    let o = c.in_ok-ordered-in-Order in
    ordered_are c.args.net.now c.args.source t o.ordered.blocks.items c.requires.table h.0 o.ensures.exactly o.ensures.ordered

pub returns-in_ok-ordered-in-Order-clause-depths : goal.returns-in_ok-ordered-in-Order-clause-depths
returns-in_ok-ordered-in-Order-clause-depths c =
    let o = c.in_ok-ordered-in-Order in
    depths_source c.args.net.now c.args.source c.args.table.now o.ordered.blocks.items o.ordered.depths.items c.requires.table o.ensures.depths
