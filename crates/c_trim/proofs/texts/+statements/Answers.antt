use Rattle.std.proofs.Common.{arith, ◌≤◌, length, ap}
use Rattle.c_ast.proofs.Sizes.{sizes_of, choice_sizes, loop_sizes, item_size}
use Rattle.c_trim.proofs.Marking.{if_marked, for_marked, block_more, block_done}
use Rattle.c_trim.proofs.texts.+statements.Goals as goal

pub block-statement-requires : goal.block-statement-requires
block-statement-requires t c =
    let less = item_size c.args.statements.now c.loop-s.s-index c.s-item.result c.loop-s-test.true c.s-item.is in (omega arith, tt)

pub block-loop-s-preserved : goal.block-loop-s-preserved
block-loop-s-preserved t c =
    block_more c.args.statements.now c.loop-s.s-index c.s-item.result _ _ _ c.loop-s-test.true c.s-item.is c.statement.ensures c.loop-s.invariant

pub block-returns : goal.block-returns
block-returns t c =
    let most : length c.args.statements.now ≤ c.loop-s.s-index = omega arith in block_done c.args.statements.now c.loop-s.s-index _ _ most c.loop-s.invariant

pub statement-block-requires : goal.statement-block-requires
statement-block-requires t c =
    let all = choice_sizes c.args.s.now c.in-If.e c.in-If.yes c.in-If.no c.in-If.is in
    let here = ap sizes_of c.deref.ensures.value in
    (omega arith, tt)

pub statement-block-requires-in-If : goal.statement-block-requires-in-If
statement-block-requires-in-If t c =
    let all = choice_sizes c.args.s.now c.in-If.e c.in-If.yes c.in-If.no c.in-If.is in
    let here = ap sizes_of c.deref-in-If.ensures.value in
    (omega arith, tt)

pub statement-block-requires-in-For : goal.statement-block-requires-in-For
statement-block-requires-in-For t c =
    let all = loop_sizes c.args.s.now c.in-For.counter c.in-For.end c.in-For.body c.in-For.is in
    let here = ap sizes_of c.deref-in-For.ensures.value in
    (omega arith, tt)

pub statement-returns-in-If : goal.statement-returns-in-If
statement-returns-in-If t c =
    if_marked c.args.s.now c.in-If.e c.in-If.yes c.in-If.no c.deref.result.now c.deref-in-If.result.now _ _ _ _ c.in-If.is c.deref.ensures.value
    c.deref-in-If.ensures.value c.expr-in-If.ensures c.block.ensures c.block-in-If.ensures

pub statement-returns-in-For : goal.statement-returns-in-For
statement-returns-in-For t c =
    for_marked c.args.s.now c.in-For.counter c.in-For.end c.in-For.body c.deref-in-For.result.now _ _ _ _ c.in-For.is c.deref-in-For.ensures.value
    c.note.ensures c.bound.ensures c.block-in-For.ensures
