use Rattle.std.proofs.Common.{arith, ap}
use Rattle.std.proofs.lemmas.Result.{on_ok_weaker}
use Rattle.c_ast.proofs.Sizes.{sizes_of, choice_sizes, loop_sizes, item_size}
use Rattle.c_rules.proofs.Listing.{if_listed, for_listed}
use Rattle.c_rules.proofs.events.+events.Goals as goal

pub block-statement-requires : goal.block-statement-requires
block-statement-requires t c =
    let less = item_size c.args.statements.now c.loop-s.s-index c.s-item.result c.loop-s-test.true c.s-item.is in omega arith

pub statement-block-requires : goal.statement-block-requires
statement-block-requires t c =
    let all = choice_sizes c.args.s.now c.in-If.e c.in-If.yes c.in-If.no c.in-If.is in
    let here = ap sizes_of c.deref.ensures.value in
    (omega arith, tt)

pub statement-block-requires-in-If : goal.statement-block-requires-in-If
statement-block-requires-in-If t c =
    let all = choice_sizes c.args.s.now c.in-If.e c.in-If.yes c.in-If.no c.in-If.is in
    let here = ap sizes_of c.deref-in-If.ensures.value in
    (omega arith, tt)

pub statement-block-requires-in-For : goal.statement-block-requires-in-For
statement-block-requires-in-For t c =
    let all = loop_sizes c.args.s.now c.in-For.counter c.in-For.bound c.in-For.body c.in-For.is in
    let here = ap sizes_of c.deref-in-For.ensures.value in
    (omega arith, tt)

pub statement-returns-in_ok-block-in-If-2 : goal.statement-returns-in_ok-block-in-If-2
statement-returns-in_ok-block-in-If-2 t c =
    on_ok_weaker c.add-in-If.result
    (if_listed _ _ _ _ _ _ c.args.s.now c.in-If.e c.in-If.yes c.in-If.no c.deref.result.now c.deref-in-If.result.now c.in-If.is c.deref.ensures.value c.deref-in-If.ensures.value c.in_ok-expr-in-If.ensures c.in_ok-add-in-If.ensures c.in_ok-block-in-If.ensures c.in_ok-block-in-If-2.ensures)
    c.add-in-If.ensures

pub statement-returns-in_ok-block-in-For : goal.statement-returns-in_ok-block-in-For
statement-returns-in_ok-block-in-For t c =
    on_ok_weaker c.add-in-For.result
    (for_listed _ _ _ _ c.args.s.now c.in-For.counter c.in-For.bound c.in-For.body c.deref-in-For.result.now c.in-For.is c.deref-in-For.ensures.value c.in_ok-turn-in-For.ensures c.in_ok-block-in-For.ensures)
    c.add-in-For.ensures
