use Rattle.std.proofs.Common.{arith, ap, ◌∙◌, sym, ◌-◌, ◌+◌, length}
use Rattle.std.proofs.lemmas.Bool.{eqb-false}
use Rattle.c_ast.specs.View.{statements_of}
use Rattle.c_ast.specs.Spelling.{block_rows}
use Rattle.c_ast.proofs.Sizes.{sizes_of, choice_sizes, loop_sizes, item_size}
use Rattle.c_ast.proofs.Fits.{if_fits, for_fits, item_fits, list_room}
use Rattle.c_print.proofs.Steps.{towards_start}
use Rattle.c_print.proofs.Rows.{if_goes, for_goes, else_goes, statement_goes}
use Rattle.c_print.proofs.printer.Printer.+print.Goals as goal

pub block-statement-requires : goal.block-statement-requires
block-statement-requires g t c κs within =
    let less = item_size c.args.list.now c.loop-s.s-index c.s-item.result c.loop-s-test.true c.s-item.is in
    (omega arith, (within, item_fits _ c.args.list.now c.loop-s.s-index c.s-item.result c.loop-s-test.true c.s-item.is c.requires))

pub block-loop-s-init : goal.block-loop-s-init
block-loop-s-init g t c = towards_start g.S.Sink.state c.args.self.now.out c.args.self.now.failed (block_rows c.args.depth (statements_of c.args.list.now))

pub block-loop-s-preserved : goal.block-loop-s-preserved
block-loop-s-preserved g t c = statement_goes c.args.depth c.args.list.now c.loop-s.s-index c.s-item.result c.loop-s-test.true c.s-item.is c.loop-s.invariant c.statement.ensures

pub statement-block-requires : goal.statement-block-requires
statement-block-requires g t c κs within =
    let all = choice_sizes c.args.s.now c.in-If.e c.in-If.yes c.in-If.no c.in-If.is in
    let here = ap sizes_of c.deref.ensures.value in
    let fits = if_fits (17 - c.args.depth) (17 - (c.args.depth + 1)) c.args.s.now c.in-If.e c.in-If.yes c.in-If.no c.in-If.is (omega arith) c.requires in
    (omega arith, (within, rw c.deref.ensures.value fits.0))

pub statement-otherwise-requires : goal.statement-otherwise-requires
statement-otherwise-requires g t c κs within =
    let all = choice_sizes c.args.s.now c.in-If.e c.in-If.yes c.in-If.no c.in-If.is in
    let here = ap sizes_of c.deref-in-If.ensures.value in
    let fits = if_fits (17 - c.args.depth) (16 - c.args.depth) c.args.s.now c.in-If.e c.in-If.yes c.in-If.no c.in-If.is (omega arith) c.requires in
    (omega arith, (within, rw c.deref-in-If.ensures.value fits.1))

pub statement-block-requires-in-For : goal.statement-block-requires-in-For
statement-block-requires-in-For g t c κs within =
    let all = loop_sizes c.args.s.now c.in-For.counter c.in-For.bound c.in-For.body c.in-For.is in
    let here = ap sizes_of c.deref-in-For.ensures.value in
    let fits = for_fits (17 - c.args.depth) (17 - (c.args.depth + 1)) c.args.s.now c.in-For.counter c.in-For.bound c.in-For.body c.in-For.is (omega arith) c.requires in
    (omega arith, (within, rw c.deref-in-For.ensures.value fits))

pub statement-returns-in-If : goal.statement-returns-in-If
statement-returns-in-If g t c =
    if_goes c.args.depth c.args.s.now c.in-If.e c.in-If.yes c.in-If.no c.deref.result.now c.deref-in-If.result.now c.in-If.is c.deref.ensures.value c.deref-in-If.ensures.value c.if_row.ensures c.block.ensures c.otherwise.ensures

pub statement-returns-in-For : goal.statement-returns-in-For
statement-returns-in-For g t c =
    for_goes c.args.depth c.args.s.now c.in-For.counter c.in-For.bound c.in-For.body c.deref-in-For.result.now c.in-For.is c.deref-in-For.ensures.value c.for_row.ensures c.block-in-For.ensures c.close_row.ensures

pub otherwise-returns-else-is_empty : goal.otherwise-returns-else-is_empty
otherwise-returns-else-is_empty g t c =
    let some = eqb-false (length c.args.list.now) 0 (sym c.is_empty.ensures ∙ c.if-is_empty.false) in
    else_goes c.args.depth c.args.list.now (omega (arith, some)) c.else_row.ensures c.block.ensures c.close_row-else-is_empty.ensures

pub otherwise-overflow_add-depth : goal.otherwise-overflow_add-depth
otherwise-overflow_add-depth g t c =
    let some = eqb-false (length c.args.list.now) 0 (sym c.is_empty.ensures ∙ c.if-is_empty.false) in
    let room = list_room (16 - c.args.depth) c.args.list.now (omega (arith, some)) c.requires in
    omega arith
