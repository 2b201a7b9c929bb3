use Rattle.std.proofs.Common.{◌∙◌, ap, length, sym, arith, true≢false}
use Rattle.sci_net.specs.Parts.{rows_of}
use Rattle.sci_blocks.specs.declared.class.PortClass.TheVariants.{Input}
use Rattle.sci_flat.specs.Lists.{lists_of}
use Rattle.sci_flat.specs.PortNumbers.{count}
use Rattle.sci_flat.specs.Wired.{seat_of}
use Rattle.sci_flat.proofs.Filling.{wired_more}
use Rattle.sci_flat.proofs.Stopping.{row_wired, rows_push, breaks_unfed, breaks_taken}
use Rattle.sci_flat.proofs.wires.wires.Goals as goal

pub wire_row-requires-clause-inside : goal.wire_row-requires-clause-inside
wire_row-requires-clause-inside c = λ k h.
    let low = c.requires.inside c.loop-block.block k c.loop-block-test.true h in
    let l = ap length c.deref-in-loop-block.ensures.value in
    omega (arith, low, l)

pub returns-then-is_taken-clause-stop : goal.returns-then-is_taken-clause-stop
returns-then-is_taken-clause-stop c =
    let s = seat_of c.args.seats.now c.loop-block.block in
    breaks_taken c.args.feeding.now.feeds.items c.args.feeding.now.lists.items c.args.seats.now c.args.specs.now c.args.paths.now c.loop-block.block c.index-paths-block.result c.index-specs-block.result (rows_of c.loop-block.rows.items) c.in-Ok.row.items c.column_twice.result
    c.loop-block-test.true (omega (arith, c.requires.paths)) (omega (arith, c.requires.specs)) c.index-paths-block.is c.index-specs-block.is c.loop-block.invariant
    (row_wired c.args.feeding.now.feeds.items c.deref.result.now c.args.feeding.now.lists.items c.deref-in-loop-block.result.now s (count s Input) c.in-Ok.row.items c.deref.ensures.value c.deref-in-loop-block.ensures.value c.in-Ok.ensures.wires)
    (c.is_taken.ensures.0 c.if-is_taken.true) c.column_twice.ensures

pub returns-in-Err-Unfed-clause-stop : goal.returns-in-Err-Unfed-clause-stop
returns-in-Err-Unfed-clause-stop c =
    breaks_unfed c.args.feeding.now.feeds.items c.args.feeding.now.lists.items c.deref-in-loop-block.result.now c.args.seats.now c.args.specs.now c.args.paths.now c.loop-block.block c.in-Err-Unfed.k c.index-paths-block-in-Err-Unfed.result (rows_of c.loop-block.rows.items) c.no_source.result
    c.loop-block-test.true (omega (arith, c.requires.paths)) c.index-paths-block-in-Err-Unfed.is c.deref-in-loop-block.ensures.value c.loop-block.invariant
    (rw c.in-Err-Unfed.field-0-is at c.in-Err-Unfed.ensures.unfed) (rw c.in-Err-Unfed.k-is at c.no_source.ensures)

pub loop-block-preserved : goal.loop-block-preserved
loop-block-preserved c =
    let s = seat_of c.args.seats.now c.loop-block.block in
    wired_more c.args.feeding.now.feeds.items (lists_of c.args.feeding.now.lists) c.args.seats.now c.args.specs.now c.loop-block.block c.in-Ok.row.items (rows_of c.loop-block.rows.items) (rows_of c.push.new.self.items)
    (row_wired c.args.feeding.now.feeds.items c.deref.result.now c.args.feeding.now.lists.items c.deref-in-loop-block.result.now s (count s Input) c.in-Ok.row.items c.deref.ensures.value c.deref-in-loop-block.ensures.value c.in-Ok.ensures.wires)
    (λ t. true≢false (sym (c.is_taken.ensures.1 t) ∙ c.if-is_taken.false))
    (rows_push c.loop-block.rows.items c.push.new.self.items c.in-Ok.row c.in_ok-push-in-Ok.ensures.items) c.loop-block.invariant
