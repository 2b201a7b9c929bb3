use Rattle.std.proofs.Common.{◌+◌, ◌<◌, length, refl, arith}
use Rattle.sci_blocks.specs.declared.class.PortClass.TheVariants.{Input}
use Rattle.sci_flat.specs.Lists.{plain}
use Rattle.sci_flat.specs.PortNumbers.{start, count}
use Rattle.sci_flat.specs.Wired.{input_list}
use Rattle.sci_flat.proofs.Filling.{wires_more, first_unfed, list_here, list_empty, list_starts, first_has, first_low}
use Rattle.sci_flat.proofs.rows.wire_row.Goals as goal

pub returns-then-is_empty-clause-unfed : goal.returns-then-is_empty-clause-unfed
returns-then-is_empty-clause-unfed c =
    let there : c.loop-k.k < count c.args.seat Input = omega (arith, c.count-k-end.ensures) in
    let is = list_here c.args.lists.now (start c.args.seat Input + c.loop-k.k) (c.first_of-first.result + c.from.result) c.index-lists-first.result (omega (arith, c.first_of-first.ensures, c.from.ensures)) (c.requires.inside c.loop-k.k there) c.index-lists-first.is in
    first_unfed c.args.feeds.now (plain c.args.lists.now) c.args.seat c.loop-k.k c.loop-k.row.items there
    (list_empty (input_list (plain c.args.lists.now) c.args.seat c.loop-k.k) c.index-lists-first.result c.is_empty.result is c.is_empty.ensures c.if-is_empty.true) c.loop-k.invariant

pub bounds-feeds-index : goal.bounds-feeds-index
bounds-feeds-index c =
    let there : c.loop-k.k < count c.args.seat Input = omega (arith, c.count-k-end.ensures) in
    let is = list_here c.args.lists.now (start c.args.seat Input + c.loop-k.k) (c.first_of-first.result + c.from.result) c.index-lists-first.result (omega (arith, c.first_of-first.ensures, c.from.ensures)) (c.requires.inside c.loop-k.k there) c.index-lists-first.is in
    first_low (length c.args.feeds.now) (input_list (plain c.args.lists.now) c.args.seat c.loop-k.k) c.index-lists-first.result c.index.result.now is (list_starts c.index-lists-first.result c.is_empty.result c.is_empty.ensures c.if-is_empty.false) c.index.ensures (c.requires.there c.loop-k.k there)

pub loop-k-preserved : goal.loop-k-preserved
loop-k-preserved c =
    let there : c.loop-k.k < count c.args.seat Input = omega (arith, c.count-k-end.ensures) in
    let is = list_here c.args.lists.now (start c.args.seat Input + c.loop-k.k) (c.first_of-first.result + c.from.result) c.index-lists-first.result (omega (arith, c.first_of-first.ensures, c.from.ensures)) (c.requires.inside c.loop-k.k there) c.index-lists-first.is in
    wires_more c.args.feeds.now (plain c.args.lists.now) c.args.seat c.loop-k.k c.index.result.now _ c.loop-k.row.items c.push.new.self.items
    (first_has (input_list (plain c.args.lists.now) c.args.seat c.loop-k.k) c.index-lists-first.result c.index.result.now is (list_starts c.index-lists-first.result c.is_empty.result c.is_empty.ensures c.if-is_empty.false) c.index.ensures)
    refl c.in_ok-push.ensures.items c.loop-k.invariant

pub offset_bounds-feeds-index : goal.offset_bounds-feeds-index
offset_bounds-feeds-index c =
    let there : c.loop-k.k < count c.args.seat Input = omega (arith, c.count-k-end.ensures) in
    let is = list_here c.args.lists.now (start c.args.seat Input + c.loop-k.k) (c.first_of-first.result + c.from.result) c.index-lists-first.result (omega (arith, c.first_of-first.ensures, c.from.ensures)) (c.requires.inside c.loop-k.k there) c.index-lists-first.is in
    let low = first_low (length c.args.feeds.now) (input_list (plain c.args.lists.now) c.args.seat c.loop-k.k) c.index-lists-first.result c.index.result.now is (list_starts c.index-lists-first.result c.is_empty.result c.is_empty.ensures c.if-is_empty.false) c.index.ensures (c.requires.there c.loop-k.k there) in
    omega (arith, low)
