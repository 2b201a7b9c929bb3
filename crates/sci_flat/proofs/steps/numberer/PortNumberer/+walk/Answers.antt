use Rattle.std.proofs.Common.{◌∙◌, ◌<◌, length, get_or, ap, arith}
use Rattle.sci_diagram.specs.Objects.{Objects, listed, diagram_view}
use Rattle.sci_diagram.specs.declared.diagram.Diagram.{out-Diagram}
use Rattle.sci_diagram.specs.Count.{objects_in}
use Rattle.sci_flat.specs.PortNumbers.{no_seat}
use Rattle.sci_flat.specs.Numbers.{own_past}
use Rattle.sci_flat.proofs.Walking.{diagram_opens, objects_long, object_small, next_more, next_end, steps_more, steps_end, blocks_more, blocks_end, tags_more, tags_end}
use Rattle.sci_flat.proofs.Room.{inside_room, insides_least}
use Rattle.sci_flat.proofs.steps.numberer.PortNumberer.+walk.Goals as goal

pub objects-bounds-seats-i : goal.objects-bounds-seats-i
objects-bounds-seats-i t c =
    let os = (out-Diagram c.args.d.now).objs.items in
    let n = objects_long os in
    let e = ap (λ (x : Objects). length (listed x)) (diagram_opens c.args.d.now) in
    let l = ap length c.deref-obj-items.ensures.value in
    omega (arith, n, e, l, c.requires.long)

pub objects-object-requires : goal.objects-object-requires
objects-object-requires t c =
    let os = (out-Diagram c.args.d.now).objs.items in
    let n = objects_long os in
    let e = ap (λ (x : Objects). length (listed x)) (diagram_opens c.args.d.now) in
    let l = ap length c.deref-obj-items.ensures.value in
    let there : c.loop-i.i < length c.args.seats.now = omega (arith, n, e, l, c.requires.long) in
    let is = c.obj-item.is ∙ ap (λ xs. get_or xs c.loop-i.i c.obj-item.result) c.deref-obj-items.ensures.value in
    let small = object_small os c.loop-i.i c.obj-item.result (omega (arith, l)) is in
    let whole = ap objects_in (diagram_opens c.args.d.now) in
    let room = inside_room os c.loop-i.i c.obj-item.result (omega (arith, l)) is c.loop-i.self.next _ c.loop-i.invariant.next c.requires.room in
    (omega (arith, small, whole), (c.requires.outer, (c.requires.seats, (c.requires.seats c.loop-i.i (no_seat 0) there, room))))

pub objects-loop-i-preserved : goal.objects-loop-i-preserved
objects-loop-i-preserved t c =
    let os = (out-Diagram c.args.d.now).objs.items in
    let n = objects_long os in
    let e = ap (λ (x : Objects). length (listed x)) (diagram_opens c.args.d.now) in
    let l = ap length c.deref-obj-items.ensures.value in
    let there : c.loop-i.i < length c.args.seats.now = omega (arith, n, e, l, c.requires.long) in
    let inside : c.loop-i.i < length os = omega (arith, l) in
    let is = c.obj-item.is ∙ ap (λ xs. get_or xs c.loop-i.i c.obj-item.result) c.deref-obj-items.ensures.value in
    let r = c.in_ok-object.ensures in
    record {
      next = next_more os c.loop-i.i c.obj-item.result inside is c.loop-i.self.next c.object.new.self.next _ r.next c.loop-i.invariant.next;
      steps = steps_more c.args.seats.now c.args.outer c.args.seats.now (no_seat 0) os c.loop-i.i c.obj-item.result there inside is c.loop-i.self.next c.object.new.self.next c.loop-i.self.steps.items c.object.new.self.steps.items _ r.next r.steps c.loop-i.invariant.steps;
      blocks = blocks_more c.args.seats.now (no_seat 0) os c.loop-i.i c.obj-item.result there inside is c.loop-i.self.next c.object.new.self.next c.loop-i.self.blocks.items c.object.new.self.blocks.items _ r.next r.blocks c.loop-i.invariant.blocks;
      tags = tags_more c.args.seats.now (no_seat 0) os c.loop-i.i c.obj-item.result there inside is c.loop-i.self.next c.object.new.self.next c.loop-i.self.tags.items c.object.new.self.tags.items _ r.next r.tags c.loop-i.invariant.tags;
    }

pub objects-returns-clause-next : goal.objects-returns-clause-next
objects-returns-clause-next t c =
    let l = ap length c.deref-obj-items.ensures.value in
    next_end (out-Diagram c.args.d.now).objs.items c.loop-i.i c.loop-i.self.next _ (omega (arith, l)) c.loop-i.invariant.next

pub objects-returns-clause-steps : goal.objects-returns-clause-steps
objects-returns-clause-steps t c =
    let l = ap length c.deref-obj-items.ensures.value in
    steps_end c.args.seats.now c.args.outer _ (out-Diagram c.args.d.now).objs.items c.loop-i.i c.loop-i.self.next c.loop-i.self.steps.items _ (omega (arith, l)) c.loop-i.invariant.steps

pub objects-returns-clause-blocks : goal.objects-returns-clause-blocks
objects-returns-clause-blocks t c =
    let l = ap length c.deref-obj-items.ensures.value in
    blocks_end _ (out-Diagram c.args.d.now).objs.items c.loop-i.i c.loop-i.self.next c.loop-i.self.blocks.items _ (omega (arith, l)) c.loop-i.invariant.blocks

pub objects-returns-clause-tags : goal.objects-returns-clause-tags
objects-returns-clause-tags t c =
    let l = ap length c.deref-obj-items.ensures.value in
    tags_end _ (out-Diagram c.args.d.now).objs.items c.loop-i.i c.loop-i.self.next c.loop-i.self.tags.items _ (omega (arith, l)) c.loop-i.invariant.tags

pub diagram-seats-requires : goal.diagram-seats-requires
diagram-seats-requires t c =
    let v = diagram_view c.args.d.now in
    let least = insides_least (own_past c.args.self.now.next v) v in
    omega (arith, least, c.requires.room)
