use Rattle.std.proofs.Common.{◌∙◌, ◌<◌, List, length, get_or, ap, arith}
use Rattle.sci_diagram.specs.Count.{objects_in}
use Rattle.sci_diagram.specs.declared.diagram.Diagram.{out-Diagram}
use Rattle.sci_diagram.specs.declared.diagram.Obj.{Obj}
use Rattle.sci_blocks.proofs.Walks.{diagram_opens, listed_length, inside_short, object_within}
use Rattle.sci_goto.proofs.Walking.{placed_more, placed_end}
use Rattle.sci_goto.proofs.placed.+walk.Goals as goal

pub add_diagram-overflow_cast-i : goal.add_diagram-overflow_cast-i
add_diagram-overflow_cast-i t c =
    let os = (out-Diagram c.args.d.now).objs.items in
    let short : length os < 4294967296 = rw (← listed_length os, ← diagram_opens c.args.d.now) c.requires.short.0 in
    omega (arith, short, ap length c.deref-obj-items.ensures.value)

pub add_diagram-overflow_add-i : goal.add_diagram-overflow_add-i
add_diagram-overflow_add-i t c =
    let os = (out-Diagram c.args.d.now).objs.items in
    let short : length os < 4294967296 = rw (← listed_length os, ← diagram_opens c.args.d.now) c.requires.short.0 in
    omega (arith, short, ap length c.deref-obj-items.ensures.value)

pub add_diagram-add_object-requires : goal.add_diagram-add_object-requires
add_diagram-add_object-requires t c =
    let os = (out-Diagram c.args.d.now).objs.items in
    let is = c.obj-item.is ∙ ap (λ (xs : List Obj). get_or xs c.loop-i.i c.obj-item.result) c.deref-obj-items.ensures.value in
    let below : c.loop-i.i < length os = omega (arith, ap length c.deref-obj-items.ensures.value) in
    let within = object_within os c.loop-i.i c.obj-item.result below is in
    let opens = ap objects_in (diagram_opens c.args.d.now) in
    (omega (arith, within, opens), inside_short os c.loop-i.i c.obj-item.result below is (rw (diagram_opens c.args.d.now) at c.requires.short.1))

pub add_diagram-loop-i-preserved : goal.add_diagram-loop-i-preserved
add_diagram-loop-i-preserved t c =
    let os = (out-Diagram c.args.d.now).objs.items in
    let is = c.obj-item.is ∙ ap (λ (xs : List Obj). get_or xs c.loop-i.i c.obj-item.result) c.deref-obj-items.ensures.value in
    let below : c.loop-i.i < length os = omega (arith, ap length c.deref-obj-items.ensures.value) in
    placed_more c.args.at.now os c.loop-i.i c.obj-item.result below is _ _ _ c.in_ok-add_object.ensures c.loop-i.invariant

pub add_diagram-returns : goal.add_diagram-returns
add_diagram-returns t c =
    placed_end c.args.at.now (out-Diagram c.args.d.now).objs.items c.loop-i.i (omega (arith, ap length c.deref-obj-items.ensures.value)) _ _ c.loop-i.invariant
