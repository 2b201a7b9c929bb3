use Rattle.std.proofs.Common.{rules, ◌∙◌, ◌<◌, List, length, get_or, ap, arith}
use Rattle.sci_diagram.specs.Count.{objects_in}
use Rattle.sci_diagram.specs.declared.diagram.Diagram.{out-Diagram}
use Rattle.sci_diagram.specs.declared.diagram.Obj.{Obj}
use Rattle.sci_blocks.specs.Blocks.{object_parts}
use Rattle.sci_blocks.proofs.Walks.{diagram_opens, superblock_opens, listed_length, inside_short, object_within, parts_more, parts_stop, parts_end}
use Rattle.sci_blocks.proofs.walk.+parts.Goals as goal

pub add_parts-overflow_cast-i : goal.add_parts-overflow_cast-i
add_parts-overflow_cast-i t c =
    let os = (out-Diagram c.args.d.now).objs.items in
    let short : length os < 4294967296 = rw (← listed_length os, ← diagram_opens c.args.d.now) c.requires.short.0 in
    omega (arith, short, ap length c.deref-obj-items.ensures.value)

pub add_parts-overflow_add-i : goal.add_parts-overflow_add-i
add_parts-overflow_add-i t c =
    let os = (out-Diagram c.args.d.now).objs.items in
    let short : length os < 4294967296 = rw (← listed_length os, ← diagram_opens c.args.d.now) c.requires.short.0 in
    omega (arith, short, ap length c.deref-obj-items.ensures.value)

pub add_parts-add_object-requires : goal.add_parts-add_object-requires
add_parts-add_object-requires t c =
    let os = (out-Diagram c.args.d.now).objs.items in
    let is = c.obj-item.is ∙ ap (λ (xs : List Obj). get_or xs c.loop-i.i c.obj-item.result) c.deref-obj-items.ensures.value in
    let below : c.loop-i.i < length os = omega (arith, ap length c.deref-obj-items.ensures.value) in
    let within = object_within os c.loop-i.i c.obj-item.result below is in
    let opens = ap objects_in (diagram_opens c.args.d.now) in
    (omega (arith, within, opens), inside_short os c.loop-i.i c.obj-item.result below is (rw (diagram_opens c.args.d.now) at c.requires.short.1))

pub add_parts-returns-in_err-add_object-clause-stop : goal.add_parts-returns-in_err-add_object-clause-stop
add_parts-returns-in_err-add_object-clause-stop t c =
    let os = (out-Diagram c.args.d.now).objs.items in
    let is = c.obj-item.is ∙ ap (λ (xs : List Obj). get_or xs c.loop-i.i c.obj-item.result) c.deref-obj-items.ensures.value in
    let below : c.loop-i.i < length os = omega (arith, ap length c.deref-obj-items.ensures.value) in
    let stops = parts_stop c.args.at.now os c.loop-i.i below c.obj-item.result is c.as_slice.result.now (c.as_slice.ensures ∙ c.in_ok-here.ensures) _ _ _ c.in_err-add_object.field-0.0 c.in_err-add_object.ensures.stop c.loop-i.invariant in
    search (rules, stops)

pub add_parts-loop-i-preserved : goal.add_parts-loop-i-preserved
add_parts-loop-i-preserved t c =
    let os = (out-Diagram c.args.d.now).objs.items in
    let is = c.obj-item.is ∙ ap (λ (xs : List Obj). get_or xs c.loop-i.i c.obj-item.result) c.deref-obj-items.ensures.value in
    let below : c.loop-i.i < length os = omega (arith, ap length c.deref-obj-items.ensures.value) in
    parts_more c.args.at.now os c.loop-i.i below c.obj-item.result is c.as_slice.result.now (c.as_slice.ensures ∙ c.in_ok-here.ensures) _ _ _ c.in_ok-add_object.ensures.ok c.loop-i.invariant

pub add_parts-returns-clause-ok : goal.add_parts-returns-clause-ok
add_parts-returns-clause-ok t c =
    parts_end c.args.at.now (out-Diagram c.args.d.now).objs.items c.loop-i.i (omega (arith, ap length c.deref-obj-items.ensures.value)) _ _ c.loop-i.invariant

pub add_object-returns-in-Some-clause-stop : goal.add_object-returns-in-Some-clause-stop
unfolding object_parts
add_object-returns-in-Some-clause-stop t c =
    let view = superblock_opens c.args.obj.now c.in-Block.b c.in-Some.inner c.in-Block.is c.in-Some.is in
    rw (view, ← c.deref.ensures) c.add_superblock.ensures.stop
