use Rattle.std.proofs.Common.{rules, ◌∙◌, ◌<◌, List, length, get_or, ap, arith}
use Rattle.sci_diagram.specs.Count.{objects_in}
use Rattle.sci_diagram.specs.Objects.{diagram_view}
use Rattle.sci_diagram.specs.declared.diagram.Diagram.{out-Diagram}
use Rattle.sci_diagram.specs.declared.diagram.Obj.{Obj}
use Rattle.sci_blocks.proofs.Walks.{diagram_opens, listed_length, inside_short, object_within, none_linked, links_more, links_stop, links_end}
use Rattle.sci_blocks.proofs.link_walk.+wires.Goals as goal

pub links_in-overflow_cast-i : goal.links_in-overflow_cast-i
links_in-overflow_cast-i t c =
    let os = (out-Diagram c.args.d.now).objs.items in
    let short : length os < 4294967296 = rw (← listed_length os, ← diagram_opens c.args.d.now) c.requires.short.0 in
    omega (arith, short, ap length c.deref-obj-items.ensures.value)

pub links_in-overflow_add-i : goal.links_in-overflow_add-i
links_in-overflow_add-i t c =
    let os = (out-Diagram c.args.d.now).objs.items in
    let short : length os < 4294967296 = rw (← listed_length os, ← diagram_opens c.args.d.now) c.requires.short.0 in
    omega (arith, short, ap length c.deref-obj-items.ensures.value)

pub links_in-object_links-requires : goal.links_in-object_links-requires
links_in-object_links-requires t c =
    let os = (out-Diagram c.args.d.now).objs.items in
    let is = c.obj-item.is ∙ ap (λ (xs : List Obj). get_or xs c.loop-i.i c.obj-item.result) c.deref-obj-items.ensures.value in
    let below : c.loop-i.i < length os = omega (arith, ap length c.deref-obj-items.ensures.value) in
    let within = object_within os c.loop-i.i c.obj-item.result below is in
    let opens = ap objects_in (diagram_opens c.args.d.now) in
    (omega (arith, within, opens), inside_short os c.loop-i.i c.obj-item.result below is (rw (diagram_opens c.args.d.now) at c.requires.short.1))

pub links_in-loop-i-init : goal.links_in-loop-i-init
links_in-loop-i-init t c = none_linked c.args.at.now c.args.d.now c.new-fed.result c.new-fed.ensures

pub links_in-returns-in_err-object_links-clause-stop : goal.links_in-returns-in_err-object_links-clause-stop
links_in-returns-in_err-object_links-clause-stop t c =
    let os = (out-Diagram c.args.d.now).objs.items in
    let is = c.obj-item.is ∙ ap (λ (xs : List Obj). get_or xs c.loop-i.i c.obj-item.result) c.deref-obj-items.ensures.value in
    let below : c.loop-i.i < length os = omega (arith, ap length c.deref-obj-items.ensures.value) in
    let so = c.loop-i.invariant in
    let stops = links_stop c.args.at.now (diagram_view c.args.d.now) os c.loop-i.fed c.loop-i.i so below c.obj-item.result is c.as_slice.result.now (c.as_slice.ensures ∙ c.in_ok-here.ensures) c.in_err-object_links.field-0.0 (c.in_err-object_links.ensures.stop so.ends so.holds) in
    search (rules, stops)

pub links_in-loop-i-preserved : goal.links_in-loop-i-preserved
links_in-loop-i-preserved t c =
    let os = (out-Diagram c.args.d.now).objs.items in
    let is = c.obj-item.is ∙ ap (λ (xs : List Obj). get_or xs c.loop-i.i c.obj-item.result) c.deref-obj-items.ensures.value in
    let below : c.loop-i.i < length os = omega (arith, ap length c.deref-obj-items.ensures.value) in
    let so = c.loop-i.invariant in
    links_more c.args.at.now (diagram_view c.args.d.now) os c.loop-i.fed c.loop-i.i so below c.obj-item.result is c.as_slice.result.now (c.as_slice.ensures ∙ c.in_ok-here.ensures) c.object_links.new.fed (c.in_ok-object_links.ensures.ok so.ends so.holds) (c.in_ok-object_links.ensures.more so.ends so.holds)

pub links_in-returns-clause-ok : goal.links_in-returns-clause-ok
links_in-returns-clause-ok t c =
    links_end c.args.at.now (diagram_view c.args.d.now) (out-Diagram c.args.d.now).objs.items c.loop-i.fed c.loop-i.i (omega (arith, ap length c.deref-obj-items.ensures.value)) c.loop-i.invariant
