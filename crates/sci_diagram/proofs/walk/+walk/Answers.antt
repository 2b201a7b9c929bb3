use Rattle.std.proofs.Common.{◌≡◌, rules, arith, map, codes, pos, Ok, ap, sym, subst, ◌∙◌, ◌+◌, length, string_bytes}
use Rattle.std.specs.Prelude.{IfOk, IfErr}
use Rattle.sci_json.specs.View.{view, items_view}
use Rattle.serde_json.specs.Find.{get, as_str}
use Rattle.sci_json.specs.Field.{field}
use Rattle.sci_base.specs.Stops.{Stops}
use Rattle.sci_diagram.specs.Objects.{object_view, block_view}
use Rattle.sci_diagram.specs.Tree.{required, whole_object, modelled, read_block, read_object, diagram_at}
use Rattle.sci_diagram.specs.Weight.{weight, items_weight}
use Rattle.sci_diagram.proofs.Items.{taken, none_left}
use Rattle.sci_base.proofs.Stopping.{stops_then, stops_violation}
use Rattle.sci_diagram.proofs.Told.{told_then}
use Rattle.sci_diagram.proofs.Light.{at_most, get_light, positive}
use Rattle.sci_diagram.proofs.Walking.{last_level, one_level, model_light, objs_light, place, rest_end, rest_more, rest_stops, fewer, diagram_rolls}
use Rattle.sci_diagram.proofs.walk.+walk.Goals as goal

pub read_obj-obj_of-requires : goal.read_obj-obj_of-requires
read_obj-obj_of-requires t c =
    let same = ap (λ ts. weight (view ts)) c.of.ensures in
    (omega arith, (omega (arith, same), omega arith))

pub read_obj-returns-clause-ok : goal.read_obj-returns-clause-ok
read_obj-returns-clause-ok t c = subst (λ ts. IfOk c.obj_of.result (λ o. read_object (diagram_at c.args.left) c.args.at.now (view ts) ≡ Ok (object_view o))) c.of.ensures c.obj_of.ensures.ok

pub read_obj-returns-clause-stop : goal.read_obj-returns-clause-stop
read_obj-returns-clause-stop t c = subst (λ ts. IfErr c.obj_of.result (λ e. Stops (read_object (diagram_at c.args.left) c.args.at.now (view ts)) e)) c.of.ensures c.obj_of.ensures.stop

pub read_block-block_of-requires : goal.read_block-block_of-requires
read_block-block_of-requires t c =
    let light = model_light c.args.at.now (pos 4) (codes "model") (view c.args.v.now) (view c.in_ok-value.value.now) c.in_ok-value.ensures.ok in
    let same = ap (λ ts. weight (view ts)) c.of.ensures in
    (omega arith, (omega (arith, light, same), omega arith))

pub read_block-returns-clause-ok : goal.read_block-returns-clause-ok
unfolding read_block
read_block-returns-clause-ok t c =
    let at = c.args.at.now in
    let d = view c.args.v.now in
    let named : required at (pos 3) (field as_str (codes "gui") d) ≡ Ok (string_bytes c.in_ok-gui.gui) = c.in_ok-gui.ensures.ok in
    let valued : required at (pos 4) (field whole_object (codes "model") d) ≡ Ok (view c.in_ok-value.value.now) = c.in_ok-value.ensures.ok in
    let whole = subst (λ ts. IfOk c.block_of.result (λ b. modelled (diagram_at c.args.left) at (string_bytes c.in_ok-gui.gui) (view ts) ≡ Ok (block_view b))) c.of.ensures c.block_of.ensures.ok in
    rw (named, valued) whole

pub read_block-returns-clause-stop : goal.read_block-returns-clause-stop
unfolding read_block
read_block-returns-clause-stop t c =
    let at = c.args.at.now in
    let d = view c.args.v.now in
    let named : required at (pos 3) (field as_str (codes "gui") d) ≡ Ok (string_bytes c.in_ok-gui.gui) = c.in_ok-gui.ensures.ok in
    let valued : required at (pos 4) (field whole_object (codes "model") d) ≡ Ok (view c.in_ok-value.value.now) = c.in_ok-value.ensures.ok in
    let whole = subst (λ ts. IfErr c.block_of.result (λ e. Stops (modelled (diagram_at c.args.left) at (string_bytes c.in_ok-gui.gui) (view ts)) e)) c.of.ensures c.block_of.ensures.stop in
    rw (named, valued) whole

pub block_of-read_diagram-requires : goal.block_of-read_diagram-requires
block_of-read_diagram-requires t c =
    let inside = at_most (λ e. weight e + 1) (weight (view c.args.model.now)) (get (codes "rpar") (view c.args.model.now)) (view c.in-Some.rpar.now) (get_light (codes "rpar") (view c.args.model.now)) (sym c.in-Some.ensures) in
    (omega arith, (omega (arith, inside), omega arith))

pub read_diagram-returns-then-left-eq0-clause-stop :
    goal.read_diagram-returns-then-left-eq0-clause-stop
read_diagram-returns-then-left-eq0-clause-stop t c =
    stops_violation _ _ _ (last_level c.args.left _ _ (omega arith)) c.too_deep.ensures

pub read_diagram-returns-in_err-items-clause-stop :
    goal.read_diagram-returns-in_err-items-clause-stop
read_diagram-returns-in_err-items-clause-stop t c =
    let e = one_level c.args.left c.args.at.now (view c.args.v.now) (omega arith) in
    rw e (search (rules, told_then))

pub read_diagram-read_objs-requires : goal.read_diagram-read_objs-requires
read_diagram-read_objs-requires t c =
    let light = objs_light c.args.at.now (view c.args.v.now) _ c.in_ok-items.ensures.ok in
    (omega arith, (omega (arith, light), omega arith))

pub read_diagram-returns-in_err-objs-clause-stop :
    goal.read_diagram-returns-in_err-objs-clause-stop
read_diagram-returns-in_err-objs-clause-stop t c =
    let e = one_level c.args.left c.args.at.now (view c.args.v.now) (omega arith) in
    rw e (search (rules, stops_then))

pub read_diagram-returns-clause-ok : goal.read_diagram-returns-clause-ok
read_diagram-returns-clause-ok t c =
    let e = one_level c.args.left c.args.at.now (view c.args.v.now) (omega arith) in
    rw (e, c.in_ok-items.ensures.ok) (c.in_ok-objs.ensures.ok ∙ ap Ok (sym (diagram_rolls c.in_ok-objs.objs)))

pub read_objs-overflow_add-len : goal.read_objs-overflow_add-len
read_objs-overflow_add-len t c =
    let is = taken (items_view c.loop-item.items) (view c.in-Some.item) (items_view c.next.new.self) c.in-Some.ensures.value in
    omega (arith, ap items_weight is, positive (view c.in-Some.item))

pub read_objs-returns-in_err-read_obj-clause-stop : goal.read_objs-returns-in_err-read_obj-clause-stop
read_objs-returns-in_err-read_obj-clause-stop t c =
    let is = taken (items_view c.loop-item.items) (view c.in-Some.item) (items_view c.next.new.self) c.in-Some.ensures.value in
    let many : c.len.result ≡ length c.loop-item.objs.items = omega arith in
    let there = c.as_slice.ensures ∙ c.in_ok-place.ensures ∙ place c.args.at.now many in
    let stops = rest_stops (diagram_at c.args.left) c.args.at.now (items_view c.loop-item.items) (view c.in-Some.item) (items_view c.next.new.self) is c.as_slice.result.now (map object_view c.loop-item.objs.items) (length c.loop-item.objs.items + 1) there _ c.loop-item.invariant.walked c.in_err-read_obj.field-0.0 c.in_err-read_obj.ensures.stop in
    search (rules, stops)

pub read_objs-loop-item-preserved-in_ok-push : goal.read_objs-loop-item-preserved-in_ok-push
read_objs-loop-item-preserved-in_ok-push t c =
    let is = taken (items_view c.loop-item.items) (view c.in-Some.item) (items_view c.next.new.self) c.in-Some.ensures.value in
    let many : c.len.result ≡ length c.loop-item.objs.items = omega arith in
    let there = c.as_slice.ensures ∙ c.in_ok-place.ensures ∙ place c.args.at.now many in
    let more = rest_more (diagram_at c.args.left) c.args.at.now (items_view c.loop-item.items) (view c.in-Some.item) (items_view c.next.new.self) is c.as_slice.result.now c.loop-item.objs.items c.push.new.self.items c.in_ok-read_obj.field-0 there c.in_ok-read_obj.ensures.ok c.in_ok-push.ensures.items in
    let few = fewer c.loop-item.objs.items c.push.new.self.items c.in_ok-read_obj.field-0 (items_view c.loop-item.items) (view c.in-Some.item) (items_view c.next.new.self) is c.in_ok-push.ensures.items in
    record { walked = more ∙ c.loop-item.invariant.walked; few = omega (arith, few, c.loop-item.invariant.few) }

pub read_objs-loop-item-preserved : goal.read_objs-loop-item-preserved
read_objs-loop-item-preserved t c =
    let is = taken (items_view c.loop-item.items) (view c.in-Some.item) (items_view c.next.new.self) c.in-Some.ensures.value in
    let many : c.len.result ≡ length c.loop-item.objs.items = omega arith in
    let there = c.as_slice.ensures ∙ c.in_ok-place.ensures ∙ place c.args.at.now many in
    let more = rest_more (diagram_at c.args.left) c.args.at.now (items_view c.loop-item.items) (view c.in-Some.item) (items_view c.next.new.self) is c.as_slice.result.now c.loop-item.objs.items c.push.new.self.items c.in_ok-read_obj.field-0 there c.in_ok-read_obj.ensures.ok c.in_ok-push.ensures.items in
    let few = fewer c.loop-item.objs.items c.push.new.self.items c.in_ok-read_obj.field-0 (items_view c.loop-item.items) (view c.in-Some.item) (items_view c.next.new.self) is c.in_ok-push.ensures.items in
    record { walked = more ∙ c.loop-item.invariant.walked; few = omega (arith, few, c.loop-item.invariant.few) }

pub read_objs-returns-clause-ok : goal.read_objs-returns-clause-ok
read_objs-returns-clause-ok t c =
    let none = none_left (items_view c.loop-item.items) (items_view c.next.new.self) c.in_default.ensures.value in
    sym c.loop-item.invariant.walked ∙ (rw none (rest_end (diagram_at c.args.left) c.args.at.now (map object_view c.loop-item.objs.items) (length c.loop-item.objs.items + 1)))
