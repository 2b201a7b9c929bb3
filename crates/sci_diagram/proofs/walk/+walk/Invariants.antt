use Rattle.std.proofs.Common.{◌≡◌, ◌+◌, ◌*◌, ◌≤◌, length, map}
use Rattle.sci_json.specs.View.{items_view}
use Rattle.sci_diagram.specs.Objects.{object_view}
use Rattle.sci_diagram.specs.Tree.{walk, diagram_at}
use Rattle.sci_diagram.specs.Weight.{items_weight}
use Rattle.sci_diagram.proofs.Walking.{rest}
use Rattle.sci_diagram.proofs.walk.+walk.Given as goal

abbrev pub decreases-read_diagram : goal.decreases-read_diagram
decreases-read_diagram l = 6 * l.left

abbrev pub decreases-read_objs : goal.decreases-read_objs
decreases-read_objs l = 6 * l.left + 5

abbrev pub decreases-read_obj : goal.decreases-read_obj
decreases-read_obj l = 6 * l.left + 4

abbrev pub decreases-obj_of : goal.decreases-obj_of
decreases-obj_of l = 6 * l.left + 3

abbrev pub decreases-read_block : goal.decreases-read_block
decreases-read_block l = 6 * l.left + 2

abbrev pub decreases-block_of : goal.decreases-block_of
decreases-block_of l = 6 * l.left + 1

abbrev pub invariant-read_objs-loop-item : goal.invariant-read_objs-loop-item
invariant-read_objs-loop-item l = record {
  walked : rest (diagram_at l.left) l.at (map object_view l.objs.items) (length l.objs.items + 1) (items_view l.items) ≡ walk (diagram_at l.left) l.at 1 (items_view l.initial.items);
  few : length l.objs.items + items_weight (items_view l.items) ≤ items_weight (items_view l.initial.items);
}

abbrev pub decreases-read_objs-loop-item : goal.decreases-read_objs-loop-item
decreases-read_objs-loop-item l = length l.items
