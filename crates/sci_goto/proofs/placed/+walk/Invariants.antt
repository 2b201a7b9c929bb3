use Rattle.std.proofs.Common.{◌≡◌, ◌++◌, ◌+◌, ◌*◌, map, drop}
use Rattle.sci_diagram.specs.Count.{objects_in, objects_within}
use Rattle.sci_diagram.specs.Objects.{objects_of, object_view, diagram_view}
use Rattle.sci_diagram.specs.declared.diagram.Diagram.{out-Diagram}
use Rattle.sci_goto.specs.Phase.{standing_in}
use Rattle.sci_goto.specs.Placed.{standing_of}
use Rattle.sci_goto.proofs.placed.+walk.Given as goal

abbrev pub decreases-add_object : goal.decreases-add_object
decreases-add_object l = 3 * objects_within (object_view l.obj.now)

abbrev pub decreases-add_diagram : goal.decreases-add_diagram
decreases-add_diagram l = 3 * objects_in (diagram_view l.d.now) + 1

abbrev pub decreases-add_inside : goal.decreases-add_inside
decreases-add_inside l = 3 * objects_in (diagram_view l.inner.now) + 2

abbrev pub invariant-add_diagram-loop-i : goal.invariant-add_diagram-loop-i
invariant-add_diagram-loop-i l =
    map standing_of l.tags.items ++ standing_in l.at (l.i + 1) (objects_of (map object_view (drop l.i (out-Diagram l.d).objs.items))) ≡ map standing_of l.fn.tags.items ++ standing_in l.at 1 (diagram_view l.d)
