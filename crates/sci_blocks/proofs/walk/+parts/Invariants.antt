use Rattle.std.proofs.Common.{◌≡◌, ◌+◌, ◌*◌, map, drop}
use Rattle.sci_diagram.specs.Count.{objects_in, objects_within}
use Rattle.sci_diagram.specs.Objects.{objects_of, object_view, diagram_view}
use Rattle.sci_diagram.specs.declared.diagram.Diagram.{out-Diagram}
use Rattle.sci_blocks.specs.Adding.{onto}
use Rattle.sci_blocks.specs.Blocks.{parts_in, part_view}
use Rattle.sci_blocks.proofs.walk.+parts.Given as goal

abbrev pub decreases-add_object : goal.decreases-add_object
decreases-add_object l = 3 * objects_within (object_view l.obj.now)

abbrev pub decreases-add_parts : goal.decreases-add_parts
decreases-add_parts l = 3 * objects_in (diagram_view l.d.now) + 1

abbrev pub decreases-add_superblock : goal.decreases-add_superblock
decreases-add_superblock l = 3 * objects_in (diagram_view l.inner.now) + 2

abbrev pub invariant-add_parts-loop-i : goal.invariant-add_parts-loop-i
invariant-add_parts-loop-i l =
    onto (map part_view l.parts.items) (parts_in l.at (l.i + 1) (objects_of (map object_view (drop l.i (out-Diagram l.d).objs.items)))) ≡ onto (map part_view l.fn.parts.items) (parts_in l.at 1 (diagram_view l.d))
