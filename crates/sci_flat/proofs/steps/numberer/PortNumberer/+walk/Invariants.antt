use Rattle.std.proofs.Common.{◌≡◌, ◌++◌, ◌+◌, ◌*◌, map, drop}
use Rattle.sci_diagram.specs.Objects.{objects_of, object_view, diagram_view}
use Rattle.sci_diagram.specs.declared.diagram.Diagram.{out-Diagram}
use Rattle.sci_diagram.specs.Count.{objects_in, objects_within}
use Rattle.sci_flat.specs.Numbers.{insides_past, steps_by, blocks_by, tags_by}
use Rattle.sci_flat.proofs.steps.numberer.PortNumberer.+walk.Given as goal

abbrev pub decreases-diagram : goal.decreases-diagram
decreases-diagram l = 3 * objects_in (diagram_view l.d.now) + 2

abbrev pub decreases-objects : goal.decreases-objects
decreases-objects l = 3 * objects_in (diagram_view l.d.now) + 1

abbrev pub decreases-object : goal.decreases-object
decreases-object l = 3 * objects_within (object_view l.obj.now)

abbrev pub invariant-objects-loop-i : goal.invariant-objects-loop-i
invariant-objects-loop-i l = record {
  next : insides_past l.self.next (objects_of (map object_view (drop l.i (out-Diagram l.d).objs.items))) ≡ insides_past l.fn.self.next (diagram_view l.d);
  steps : l.self.steps.items ++ steps_by l.seats l.outer (drop l.i l.seats) l.self.next (objects_of (map object_view (drop l.i (out-Diagram l.d).objs.items)))
      ≡ l.fn.self.steps.items ++ steps_by l.seats l.outer l.seats l.fn.self.next (diagram_view l.d);
  blocks : l.self.blocks.items ++ blocks_by (drop l.i l.seats) l.self.next (objects_of (map object_view (drop l.i (out-Diagram l.d).objs.items)))
      ≡ l.fn.self.blocks.items ++ blocks_by l.seats l.fn.self.next (diagram_view l.d);
  tags : l.self.tags.items ++ tags_by (drop l.i l.seats) l.self.next (objects_of (map object_view (drop l.i (out-Diagram l.d).objs.items)))
      ≡ l.fn.self.tags.items ++ tags_by l.seats l.fn.self.next (diagram_view l.d);
}
