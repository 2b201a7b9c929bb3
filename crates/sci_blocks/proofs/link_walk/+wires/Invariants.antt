use Rattle.std.proofs.Common.{◌+◌, ◌*◌}
use Rattle.sci_diagram.specs.Count.{objects_in, objects_within}
use Rattle.sci_diagram.specs.Objects.{object_view, diagram_view}
use Rattle.sci_diagram.specs.declared.diagram.Diagram.{out-Diagram}
use Rattle.sci_blocks.proofs.Walks.{IsLinked}
use Rattle.sci_blocks.proofs.link_walk.+wires.Given as goal

abbrev pub decreases-links_in : goal.decreases-links_in
decreases-links_in l = 2 * objects_in (diagram_view l.d.now) + 1

abbrev pub decreases-object_links : goal.decreases-object_links
decreases-object_links l = 2 * objects_within (object_view l.obj.now)

abbrev pub invariant-links_in-loop-i : goal.invariant-links_in-loop-i
invariant-links_in-loop-i l = IsLinked l.at (diagram_view l.d) (out-Diagram l.d).objs.items l.fed l.i
