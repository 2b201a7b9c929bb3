use Rattle.std.proofs.Common.{◌≡◌, ◌+◌, map, drop}
use Rattle.sci_diagram.specs.Objects.{objects_of, object_view, diagram_view}
use Rattle.sci_diagram.specs.Count.{links_in}
use Rattle.sci_diagram.proofs.counts.+links.Given as goal

abbrev pub invariant-count_links-loop-obj : goal.invariant-count_links-loop-obj
invariant-count_links-loop-obj l =
    l.sum + links_in (objects_of (map object_view (drop l.obj-index l.obj-items))) ≡ links_in (diagram_view l.d)
