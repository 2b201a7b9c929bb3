use Rattle.std.proofs.Common.{◌≡◌, ◌+◌, map, drop}
use Rattle.sci_diagram.specs.Objects.{objects_of, object_view, diagram_view}
use Rattle.sci_diagram.specs.Count.{blocks_in}
use Rattle.sci_diagram.proofs.counts.+count.Given as goal

abbrev pub invariant-count_blocks-loop-obj : goal.invariant-count_blocks-loop-obj
invariant-count_blocks-loop-obj l =
    l.sum + blocks_in (objects_of (map object_view (drop l.obj-index l.obj-items))) ≡ blocks_in (diagram_view l.d)
