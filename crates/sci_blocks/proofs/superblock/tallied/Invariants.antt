use Rattle.std.proofs.Common.{map, drop}
use Rattle.sci_diagram.specs.Objects.{objects_of, object_view}
use Rattle.sci_blocks.specs.Ports.{numbers}
use Rattle.sci_blocks.specs.Counts.{IsTallied}
use Rattle.sci_blocks.proofs.superblock.tallied.Given as goal

abbrev pub invariant-loop-obj : goal.invariant-loop-obj
invariant-loop-obj l =
    IsTallied l.tally l.count (numbers l.class (objects_of (map object_view (drop l.obj-index l.objs)))) (numbers l.class (objects_of (map object_view l.objs)))
