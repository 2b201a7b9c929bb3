use Rattle.std.proofs.Common.{◌≡◌, ◌++◌, map, take}
use Rattle.sci_diagram.specs.Objects.{object_view}
use Rattle.sci_bulk.specs.Bulk.{data_object}
use Rattle.sci_bulk.proofs.diagram.push_data.Given as goal

abbrev pub invariant-loop-block : goal.invariant-loop-block
invariant-loop-block l = map object_view l.objs.items ≡ map object_view l.initial.objs.items ++ map data_object (take l.block-index l.blocks)
