use Rattle.std.proofs.Common.{◌≡◌, ◌++◌, map, take}
use Rattle.sci_diagram.specs.Objects.{object_view}
use Rattle.sci_bulk.specs.Bulk.{clock}
use Rattle.sci_bulk.proofs.diagram.push_clocks.Given as goal

abbrev pub invariant-loop-ticks : goal.invariant-loop-ticks
invariant-loop-ticks l = map object_view l.objs.items ≡ map object_view l.initial.objs.items ++ map clock (take l.ticks-index l.clocks)
