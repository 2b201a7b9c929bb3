use Rattle.std.proofs.Common.{◌≡◌, ◌++◌, map, take}
use Rattle.sci_diagram.specs.Objects.{object_view}
use Rattle.sci_bulk.specs.Bulk.{clock_link}
use Rattle.sci_bulk.proofs.diagram.push_clock_links.Given as goal

abbrev pub invariant-loop-clock : goal.invariant-loop-clock
invariant-loop-clock l = map object_view l.objs.items ≡ map object_view l.initial.objs.items ++ map clock_link (take l.clock-index l.clocks)
