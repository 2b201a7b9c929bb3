use Rattle.std.proofs.Common.{take}
use Rattle.sci_dep.specs.Building.{KeepsFound}
use Rattle.sci_dep.proofs.table.needs_of.Given as goal

abbrev pub invariant-loop-block : goal.invariant-loop-block
invariant-loop-block l = KeepsFound l.walk.found (take l.block-index l.blocks) l.needs.items
