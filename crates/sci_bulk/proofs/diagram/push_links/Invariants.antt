use Rattle.std.proofs.Common.{◌≡◌, ◌+◌, ◌++◌, map, drop}
use Rattle.sci_diagram.specs.Objects.{object_view}
use Rattle.sci_bulk.specs.Bulk.{links_from}
use Rattle.sci_bulk.proofs.diagram.push_links.Given as goal

-- the links that are left stand behind those that were pushed
abbrev pub invariant-loop-at : goal.invariant-loop-at
invariant-loop-at l = map object_view l.objs.items ++ links_from (9 + l.at) (drop l.at l.blocks) ≡ map object_view l.initial.objs.items ++ links_from 9 l.blocks
