use Rattle.std.proofs.Common.{◌≡◌, map, take}
use Rattle.sci_trace.specs.Columns.{needed_of}
use Rattle.sci_needs.specs.Needs.{need_of}
use Rattle.sci_needs.proofs.needs_of_net.Given as goal

abbrev pub invariant-loop-column : goal.invariant-loop-column
invariant-loop-column l = map needed_of l.needs.items ≡ map (need_of l.net) (take l.column-index l.column-items)
