use Rattle.std.proofs.Common.{◌≡◌, map, take}
use Rattle.sci_trace.specs.Columns.{columns_view}
use Rattle.c_run.specs.Running.{left_of}
use Rattle.c_run.proofs.start.columns_of.Given as goal

abbrev pub invariant-loop-column : goal.invariant-loop-column
invariant-loop-column l = map left_of l.list.items ≡ columns_view (take l.column-index l.columns)
