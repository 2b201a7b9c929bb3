use Rattle.std.proofs.Common.{◌≡◌, drop, map}
use Rattle.sci_trace.specs.Columns.{needed_of, columns_view}
use Rattle.sci_trace.specs.Reading.{first_outside}
use Rattle.sci_trace.proofs.inputs.read.within_types.Given as goal

abbrev pub invariant-loop-n : goal.invariant-loop-n
invariant-loop-n l = first_outside (map needed_of (drop l.n-index l.need)) (columns_view l.columns) ≡ first_outside (map needed_of l.need) (columns_view l.columns)
