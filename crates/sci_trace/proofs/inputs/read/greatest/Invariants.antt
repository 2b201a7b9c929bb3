use Rattle.std.proofs.Common.{◌≡◌, drop, map, max}
use Rattle.sci_trace.specs.Columns.{needed_of}
use Rattle.sci_trace.specs.Reading.{greatest}
use Rattle.sci_trace.proofs.inputs.read.greatest.Given as goal

abbrev pub invariant-loop-n : goal.invariant-loop-n
invariant-loop-n l = max l.most (greatest (map needed_of (drop l.n-index l.need))) ≡ greatest (map needed_of l.need)
