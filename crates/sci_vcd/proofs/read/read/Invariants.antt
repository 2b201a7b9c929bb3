use Rattle.std.proofs.Common.{length}
use Rattle.sci_vcd.proofs.Reading.{IsAt}
use Rattle.sci_vcd.proofs.read.read.Given as goal

abbrev pub invariant-loop-line : goal.invariant-loop-line
invariant-loop-line l = IsAt l.bytes l.rest l.reader l.count

abbrev pub decreases-loop-line : goal.decreases-loop-line
decreases-loop-line l = length l.rest
