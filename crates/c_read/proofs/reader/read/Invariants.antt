use Rattle.std.proofs.Common.{length}
use Rattle.c_read.proofs.Reading.{IsAt}
use Rattle.c_read.proofs.reader.read.Given as goal

abbrev pub invariant-loop-line : goal.invariant-loop-line
invariant-loop-line l = IsAt l.bytes l.rest l.reader

abbrev pub decreases-loop-line : goal.decreases-loop-line
decreases-loop-line l = length l.rest
