use Rattle.std.proofs.Common.{length, ◌-◌}
use Rattle.c_parse.proofs.Scans.{Indents}
use Rattle.c_parse.proofs.line.blanks.Given as goal

abbrev pub invariant-loop-len : goal.invariant-loop-len
invariant-loop-len l = Indents l.bytes l.len

abbrev pub decreases-loop-len : goal.decreases-loop-len
decreases-loop-len l = length l.bytes - l.len
