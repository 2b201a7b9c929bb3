use Rattle.std.proofs.Common.{◌≡◌, ◌+◌, length}
use Rattle.sci_agree.specs.Lines.{lines_of}
use Rattle.sci_agree.proofs.comparing.lines_within.Given as goal

-- the lines that are counted, and those that what is left ends
abbrev pub invariant-loop-rest : goal.invariant-loop-rest
invariant-loop-rest l = l.lines + lines_of l.rest ≡ lines_of l.piece

abbrev pub decreases-loop-rest : goal.decreases-loop-rest
decreases-loop-rest l = length l.rest
