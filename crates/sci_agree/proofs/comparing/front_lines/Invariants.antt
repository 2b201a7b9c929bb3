use Rattle.std.proofs.Common.{◌≡◌, take}
use Rattle.sci_agree.specs.Lines.{lines_of}
use Rattle.sci_agree.proofs.comparing.front_lines.Given as goal

-- the lines that the bytes so far end
abbrev pub invariant-loop-byte : goal.invariant-loop-byte
invariant-loop-byte l = l.lines ≡ lines_of (take l.byte-index l.front)
