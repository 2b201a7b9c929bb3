use Rattle.std.proofs.Common.{◌≡◌, ◌+◌, ◌*◌, ◌≤◌, ◌++◌, length, take, drop}
use Rattle.sci_lines.specs.Lines.{value_lines}
use Rattle.sci_lines.proofs.lines.lines_at.Given as goal

-- the lines of the values so far stand there, and those of the others are to come
abbrev pub invariant-loop-at : goal.invariant-loop-at
invariant-loop-at l = record {
  text : take l.end l.text ++ value_lines (drop l.at l.heads) (drop l.at l.values) ≡ take l.start l.initial.text ++ value_lines l.heads l.values;
  end : l.end ≤ l.start + 46 * l.at;
}
