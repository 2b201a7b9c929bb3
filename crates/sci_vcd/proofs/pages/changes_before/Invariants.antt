use Rattle.std.proofs.Common.{◌≡◌, ℕ, ◌+◌, ◌-◌, ◌*◌, ◌≤◌, drop}
use Rattle.sci_text.specs.Lines.{joined}
use Rattle.sci_vcd.specs.Spelling.{change_lines}
use Rattle.sci_vcd.specs.Writing.{changes_within}
use Rattle.sci_vcd.proofs.pages.changes_before.Given as goal

-- the lines of the changes of the last signals, as many as there were turns, stand at the end
abbrev pub invariant-loop-turn : goal.invariant-loop-turn
invariant-loop-turn l = record {
  lines : (t : ℕ) → drop l.at l.text ≡ joined (change_lines l.signals t (changes_within t (l.end - l.turn) l.end l.old l.new));
  room : 1856 ≤ l.at + 57 * l.turn;
  within : l.at ≤ 1856;
}
