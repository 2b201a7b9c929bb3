use Rattle.std.proofs.Common.{◌≡◌, ◌+◌, ◌-◌, ◌*◌, ◌<◌, ◌≤◌, drop, length}
use Rattle.sci_sched.specs.Plain.{row_of}
use Rattle.sci_sched.specs.Text.{entries_text}
use Rattle.sci_sched.proofs.write.lines_before.Given as goal

-- the lines of the last entries, as many as there were turns, stand at the end
abbrev pub invariant-loop-turn : goal.invariant-loop-turn
invariant-loop-turn l = record {
  lines : drop l.at l.text ≡ entries_text (row_of (drop (length l.entries - l.turn) l.entries));
  room : 512 ≤ l.at + 28 * l.turn;
  within : l.at ≤ 512;
  some : 0 < l.turn → l.at < 512;
}
