use Rattle.std.proofs.Common.{◌≡◌, ◌+◌, ◌<◌, ℕ, [], length}
use Rattle.std.specs.Prelude.{slice_index_or}
use Rattle.sci_vcd.specs.LaidDown.{end_text}
use Rattle.sci_vcd.proofs.signal_lines.line_ends.Given as goal

abbrev pub invariant-loop-at : goal.invariant-loop-at
invariant-loop-at l = record {
  long : length l.ends.items ≡ l.at;
  each : (k : ℕ) → k < l.at → slice_index_or l.ends.items k [] ≡ end_text (k + 1);
}
