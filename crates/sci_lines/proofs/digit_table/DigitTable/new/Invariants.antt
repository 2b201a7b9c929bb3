use Rattle.std.proofs.Common.{◌≡◌, ◌<◌, ℕ, length}
use Rattle.std.specs.Prelude.{slice_index_or}
use Rattle.sci_lines.specs.Threes.{spelled, not_spelled}
use Rattle.sci_lines.proofs.digit_table.DigitTable.new.Given as goal

abbrev pub invariant-loop-n : goal.invariant-loop-n
invariant-loop-n l = record {
  count : length l.numbers.items ≡ l.n;
  each : (k : ℕ) → k < l.n → slice_index_or l.numbers.items k not_spelled ≡ spelled k;
}
