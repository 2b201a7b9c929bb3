use Rattle.std.proofs.Common.{◌≡◌, ◌<◌, ℕ, [], length}
use Rattle.std.specs.Prelude.{slice_index_or}
use Rattle.sci_vcd.specs.Spelling.{binary}
use Rattle.sci_vcd.proofs.signal_lines.all_eights.Given as goal

abbrev pub invariant-loop-n : goal.invariant-loop-n
invariant-loop-n l = record {
  long : length l.eights.items ≡ l.n;
  each : (k : ℕ) → k < l.n → slice_index_or l.eights.items k [] ≡ binary 8 k;
}
