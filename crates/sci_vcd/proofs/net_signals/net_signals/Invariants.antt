use Rattle.std.proofs.Common.{◌≡◌, ℕ, ◌+◌, ◌-◌, ◌≤◌, ◌++◌, drop, take, length}
use Rattle.std.specs.Prelude.{slice_index_or}
use Rattle.sci_net.specs.Net.{all_elements}
use Rattle.sci_vcd.specs.Signals.{block_signals, signals_of, before_block}
use Rattle.sci_vcd.proofs.net_signals.net_signals.Given as goal

abbrev pub invariant-loop-block : goal.invariant-loop-block
invariant-loop-block l = record {
  signals : l.signals.items ++ block_signals (l.block + 1) (drop l.block l.net.specs) ≡ signals_of l.net;
  count : length l.signals.items ≡ all_elements (take l.block l.net.specs);
  long : length l.starts.items ≡ l.block + 1;
  each : (b : ℕ) → 1 ≤ b → b ≤ l.block + 1 → slice_index_or l.starts.items (b - 1) 0 ≡ before_block l.net b;
}
