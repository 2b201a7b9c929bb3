use Rattle.std.proofs.Common.{◌≡◌, ◌+◌, ◌++◌, drop}
use Rattle.sci_vcd.specs.Signals.{output_signals}
use Rattle.sci_vcd.proofs.net_signals.push_outputs.Given as goal

abbrev pub invariant-loop-at : goal.invariant-loop-at
invariant-loop-at l = l.signals.items ++ output_signals l.block (l.at + 1) (drop l.at l.outs) ≡ l.initial.signals.items ++ output_signals l.block 1 l.outs
