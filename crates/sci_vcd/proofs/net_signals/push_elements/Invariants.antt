use Rattle.std.proofs.Common.{◌≡◌, ◌++◌}
use Rattle.sci_vcd.specs.Signals.{element_signals}
use Rattle.sci_vcd.proofs.net_signals.push_elements.Given as goal

abbrev pub invariant-loop-element : goal.invariant-loop-element
invariant-loop-element l = l.signals.items ≡ l.initial.signals.items ++ element_signals l.ty l.block l.port l.element
