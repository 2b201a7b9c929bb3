use Rattle.std.proofs.Common.{ℕ, List, ◌++◌, drop, ap, ◌∙◌}
use Rattle.sci_vcd.proofs.Bits.{eight_last}
use Rattle.sci_vcd.proofs.signal_lines.SignalLines.eight_of.Goals as goal

pub returns-clause-text : goal.returns-clause-text
returns-clause-text c = c.eight_before.ensures.text ∙ ap (λ (l : List ℕ). l ++ drop c.args.end c.args.line.now) (c.eight.ensures ∙ eight_last c.args.n)
