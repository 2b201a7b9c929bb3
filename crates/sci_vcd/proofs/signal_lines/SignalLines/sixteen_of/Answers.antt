use Rattle.std.proofs.Common.{ℕ, ◌/◌, List, ◌++◌, drop, ap, ◌∙◌}
use Rattle.sci_vcd.specs.Spelling.{binary}
use Rattle.sci_vcd.proofs.Bits.{sixteen_eights}
use Rattle.sci_vcd.proofs.signal_lines.SignalLines.sixteen_of.Goals as goal

pub returns-clause-text : goal.returns-clause-text
returns-clause-text c =
    c.eight_of.ensures.text
    ∙ (ap (λ (l : List ℕ). binary 8 (c.args.n / 256) ++ l) c.eight_of-at.ensures.text ∙ sixteen_eights c.args.n (drop c.args.end c.args.line.now))
