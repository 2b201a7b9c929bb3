use Rattle.std.proofs.Common.{ℕ, ◌/◌, List, ◌++◌, drop, ap, ◌∙◌}
use Rattle.sci_vcd.specs.Spelling.{binary}
use Rattle.sci_vcd.proofs.Bits.{thirty_two_sixteens}
use Rattle.sci_vcd.proofs.signal_lines.SignalLines.thirty_two_of.Goals as goal

pub returns-clause-text : goal.returns-clause-text
returns-clause-text c =
    c.sixteen_of.ensures.text
    ∙ (ap (λ (l : List ℕ). binary 16 (c.args.n / 65536) ++ l) c.sixteen_of-at.ensures.text ∙ thirty_two_sixteens c.args.n (drop c.args.end c.args.line.now))
