use Rattle.std.proofs.Common.{◌+◌, get_or, append-nil, ◌∙◌, arith}
use mir.Syntax.{w64}
use Rattle.std.proofs.lemmas.Int.{to_z-of_z}
use Rattle.std.proofs.lemmas.List.{drop_all}
use Rattle.sci_text.specs.Lines.{with_lf}
use Rattle.sci_vcd.specs.Waveforms.{no_signal}
use Rattle.sci_vcd.specs.Spelling.{value_line}
use Rattle.sci_vcd.proofs.signal_lines.SignalLines.value_line.Goals as goal

pub returns-clause-text : goal.returns-clause-text
returns-clause-text c =
    (rw (to_z-of_z w64 c.args.value c.ranges.value, drop_all 128 c.args.line.now (omega arith)) at c.value_before.ensures.text)
    ∙ append-nil (with_lf (value_line (get_or c.args.self.now c.args.at no_signal).ty (c.args.at + 1) c.args.value))
