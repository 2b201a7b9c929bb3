use Rattle.sci_trace.specs.Lines.{line}
use Rattle.sci_trace.proofs.write.write_end.Goals as goal

pub returns : goal.returns
unfolding line
returns g c =
    simp (c.end_line-at.ensures.text, c.line_from.ensures, c.word_before-at.ensures.text, c.word_before-at-2.ensures.text, c.end_text-text.ensures) at c.put.ensures.written
