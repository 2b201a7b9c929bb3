use Rattle.sci_print.specs.Line.{head_text}
use Rattle.sci_print.proofs.report.line.put_head.Goals as goal

pub returns : goal.returns
unfolding head_text
returns g c = simp (c.as_bytes.ensures.value, c.as_bytes-2.ensures.value, c.format.ensures.text, c.as_bytes-3.ensures.value, c.as_bytes-4.ensures.value, c.as_bytes-5.ensures.value, c.number.ensures, c.name.ensures) at c.put_all.ensures
