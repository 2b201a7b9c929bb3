use Rattle.std.proofs.lemmas.List.{append-nil}
use Rattle.sci_print.specs.Line.{step_text}
use Rattle.sci_print.proofs.report.line.put_step.Goals as goal

pub returns : goal.returns
unfolding step_text
returns g c = simp (c.as_bytes.ensures.value, c.as_bytes-2.ensures.value, c.format.ensures.text, append-nil) at c.put_all.ensures
