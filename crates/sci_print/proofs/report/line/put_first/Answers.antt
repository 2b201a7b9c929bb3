use Rattle.std.proofs.lemmas.List.{append-nil}
use Rattle.sci_print.proofs.report.line.put_first.Goals as goal

pub returns : goal.returns
returns g c = simp (c.as_bytes.ensures.value, c.format.ensures.text, append-nil) at c.put_all.ensures
