use Rattle.std.proofs.lemmas.List.{append-nil}
use Rattle.sci_answers.specs.RunC.{undefined_line}
use Rattle.sci_deliver.proofs.deliver.put_undefined.Goals as goal

pub returns : goal.returns
unfolding undefined_line
returns g c = simp (c.as_bytes.ensures.value, c.as_bytes-2.ensures.value, c.as_bytes-3.ensures.value, c.format.ensures.text, append-nil) at c.put_all.ensures
