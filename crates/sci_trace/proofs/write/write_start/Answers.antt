use Rattle.sci_trace.specs.Lines.{line}
use Rattle.sci_trace.proofs.write.write_start.Goals as goal

pub returns : goal.returns
unfolding line
returns g c = simp (c.as_bytes.ensures.value) at c.put.ensures.written
