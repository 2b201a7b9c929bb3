use Rattle.std.proofs.Common.{sym, ap, ◌∙◌}
use Rattle.sci_io.proofs.Advance.{same_text}
use Rattle.sci_sched.specs.Text.{source_text}
use Rattle.sci_sched.proofs.write.put_source.Goals as goal

pub returns-in-Start : goal.returns-in-Start
unfolding source_text
returns-in-Start g c = same_text (c.as_bytes.ensures.value ∙ sym (ap source_text c.in-Start.is)) c.put.ensures.written

pub returns-in-Port : goal.returns-in-Port
unfolding source_text
returns-in-Port g c = same_text (sym (ap source_text c.in-Port.is)) c.put_port.ensures
