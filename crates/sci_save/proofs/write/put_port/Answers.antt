use Rattle.std.proofs.Common.{sym, ap, ◌∙◌}
use Rattle.sci_io.proofs.Advance.{same_text}
use Rattle.sci_net.specs.declared.Source.{Source}
use Rattle.sci_trace.specs.Lines.{numbers}
use Rattle.sci_save.specs.Text.{port_numbers}
use Rattle.sci_save.proofs.write.put_port.Goals as goal

pub returns-in-Start : goal.returns-in-Start
returns-in-Start g c = same_text (c.as_bytes.ensures.value ∙ sym (ap (λ (s : Source). numbers (port_numbers s)) c.in-Start.is)) c.put.ensures.written

pub returns-in-Port : goal.returns-in-Port
returns-in-Port g c = same_text (sym (ap (λ (s : Source). numbers (port_numbers s)) c.in-Port.is)) c.put_output.ensures
