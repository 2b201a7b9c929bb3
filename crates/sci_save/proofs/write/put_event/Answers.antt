use Rattle.std.proofs.Common.{rules, ap, ◌++◌}
use Rattle.std.specs.Prelude.{codes, decimal}
use Rattle.sci_io.proofs.Advance.{then_writes, stopped, same_text}
use Rattle.sci_net.specs.declared.Source.{Source}
use Rattle.sci_net.specs.Sources.{source_of}
use Rattle.sci_trace.specs.Lines.{numbers}
use Rattle.sci_save.specs.Text.{port_numbers}
use Rattle.sci_save.proofs.write.put_event.Goals as goal

pub returns-in_err-put_date : goal.returns-in_err-put_date
returns-in_err-put_date g c =
    stopped (codes "pend " ++ decimal c.args.date) (numbers (port_numbers (source_of c.args.net.now c.args.source))) c.put_date.result c.from_residual.result _ _ c.in_err-put_date.was (search rules) c.put_date.ensures

pub returns : goal.returns
returns g c =
    then_writes (codes "pend " ++ decimal c.args.date) (numbers (port_numbers (source_of c.args.net.now c.args.source))) c.put_date.result c.put_port.result _ c.in_ok-put_date.was c.put_date.ensures
    (same_text (ap (λ (s : Source). numbers (port_numbers s)) c.source.ensures) c.put_port.ensures)
