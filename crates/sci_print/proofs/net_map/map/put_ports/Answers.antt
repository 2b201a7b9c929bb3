use Rattle.std.proofs.Common.{rules, codes}
use Rattle.sci_io.proofs.Advance.{then_writes, stopped, same_text}
use Rattle.sci_print.specs.Map.{outputs_text}
use Rattle.sci_print.proofs.net_map.map.put_ports.Goals as goal

pub returns-in_err-put_outputs : goal.returns-in_err-put_outputs
returns-in_err-put_outputs g c =
    stopped (outputs_text c.args.spec.now.outs) (codes "\n") c.put_outputs.result c.from_residual.result _ _ c.in_err-put_outputs.was (search rules) c.put_outputs.ensures

pub returns : goal.returns
returns g c =
    then_writes (outputs_text c.args.spec.now.outs) (codes "\n") c.put_outputs.result c.put.result _ c.in_ok-put_outputs.was c.put_outputs.ensures (same_text c.as_bytes.ensures.value c.put.ensures.written)
