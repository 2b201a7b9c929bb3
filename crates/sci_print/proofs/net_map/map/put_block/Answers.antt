use Rattle.std.proofs.Common.{rules, codes, ◌++◌}
use Rattle.sci_io.proofs.Advance.{then_writes, stopped}
use Rattle.sci_print.specs.Map.{outputs_text, kind_text}
use Rattle.sci_print.proofs.net_map.map.put_block.Goals as goal

pub returns-in_err-put_kind : goal.returns-in_err-put_kind
returns-in_err-put_kind g c =
    stopped (kind_text c.args.spec.now) (outputs_text c.args.spec.now.outs ++ codes "\n") c.put_kind.result c.from_residual.result _ _ c.in_err-put_kind.was (search rules) c.put_kind.ensures

pub returns : goal.returns
returns g c =
    then_writes (kind_text c.args.spec.now) (outputs_text c.args.spec.now.outs ++ codes "\n") c.put_kind.result c.put_ports.result _ c.in_ok-put_kind.was c.put_kind.ensures c.put_ports.ensures
