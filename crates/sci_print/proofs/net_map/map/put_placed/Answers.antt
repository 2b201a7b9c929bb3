use Rattle.std.proofs.Common.{rules, codes, ◌++◌}
use Rattle.sci_io.proofs.Advance.{then_writes, stopped}
use Rattle.sci_print.specs.Line.{place_text}
use Rattle.sci_print.specs.Map.{outputs_text, kind_text}
use Rattle.sci_print.proofs.net_map.map.put_placed.Goals as goal

pub returns-in_err-put_place : goal.returns-in_err-put_place
returns-in_err-put_place g c =
    stopped (place_text c.args.path.now) (kind_text c.args.spec.now ++ (outputs_text c.args.spec.now.outs ++ codes "\n")) c.put_place.result c.from_residual.result _ _ c.in_err-put_place.was (search rules) c.put_place.ensures

pub returns : goal.returns
returns g c =
    then_writes (place_text c.args.path.now) (kind_text c.args.spec.now ++ (outputs_text c.args.spec.now.outs ++ codes "\n")) c.put_place.result c.put_block.result _ c.in_ok-put_place.was c.put_place.ensures c.put_block.ensures
