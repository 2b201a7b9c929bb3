use Rattle.std.proofs.Common.{rules, codes, ◌++◌}
use Rattle.sci_io.proofs.Advance.{then_writes, stopped}
use Rattle.sci_print.specs.Line.{place_text}
use Rattle.sci_print.specs.Map.{number_text, outputs_text, kind_text, block_line}
use Rattle.sci_print.proofs.net_map.map.put_line.Goals as goal

pub returns-in_err-put_number : goal.returns-in_err-put_number
unfolding block_line
returns-in_err-put_number g c =
    stopped (number_text c.args.block) (place_text c.args.path.now ++ (kind_text c.args.spec.now ++ (outputs_text c.args.spec.now.outs ++ codes "\n"))) c.put_number.result c.from_residual.result _ _ c.in_err-put_number.was (search rules) c.put_number.ensures

pub returns : goal.returns
unfolding block_line
returns g c =
    then_writes (number_text c.args.block) (place_text c.args.path.now ++ (kind_text c.args.spec.now ++ (outputs_text c.args.spec.now.outs ++ codes "\n"))) c.put_number.result c.put_placed.result _ c.in_ok-put_number.was c.put_number.ensures c.put_placed.ensures
