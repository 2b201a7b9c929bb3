use Rattle.std.proofs.Common.{rules, codes, ◌++◌}
use Rattle.sci_io.proofs.Advance.{then_writes, stopped}
use Rattle.sci_base.specs.Plain.{violation_of}
use Rattle.sci_print.specs.Line.{details_text, place_text, head_text, refused_line}
use Rattle.sci_print.proofs.report.line.put_refused.Goals as goal

pub returns-in_err-put_head : goal.returns-in_err-put_head
unfolding refused_line
returns-in_err-put_head g c = stopped (head_text (violation_of c.args.refusal.now)) (place_text c.args.refusal.now.place.path.items ++ (details_text c.args.refusal.now.detail.items ++ codes "\n")) c.put_head.result c.from_residual.result _ _ c.in_err-put_head.was (search rules) c.put_head.ensures

pub returns : goal.returns
unfolding refused_line
returns g c = then_writes (head_text (violation_of c.args.refusal.now)) (place_text c.args.refusal.now.place.path.items ++ (details_text c.args.refusal.now.detail.items ++ codes "\n")) c.put_head.result c.put_where.result _ c.in_ok-put_head.was c.put_head.ensures c.put_where.ensures
