use Rattle.std.proofs.Common.{rules, codes, ap, ◌++◌}
use Rattle.sci_io.proofs.Advance.{then_writes, stopped, same_text}
use Rattle.sci_print.specs.Line.{details_text, place_text}
use Rattle.sci_print.proofs.report.line.put_where.Goals as goal

pub returns-in_err-put_place : goal.returns-in_err-put_place
returns-in_err-put_place g c =
    stopped (place_text c.args.refusal.now.place.path.items) (details_text c.args.refusal.now.detail.items ++ codes "\n") c.put_place.result c.from_residual.result _ _ c.in_err-put_place.was (search rules) (same_text (ap place_text c.as_slice.ensures) c.put_place.ensures)

pub returns : goal.returns
returns g c =
    then_writes (place_text c.args.refusal.now.place.path.items) (details_text c.args.refusal.now.detail.items ++ codes "\n") c.put_place.result c.put_end.result _ c.in_ok-put_place.was (same_text (ap place_text c.as_slice.ensures) c.put_place.ensures) c.put_end.ensures
