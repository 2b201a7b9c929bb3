use Rattle.std.proofs.Common.{rules, codes, ap}
use Rattle.sci_io.proofs.Advance.{then_writes, stopped, same_text}
use Rattle.sci_print.specs.Line.{details_text}
use Rattle.sci_print.proofs.report.line.put_end.Goals as goal

pub returns-in_err-put_details : goal.returns-in_err-put_details
returns-in_err-put_details g c =
    stopped (details_text c.args.refusal.now.detail.items) (codes "\n") c.put_details.result c.from_residual.result _ _ c.in_err-put_details.was (search rules) (same_text (ap details_text c.as_slice.ensures.value) c.put_details.ensures)

pub returns : goal.returns
returns g c =
    then_writes (details_text c.args.refusal.now.detail.items) (codes "\n") c.put_details.result c.put.result _ c.in_ok-put_details.was (same_text (ap details_text c.as_slice.ensures.value) c.put_details.ensures) (same_text c.as_bytes.ensures.value c.put.ensures.written)
