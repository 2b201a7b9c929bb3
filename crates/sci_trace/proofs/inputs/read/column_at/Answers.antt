use Rattle.std.proofs.Common.{◌∙◌}
use Rattle.sci_trace.proofs.Reading.{column_found}
use Rattle.sci_trace.proofs.inputs.read.column_at.Goals as goal

pub returns-in-Some : goal.returns-in-Some
returns-in-Some c =
    let h = c.in-Some.ensures.lookup in
    c.as_slice.ensures.value ∙ column_found c.args.columns.now c.args.k c.in-Some.column.now c.if-k-eq0.false h.0 h.1
