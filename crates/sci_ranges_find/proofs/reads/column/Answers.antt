use Rattle.std.proofs.Common.{◌∙◌, arith}
use Rattle.sci_ranges_find.proofs.Entering.{column_read}
use Rattle.sci_ranges_find.proofs.reads.column.Goals as goal

pub returns-then-number-columns : goal.returns-then-number-columns
returns-then-number-columns c =
    c.as_slice.ensures.value
    ∙ column_read c.columns-columns.result.now c.args.inputs.now c.args.number c.index-columns-number.result c.columns-columns.ensures (omega arith) (omega arith) c.index-columns-number.is
