use Rattle.std.proofs.Common.{length, ap, arith}
use Rattle.c_parse.specs.LineView.{indented_of}
use Rattle.c_parse.proofs.LineTakes.{row_takes}
use Rattle.c_read.proofs.reader.pass_row.Goals as goal

pub row-requires-2 : goal.row-requires-2
row-requires-2 c = let e = ap length (row_takes c.args.line.now (indented_of c.in_ok-row.row) c.in_ok-row.ensures).0 in omega arith
