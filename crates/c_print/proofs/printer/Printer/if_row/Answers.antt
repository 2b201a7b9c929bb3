use Rattle.std.proofs.Common.{append_assoc}
use Rattle.c_print.proofs.Steps.{goes_then, goes_as}
use Rattle.c_print.proofs.printer.Printer.if_row.Goals as goal

pub returns : goal.returns
returns g c = goes_as (simp append_assoc) (goes_then c.blanks.ensures (goes_then c.text.ensures (goes_then c.expr.ensures c.text-2.ensures)))
