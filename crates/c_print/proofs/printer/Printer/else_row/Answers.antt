use Rattle.c_print.proofs.Steps.{goes_then}
use Rattle.c_print.proofs.printer.Printer.else_row.Goals as goal

pub returns : goal.returns
returns g c = goes_then c.blanks.ensures c.text.ensures
