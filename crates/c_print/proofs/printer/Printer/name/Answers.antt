use Rattle.c_print.proofs.Steps.{goes_then}
use Rattle.c_print.proofs.printer.Printer.name.Goals as goal

pub returns : goal.returns
returns g c = goes_then c.text.ensures c.counted.ensures
