use Rattle.c_print.proofs.Steps.{goes_then}
use Rattle.c_print.proofs.printer.Printer.target.Goals as goal

pub returns-in-At : goal.returns-in-At
returns-in-At g c = rw c.in-At.is (goes_then c.name-in-At.ensures (goes_then c.text.ensures (goes_then c.expr.ensures c.text-in-At.ensures)))
