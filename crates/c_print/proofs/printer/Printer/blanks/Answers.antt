use Rattle.c_print.proofs.Steps.{goes_then, goes_as, blanks_more}
use Rattle.c_print.proofs.printer.Printer.blanks.Goals as goal

pub loop-preserved : goal.loop-preserved
loop-preserved g c = goes_as (blanks_more c.loop.counter) (goes_then c.loop.invariant c.text.ensures)
