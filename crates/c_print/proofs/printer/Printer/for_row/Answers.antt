use Rattle.std.proofs.Common.{append_assoc}
use Rattle.c_print.proofs.Steps.{goes_then, goes_as}
use Rattle.c_print.proofs.printer.Printer.for_row.Goals as goal

pub returns : goal.returns
returns g c = goes_as (simp append_assoc) (goes_then c.blanks.ensures (goes_then c.text.ensures (goes_then c.name.ensures (goes_then c.text-2.ensures (goes_then c.name-2.ensures (goes_then c.text-3.ensures (goes_then c.bound.ensures (goes_then c.text-4.ensures (goes_then c.name-3.ensures (goes_then c.text-5.ensures (goes_then c.name-4.ensures c.text-6.ensures)))))))))))
