use Rattle.std.proofs.Common.{append_assoc}
use Rattle.c_print.proofs.Steps.{goes_then, goes_as}
use Rattle.c_print.proofs.printer.Printer.call_row.Goals as goal

pub returns : goal.returns
returns g c = goes_as (simp append_assoc) (goes_then c.blanks.ensures (goes_then c.name.ensures c.text.ensures))
