use Rattle.std.proofs.Common.{rules}
use Rattle.std.proofs.lemmas.Int.{to_z-of_z}
use mir.Val.{SFits}
use mir.Syntax.{w64}
use Rattle.c_print.proofs.Steps.{goes_then}
use Rattle.c_print.proofs.printer.Printer.bound.Goals as goal

pub returns-in-Num : goal.returns-in-Num
returns-in-Num g c = let fits : SFits w64 c.in-Num.n = search rules in rw c.in-Num.is (goes_then c.text.ensures (goes_then (rw (to_z-of_z w64 c.in-Num.n fits) at c.number.ensures) c.text-in-Num.ensures))
