use Rattle.std.proofs.lemmas.Int.{to_z-of_z}
use mir.Val.{SFits}
use mir.Syntax.{w64}
use Rattle.std.proofs.Common.{rules}
use Rattle.c_print.proofs.Steps.{goes_then}
use Rattle.c_print.proofs.printer.Printer.+expr.Goals as goal

pub returns-in-Num : goal.returns-in-Num
returns-in-Num g t c =
    let fits : SFits w64 c.in-Num.n = search rules in
    rw c.in-Num.is (goes_then c.text.ensures (goes_then (rw (to_z-of_z w64 c.in-Num.n fits) at c.number.ensures) c.text-in-Num.ensures))

pub returns-in-At : goal.returns-in-At
returns-in-At g t c = rw c.in-At.is (goes_then c.name-in-At.ensures (goes_then c.text-in-At.ensures (goes_then (rw c.deref.ensures at c.expr.ensures) c.text-in-At-2.ensures)))

pub returns-in-Neg : goal.returns-in-Neg
returns-in-Neg g t c = rw c.in-Neg.is (goes_then c.text-in-Neg.ensures (goes_then (rw c.deref-in-Neg.ensures at c.expr-in-Neg.ensures) c.text-in-Neg-2.ensures))

pub returns-in-Not : goal.returns-in-Not
returns-in-Not g t c = rw c.in-Not.is (goes_then c.text-in-Not.ensures (goes_then (rw c.deref-in-Not.ensures at c.expr-in-Not.ensures) c.text-in-Not-2.ensures))

pub returns-in-Bin : goal.returns-in-Bin
returns-in-Bin g t c = rw c.in-Bin.is (goes_then (rw c.op_front.ensures.text at c.text-in-Bin.ensures) (goes_then (rw c.deref-in-Bin.ensures at c.expr-in-Bin.ensures) (goes_then (rw c.op_piece.ensures.text at c.text-in-Bin-2.ensures) (goes_then (rw c.deref-in-Bin-2.ensures at c.expr-in-Bin-2.ensures) c.text-in-Bin-3.ensures))))
