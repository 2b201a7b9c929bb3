use Rattle.c_print.proofs.Steps.{goes_then}
use Rattle.c_print.proofs.printer.Printer.ask.Goals as goal

pub returns-in-More : goal.returns-in-More
returns-in-More g c = rw c.in-More.is (goes_then c.text.ensures (goes_then c.expr.ensures c.text-in-More.ensures))

pub returns-in-Input : goal.returns-in-Input
returns-in-Input g c = rw c.in-Input.is (goes_then c.text-in-Input.ensures (goes_then c.expr-in-Input.ensures c.text-in-Input-2.ensures))

pub returns-in-Until : goal.returns-in-Until
returns-in-Until g c = rw c.in-Until.is (c.text-in-Until.ensures)

pub returns-in-Limit : goal.returns-in-Limit
returns-in-Limit g c = rw c.in-Limit.is (c.text-in-Limit.ensures)
