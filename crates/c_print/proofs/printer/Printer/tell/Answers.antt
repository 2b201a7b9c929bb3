use Rattle.c_print.proofs.Steps.{goes_then}
use Rattle.c_print.proofs.printer.Printer.tell.Goals as goal

pub returns-in-Event : goal.returns-in-Event
returns-in-Event g c = rw c.in-Event.is (goes_then c.text-in-Event.ensures (goes_then c.expr.ensures (goes_then c.text-in-Event-2.ensures (goes_then c.expr-in-Event.ensures (goes_then c.text-in-Event-3.ensures (goes_then c.expr-in-Event-2.ensures c.text-in-Event-4.ensures))))))

pub returns-in-Val : goal.returns-in-Val
returns-in-Val g c = rw c.in-Val.is (goes_then c.text-in-Val.ensures (goes_then c.expr-in-Val.ensures (goes_then c.text-in-Val-2.ensures (goes_then c.expr-in-Val-2.ensures (goes_then c.text-in-Val-3.ensures (goes_then c.expr-in-Val-3.ensures (goes_then c.text-in-Val-4.ensures (goes_then c.expr-in-Val-4.ensures c.text-in-Val-5.ensures))))))))

pub returns-in-End : goal.returns-in-End
returns-in-End g c = rw c.in-End.is (goes_then c.text-in-End.ensures (goes_then c.expr-in-End.ensures c.text-in-End-2.ensures))

pub returns-in-Stop : goal.returns-in-Stop
returns-in-Stop g c = rw c.in-Stop.is (goes_then c.text-in-Stop.ensures (goes_then c.expr-in-Stop.ensures (goes_then c.text-in-Stop-2.ensures (goes_then c.expr-in-Stop-2.ensures (goes_then c.text-in-Stop-3.ensures (goes_then c.expr-in-Stop-3.ensures c.text-in-Stop-4.ensures))))))

pub returns-in-Start : goal.returns-in-Start
returns-in-Start g c = rw c.in-Start.is c.text.ensures
