use Rattle.c_rules.proofs.Judging.{Judged}
use Rattle.c_rules.proofs.rules.first_fault.Given as goal

abbrev pub invariant-loop-i : goal.invariant-loop-i
invariant-loop-i l = Judged l.events l.i l.knowledge l.found
