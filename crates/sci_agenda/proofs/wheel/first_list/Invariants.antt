use Rattle.sci_agenda.proofs.Least.{NoneBefore}
use Rattle.sci_agenda.proofs.wheel.first_list.Given as goal

abbrev pub invariant-loop-list : goal.invariant-loop-list
invariant-loop-list l = NoneBefore l.links l.now l.list
