use Rattle.sci_agenda.proofs.Least.{NoneBefore}
use Rattle.sci_agenda.proofs.wheel.first_far.Given as goal

abbrev pub invariant-loop-rank : goal.invariant-loop-rank
invariant-loop-rank l = NoneBefore l.links l.now l.rank
