use Rattle.sci_store.proofs.Guarding.{KeepsGuarded}
use Rattle.sci_store.proofs.row.guarded.Given as goal

-- the entries of the guarded ones so far are kept, and those of the ranks to come are as they were
abbrev pub invariant-loop-rank : goal.invariant-loop-rank
invariant-loop-rank l = KeepsGuarded l.initial.entries l.entries l.order l.rank-index l.kept.items
