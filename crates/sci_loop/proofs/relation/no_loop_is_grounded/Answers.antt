use Rattle.sci_loop.specs.Laws.{Tests}
use Rattle.sci_loop.proofs.Grounded.{no_loop_grounded, no_loop_short}
use Rattle.sci_loop.proofs.relation.no_loop_is_grounded.Goals as goal

pub returns-clause-grounded : goal.returns-clause-grounded
returns-clause-grounded c test size n below free h = no_loop_grounded (Tests test) size below free n h

pub returns-clause-short : goal.returns-clause-short
returns-clause-short c test size n below free h = no_loop_short (Tests test) size below free n h
