use Rattle.sci_loop.specs.Laws.{Tests}
use Rattle.sci_loop.proofs.Grounded.{grounded_no_loop}
use Rattle.sci_loop.proofs.relation.grounded_has_no_loop.Goals as goal

pub returns : goal.returns
returns c test all xs h = grounded_no_loop (Tests test) all xs h
