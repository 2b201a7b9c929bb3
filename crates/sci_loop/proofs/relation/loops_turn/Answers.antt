use Rattle.sci_loop.specs.Laws.{Tests}
use Rattle.sci_loop.proofs.Rounds.{loop_turned}
use Rattle.sci_loop.proofs.relation.loops_turn.Goals as goal

pub returns : goal.returns
returns c test xs ys h = loop_turned (Tests test) xs ys h
