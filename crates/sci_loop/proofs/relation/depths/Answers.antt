use Rattle.sci_loop.specs.Laws.{Tests}
use Rattle.sci_loop.proofs.Decided.{decide_true}
use Rattle.sci_loop.proofs.Grounded.{no_loop_grounded}
use Rattle.sci_loop.proofs.Depth.{has_depth, one_depth, depth_falls}
use Rattle.sci_loop.proofs.relation.depths.Goals as goal

pub returns-clause-some : goal.returns-clause-some
returns-clause-some c test size n below free h =
    has_depth (Tests test) size (λ x y. decide_true (test x y)) below n (no_loop_grounded (Tests test) size below free n h)

pub returns-clause-one : goal.returns-clause-one
returns-clause-one c test n d e x y = one_depth (Tests test) n d e x y

pub returns-clause-rise : goal.returns-clause-rise
returns-clause-rise c test n b d e need x y = depth_falls (Tests test) n b d e need x y
