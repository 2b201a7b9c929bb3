use Rattle.sci_reaction.specs.Depends.{Depends}
use Rattle.sci_loop.proofs.Depth.{one_depth, depth_falls}
use Rattle.sci_reaction.proofs.OneResult.{depth_of}
use Rattle.sci_reaction.proofs.depths.Goals as goal

pub returns-clause-one : goal.returns-clause-one
returns-clause-one c n s b net free may =
    let x = depth_of n s free b may in (x.0, x.1, λ e has. one_depth (Depends n s) b e x.0 has x.1)

pub returns-clause-rises : goal.returns-clause-rises
returns-clause-rises c n s b a d e dep x y = depth_falls (Depends n s) b a d e dep x y
