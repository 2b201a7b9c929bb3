use Rattle.sci_reaction.specs.Equations.{IsActivated}
use Rattle.sci_reaction.proofs.Exists.{same_mask}
use Rattle.sci_pass.proofs.one_mask.Goals as goal

pub returns : goal.returns
returns c n s y b one other is too = same_mask (IsActivated n s y b) one other is too
