use Rattle.sci_pass.proofs.Meanings.{same_but_state}
use Rattle.sci_pass.proofs.same_but_state.Goals as goal

pub returns : goal.returns
returns c s t same = same_but_state s t same
