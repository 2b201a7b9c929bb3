use Rattle.sci_pass.proofs.Meanings.{no_state}
use Rattle.sci_pass.proofs.no_state.Goals as goal

pub returns : goal.returns
returns c s h = no_state s h
