use Rattle.sci_pass.proofs.Meanings.{state_stays}
use Rattle.sci_pass.proofs.state_stays.Goals as goal

pub returns : goal.returns
returns c s x mask u h st = state_stays s x mask u h st
