use Rattle.sci_reaction.proofs.Results.{pass_result}
use Rattle.sci_reaction.proofs.pass_finds_result.Goals as goal

pub returns : goal.returns
returns c n m i s row net free is = pass_result n m i s net free row is
