use Rattle.sci_reaction.proofs.Steps.{pass_begins, pass_goes_on, pass_ends}
use Rattle.sci_reaction.proofs.pass_in_steps.Goals as goal

pub returns-clause-begins : goal.returns-clause-begins
returns-clause-begins c = pass_begins

pub returns-clause-goes_on : goal.returns-clause-goes_on
returns-clause-goes_on c n m i s row pre post e w net free is split front = pass_goes_on n m i s net free row is pre post e w split front

pub returns-clause-ends : goal.returns-clause-ends
returns-clause-ends c n m i s row w net is front = pass_ends n m i s row w is front
