use Rattle.std.proofs.Common.{refl}
use Rattle.sci_reaction.specs.Equations.{branch_on, answer}
use Rattle.sci_reaction.proofs.worked_reactions.Goals as goal

pub returns-clause-values : goal.returns-clause-values
unfolding branch_on answer
returns-clause-values c = (refl, refl, refl)

pub returns-clause-stop : goal.returns-clause-stop
unfolding branch_on answer
returns-clause-stop c = refl
