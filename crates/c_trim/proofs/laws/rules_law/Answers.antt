use Rattle.c_trim.proofs.Rules.{rules_stay}
use Rattle.c_trim.proofs.laws.rules_law.Goals as goal

pub returns : goal.returns
returns c = rules_stay
