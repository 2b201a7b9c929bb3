use Rattle.std.proofs.Common.{rules}
use Rattle.sci_agree.proofs.Taking.{few_lines}
use Rattle.sci_agree.proofs.comparing.Comparing.lines.Goals as goal

pub returns-clause-small : goal.returns-clause-small
returns-clause-small c = let few = few_lines _ c.self.invariant in search (rules, few)
