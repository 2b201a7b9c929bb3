use Rattle.sci_run.proofs.SameRest.{alike_rest, same_rest}
use Rattle.sci_run.proofs.Anew.{anew}
use Rattle.sci_run.proofs.same_rest.Goals as goal

pub returns-clause-alike : goal.returns-clause-alike
returns-clause-alike c n i until limit st other os alike rest = alike_rest n i until limit st other os alike rest

pub returns-clause-in_order : goal.returns-clause-in_order
returns-clause-in_order c n i until limit st other os alike rest = same_rest n i until limit st other os alike rest

pub returns-clause-anew : goal.returns-clause-anew
returns-clause-anew c = anew
