use Rattle.sci_agree.proofs.Verdicts.{yes_is_due, no_is_first}
use Rattle.sci_agree.proofs.verdicts_name_the_line.Goals as goal

pub returns-clause-yes : goal.returns-clause-yes
returns-clause-yes c = yes_is_due

pub returns-clause-no : goal.returns-clause-no
returns-clause-no c = no_is_first
