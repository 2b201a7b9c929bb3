use Rattle.sci_command_laws.proofs.Judging.{judge_says_yes, judge_says_yes_of_nothing_else}
use Rattle.sci_command_laws.proofs.judge_says_yes_of_the_trace_alone.Goals as goal

pub returns-clause-yes : goal.returns-clause-yes
returns-clause-yes c = judge_says_yes

pub returns-clause-only : goal.returns-clause-only
returns-clause-only c = judge_says_yes_of_nothing_else
