use Rattle.sci_rounds.proofs.Levels.{rounds_begin, rounds_go_on, earlier_are_done}
use Rattle.sci_rounds.proofs.rounds_go_by_depth.Goals as goal

pub returns-clause-begin : goal.returns-clause-begin
returns-clause-begin c n s = rounds_begin n s

pub returns-clause-go_on : goal.returns-clause-go_on
returns-clause-go_on c n s k begun done behind exactly = rounds_go_on n s k begun behind done exactly

pub returns-clause-earlier : goal.returns-clause-earlier
returns-clause-earlier c n s k begun done b behind ready round d may before = earlier_are_done n s k begun behind done b ready round d may before
