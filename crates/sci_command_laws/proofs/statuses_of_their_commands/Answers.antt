use Rattle.sci_command_laws.proofs.Statuses.{each_has_its_statuses, eight_is_of_judge, seven_is_of_crun, six_is_of_runs}
use Rattle.sci_command_laws.proofs.statuses_of_their_commands.Goals as goal

pub returns-clause-each : goal.returns-clause-each
returns-clause-each c = each_has_its_statuses

pub returns-clause-eight : goal.returns-clause-eight
returns-clause-eight c = eight_is_of_judge

pub returns-clause-seven : goal.returns-clause-seven
returns-clause-seven c = seven_is_of_crun

pub returns-clause-six : goal.returns-clause-six
returns-clause-six c = six_is_of_runs
