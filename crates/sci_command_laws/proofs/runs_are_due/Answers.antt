use Rattle.sci_command_laws.proofs.RunsDue.{save_is_due, dump_is_due}
use Rattle.sci_command_laws.proofs.runs_are_due.Goals as goal

pub returns-clause-saved : goal.returns-clause-saved
returns-clause-saved c = save_is_due

pub returns-clause-dumped : goal.returns-clause-dumped
returns-clause-dumped c = dump_is_due
