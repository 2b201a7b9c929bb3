use Rattle.sci_command_laws.proofs.Counted.{counts_add_up, stopped_counts_add_up}
use Rattle.sci_command_laws.proofs.counts_add_up.Goals as goal

pub returns-clause-ended : goal.returns-clause-ended
returns-clause-ended c = counts_add_up

pub returns-clause-stopped : goal.returns-clause-stopped
returns-clause-stopped c = stopped_counts_add_up
