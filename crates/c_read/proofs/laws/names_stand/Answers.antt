use Rattle.c_read.proofs.Standing.{program_stand}
use Rattle.c_read.proofs.Rising.{program_rises}
use Rattle.c_read.proofs.laws.names_stand.Goals as goal

pub returns-clause-there : goal.returns-clause-there
returns-clause-there c = program_stand

pub returns-clause-rise : goal.returns-clause-rise
returns-clause-rise c = program_rises
