use Rattle.sci_program_laws.proofs.Following.{program_follows_run}
use Rattle.sci_program_laws.proofs.event_law.Goals as goal

pub returns : goal.returns
returns c = program_follows_run
