use Rattle.sci_command_laws.proofs.DumpRuns.{dump_tells_run}
use Rattle.sci_command_laws.proofs.dump_tells_run.Goals as goal

pub returns : goal.returns
returns c = dump_tells_run
