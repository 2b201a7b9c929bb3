use Rattle.sci_command_laws.proofs.RunsAlike.{code_runs_alike, code_runs_only_so}
use Rattle.sci_command_laws.proofs.code_runs_alike.Goals as goal

pub returns-clause-alike : goal.returns-clause-alike
returns-clause-alike c = code_runs_alike

pub returns-clause-only : goal.returns-clause-only
returns-clause-only c = code_runs_only_so
