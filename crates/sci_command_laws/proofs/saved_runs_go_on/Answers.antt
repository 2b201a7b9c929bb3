use Rattle.sci_command_laws.proofs.Resumed.{resumes_alike, resume_is_due}
use Rattle.sci_command_laws.proofs.saved_runs_go_on.Goals as goal

pub returns-clause-alike : goal.returns-clause-alike
returns-clause-alike c = resumes_alike

pub returns-clause-due : goal.returns-clause-due
returns-clause-due c = resume_is_due
