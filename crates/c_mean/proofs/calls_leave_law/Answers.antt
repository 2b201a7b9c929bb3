use Rattle.c_mean.proofs.Programs.{functions_leave}
use Rattle.c_mean.proofs.calls_leave_law.Goals as goal

pub returns : goal.returns
returns c may fs last most h = functions_leave may fs last most h
