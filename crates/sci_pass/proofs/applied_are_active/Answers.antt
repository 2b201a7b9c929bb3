use Rattle.sci_pass.proofs.Stays.{applied_are_active}
use Rattle.sci_pass.proofs.applied_are_active.Goals as goal

pub returns : goal.returns
returns c n m i s row w b is front = applied_are_active n m i s row w b is front
