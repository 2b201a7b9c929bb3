use Rattle.sci_pass.proofs.Stays.{branch_stays}
use Rattle.sci_pass.proofs.branch_stays.Goals as goal

pub returns : goal.returns
returns c n s row pre post e y vs b is = branch_stays n s is.net is.free row is.row_is pre post e is.split b is.among y vs
