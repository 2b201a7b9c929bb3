use Rattle.sci_pass.proofs.Stays.{activity_stays}
use Rattle.sci_pass.proofs.activity_stays.Goals as goal

pub returns : goal.returns
returns c n s row pre post e y vs b is = activity_stays n s is.net is.free row is.row_is pre post e is.split b is.among y vs
