use Rattle.sci_pass.proofs.Stays.{mask_stays}
use Rattle.sci_pass.proofs.mask_stays.Goals as goal

pub returns : goal.returns
returns c n s row pre post e y vs b mask is mask_is = mask_stays n s is.net is.free row is.row_is pre post e is.split b is.among y vs mask mask_is
