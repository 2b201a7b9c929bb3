use Rattle.sci_ranges_rows.proofs.Marking.{marked_may_act}
use Rattle.sci_ranges_rows.proofs.marked_may_act.Goals as goal

pub returns : goal.returns
returns c = marked_may_act
