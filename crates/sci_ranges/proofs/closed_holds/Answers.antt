use Rattle.sci_ranges.proofs.Running.{closed_holds}
use Rattle.sci_ranges.proofs.closed_holds.Goals as goal

pub returns : goal.returns
returns c = closed_holds
