use Rattle.sci_ranges_rules.proofs.Turning.{branch_covers}
use Rattle.sci_ranges_rules.proofs.branch_covers.Goals as goal

pub returns : goal.returns
returns c = branch_covers
