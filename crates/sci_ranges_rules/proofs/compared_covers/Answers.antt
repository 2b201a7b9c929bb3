use Rattle.sci_ranges_rules.proofs.Turning.{compared_covers}
use Rattle.sci_ranges_rules.proofs.compared_covers.Goals as goal

pub returns : goal.returns
returns c = compared_covers
