use Rattle.sci_ranges_rules.proofs.Turning.{next_covers}
use Rattle.sci_ranges_rules.proofs.next_covers.Goals as goal

pub returns : goal.returns
returns c = next_covers
