use Rattle.sci_ranges_rules.proofs.Covers.{rule_covers}
use Rattle.sci_ranges_rules.proofs.rule_covers.Goals as goal

pub returns : goal.returns
returns c = rule_covers
