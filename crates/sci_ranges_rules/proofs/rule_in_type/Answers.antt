use Rattle.sci_ranges_rules.proofs.Typing.{rule_in_type}
use Rattle.sci_ranges_rules.proofs.rule_in_type.Goals as goal

pub returns : goal.returns
returns c = rule_in_type
