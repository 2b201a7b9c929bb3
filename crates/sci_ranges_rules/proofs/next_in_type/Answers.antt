use Rattle.sci_ranges_rules.proofs.Typing.{next_in_type}
use Rattle.sci_ranges_rules.proofs.next_in_type.Goals as goal

pub returns : goal.returns
returns c = next_in_type
