use Rattle.sci_vcd.proofs.Blaming.{one_first_wrong}
use Rattle.sci_vcd.proofs.laws.one_first_wrong.Goals as goal

pub returns : goal.returns
returns c = one_first_wrong
