use Rattle.sci_vcd.proofs.Blaming.{not_both}
use Rattle.sci_vcd.proofs.laws.not_both.Goals as goal

pub returns : goal.returns
returns c = not_both
