use Rattle.sci_vcd.proofs.Blaming.{one_dump}
use Rattle.sci_vcd.proofs.laws.one_dump.Goals as goal

pub returns : goal.returns
returns c = one_dump
