use Rattle.sci_vcd.proofs.Told.{written_is_dump}
use Rattle.sci_vcd.proofs.laws.written_is_dump.Goals as goal

pub returns : goal.returns
returns c = written_is_dump
