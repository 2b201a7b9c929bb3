use Rattle.std.proofs.Common.{arith}
use Rattle.std.proofs.lemmas.List.{drop-set, drop_all}
use Rattle.sci_vcd.proofs.spell.end_line.Goals as goal

pub returns-clause-text : goal.returns-clause-text
returns-clause-text c = rw (drop-set c.args.line.now 127 10 (omega arith), drop_all 128 c.args.line.now (omega arith))
