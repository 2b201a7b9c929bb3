use Rattle.std.proofs.Common.{arith}
use Rattle.std.proofs.lemmas.List.{drop-set, drop_all}
use Rattle.sci_trace.proofs.write.end_line.Goals as goal

pub returns-clause-text : goal.returns-clause-text
returns-clause-text c = rw (drop-set c.args.line.now 95 10 (omega arith), drop_all 96 c.args.line.now (omega arith))
