use Rattle.std.proofs.Common.{arith}
use Rattle.std.proofs.lemmas.List.{drop_all}
use Rattle.sci_vcd.proofs.line_end.put_end.Goals as goal

pub returns-clause-text : goal.returns-clause-text
returns-clause-text c = rw (c.word_before.ensures.text, c.digits_before-at.ensures.text, c.byte_before-at.ensures.text, drop_all 24 c.args.text.now (omega arith))
