use Rattle.std.proofs.Common.{rules}
use Rattle.sci_print.specs.Numbers.{numbers_line}
use Rattle.sci_deliver.proofs.Giving.{flushed, not_flushed}
use Rattle.sci_deliver.proofs.deliver.give_line.Goals as goal

pub returns-in_err-put_line : goal.returns-in_err-put_line
returns-in_err-put_line g c = not_flushed (numbers_line c.args.word.now c.args.numbers.now) c.put_line.result c.from_residual.result _ _ c.in_err-put_line.was (search rules) c.put_line.ensures

pub returns : goal.returns
returns g c = flushed (numbers_line c.args.word.now c.args.numbers.now) c.put_line.result c.flush.result _ c.in_ok-put_line.was c.put_line.ensures c.flush.ensures.written c.flush.ensures.all
