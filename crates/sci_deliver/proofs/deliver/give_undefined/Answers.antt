use Rattle.std.proofs.Common.{rules}
use Rattle.sci_answers.specs.RunC.{undefined_line}
use Rattle.sci_deliver.proofs.Giving.{flushed, not_flushed}
use Rattle.sci_deliver.proofs.deliver.give_undefined.Goals as goal

pub returns-in_err-put_undefined : goal.returns-in_err-put_undefined
returns-in_err-put_undefined g c = not_flushed (undefined_line c.args.statement) c.put_undefined.result c.from_residual.result _ _ c.in_err-put_undefined.was (search rules) c.put_undefined.ensures

pub returns : goal.returns
returns g c = flushed (undefined_line c.args.statement) c.put_undefined.result c.flush.result _ c.in_ok-put_undefined.was c.put_undefined.ensures c.flush.ensures.written c.flush.ensures.all
