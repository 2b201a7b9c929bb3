use Rattle.std.proofs.Common.{rules}
use Rattle.sci_answers.specs.Prepared.{told_text}
use Rattle.sci_deliver.proofs.Giving.{flushed, not_flushed}
use Rattle.sci_deliver.proofs.deliver.give_told.Goals as goal

pub returns-in_err-put_told : goal.returns-in_err-put_told
returns-in_err-put_told g c = not_flushed (told_text c.args.told.now) c.put_told.result c.from_residual.result _ _ c.in_err-put_told.was (search rules) c.put_told.ensures

pub returns : goal.returns
returns g c = flushed (told_text c.args.told.now) c.put_told.result c.flush.result _ c.in_ok-put_told.was c.put_told.ensures c.flush.ensures.written c.flush.ensures.all
