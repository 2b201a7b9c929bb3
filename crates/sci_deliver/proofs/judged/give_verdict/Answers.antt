use Rattle.sci_answers.specs.Judge.{verdict_line}
use Rattle.sci_deliver.proofs.Giving.{flushed}
use Rattle.sci_deliver.proofs.judged.give_verdict.Goals as goal

pub returns : goal.returns
returns g c = flushed (verdict_line c.args.verdict) c.put_verdict.result c.flush.result _ c.in_ok-put_verdict.was c.put_verdict.ensures c.flush.ensures.written c.flush.ensures.all
