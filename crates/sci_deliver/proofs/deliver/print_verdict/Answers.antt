use Rattle.sci_deliver.proofs.Verdicts.{verdict_written, verdict_cut}
use Rattle.sci_deliver.proofs.deliver.print_verdict.Goals as goal

pub returns-in-Ok : goal.returns-in-Ok
returns-in-Ok g c = verdict_written c.args.verdict _ _ _ _ c.status_of.ensures c.in-Ok.ensures

pub returns-in-Err : goal.returns-in-Err
returns-in-Err g c = verdict_cut c.args.verdict _ _ _ _ _ c.in-Err.ensures c.say_write_fault.ensures
