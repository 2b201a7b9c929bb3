use Rattle.std.proofs.Common.{rules}
use Rattle.sci_base.specs.Plain.{violation_of}
use Rattle.sci_print.specs.Line.{refused_line}
use Rattle.sci_range_commands.proofs.Giving.{flushed, not_flushed}
use Rattle.sci_range_commands.proofs.deliver.give_refusal.Goals as goal

pub returns-in_err-put_refused : goal.returns-in_err-put_refused
returns-in_err-put_refused g c = not_flushed (refused_line (violation_of c.args.refusal.now)) c.put_refused.result c.from_residual.result _ _ c.in_err-put_refused.was (search rules) c.put_refused.ensures

pub returns : goal.returns
returns g c = flushed (refused_line (violation_of c.args.refusal.now)) c.put_refused.result c.flush.result _ c.in_ok-put_refused.was c.put_refused.ensures c.flush.ensures.written c.flush.ensures.all
