use Rattle.std.proofs.Common.{rules}
use Rattle.sci_io.proofs.Advance.{same_text}
use Rattle.sci_range_commands.proofs.Giving.{flushed, not_flushed}
use Rattle.sci_range_commands.proofs.deliver.give.Goals as goal

pub returns-in_err-put : goal.returns-in_err-put
returns-in_err-put g c = not_flushed c.args.text.now c.put.result c.from_residual.result _ _ c.in_err-put.was (search rules) (same_text c.as_bytes.ensures.value c.put.ensures.written)

pub returns : goal.returns
returns g c = flushed c.args.text.now c.put.result c.flush.result _ c.in_ok-put.was (same_text c.as_bytes.ensures.value c.put.ensures.written) c.flush.ensures.written c.flush.ensures.all
