use Rattle.std.proofs.Common.{rules}
use Rattle.std.specs.Prelude.{codes}
use Rattle.sci_io.proofs.Advance.{then_writes, stopped, same_text}
use Rattle.sci_save.specs.Text.{events_text}
use Rattle.sci_save.proofs.write.put_pending.Goals as goal

pub returns-in_err-put_events : goal.returns-in_err-put_events
returns-in_err-put_events g c =
    stopped (events_text c.args.net.now c.args.events.now) (codes "done\n") c.put_events.result c.from_residual.result _ _ c.in_err-put_events.was (search rules) c.put_events.ensures

pub returns : goal.returns
returns g c =
    then_writes (events_text c.args.net.now c.args.events.now) (codes "done\n") c.put_events.result c.put.result _ c.in_ok-put_events.was c.put_events.ensures (same_text c.as_bytes.ensures.value c.put.ensures.written)
