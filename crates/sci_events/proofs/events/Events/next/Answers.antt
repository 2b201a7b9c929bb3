use Rattle.std.proofs.Common.{ap, ◌∙◌}
use Rattle.sci_pending.specs.Pending.{next}
use Rattle.sci_events.specs.Events.{events_of, Waiting}
use Rattle.sci_events.proofs.events.Events.next.Goals as goal

pub returns : goal.returns
returns c =
    c.first.ensures ∙ (ap (λ es. next (events_of es)) c.deref.ensures.value ∙ ap (λ (w : Waiting). next w.pending.events) c.self.view_is)
