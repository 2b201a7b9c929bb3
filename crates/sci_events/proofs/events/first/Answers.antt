use Rattle.std.proofs.Common.{ap, ◌∙◌, arith}
use Rattle.std.proofs.lemmas.List.{take_all}
use Rattle.sci_pending.specs.Pending.{next}
use Rattle.sci_events.specs.Events.{events_of}
use Rattle.sci_events.proofs.Listed.{next_more}
use Rattle.sci_events.proofs.events.first.Goals as goal

pub loop-event-preserved : goal.loop-event-preserved
loop-event-preserved c =
    next_more c.args.events.now c.loop-event.event-index _ c.earlier.result c.loop-event.first c.loop-event-test.true c.loop-event.invariant
    c.earlier.ensures

pub returns : goal.returns
returns c = c.loop-event.invariant ∙ ap (λ es. next (events_of es)) (take_all c.loop-event.event-index c.args.events.now (omega (arith, c.loop-event-test.false)))
