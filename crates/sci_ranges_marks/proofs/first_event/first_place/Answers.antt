use Rattle.std.proofs.Common.{◌∙◌, ap}
use Rattle.sci_pending.specs.Pending.{next}
use Rattle.sci_events.specs.Events.{Waiting}
use Rattle.sci_ranges_marks.proofs.FirstEvents.{next_place}
use Rattle.sci_ranges_marks.proofs.first_event.first_place.Goals as goal

pub returns-in-Some : goal.returns-in-Some
returns-in-Some c = next_place c.args.net.now c.next.result c.in-Some.event (c.next.ensures ∙ ap (λ (w : Waiting). next w.pending.events) c.program_first.ensures) c.in-Some.is
