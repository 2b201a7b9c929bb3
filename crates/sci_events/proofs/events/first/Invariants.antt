use Rattle.std.proofs.Common.{◌≡◌, take, option_map}
use Rattle.sci_pending.specs.Pending.{next}
use Rattle.sci_events.specs.Events.{event_of, events_of}
use Rattle.sci_events.proofs.events.first.Given as goal

-- of the events so far it is the one that fires first
abbrev pub invariant-loop-event : goal.invariant-loop-event
invariant-loop-event l = option_map event_of l.first ≡ next (events_of (take l.event-index l.events))
