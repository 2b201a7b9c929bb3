-- The pending events as they are kept, in a list.
use Rattle.std.specs.Prelude.{ℕ, ◌<◌, ◌≤◌, List, [], ◌∷◌, map, reverse}
use Rattle.sci_pending.specs.Pending.{Event, Pending}
use Rattle.sci_pending.specs.Order.{AreOnce}
use Rattle.sci_events.specs.declared.events.Event.{Event as Kept}

abbrev pub event_of : Kept → Event
event_of e = record { date = e.date; order = e.order; source = e.source }

-- the last of the list was programmed last
abbrev pub events_of : List Kept → List Event
events_of es = reverse (map event_of es)

-- the pending events, and how many sources there are
pub record Waiting : Type 0 where
  pub pending : Pending
  pub sources : ℕ

abbrev pub AreOf : ℕ → List Event → Type 0
AreOf sources [] = Unit {0}
AreOf sources (e ∷ es) = (e.source < sources) × AreOf sources es

-- of each source at most one event is pending, and there is room for one of each
pub record AreKept (sources room : ℕ) (es : List Event) : Type 0 where
  pub sources_are : AreOf sources es
  pub once : AreOnce es
  pub fits : sources ≤ room
