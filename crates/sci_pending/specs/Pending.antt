-- The pending events, in no order. Each has the date at which it fires, the number in which it was programmed, and the
-- source whose event it is, by its place among those of the net.
use Rattle.std.specs.Prelude.{ℕ, ◌+◌, ◌==◌, ◌&&◌, ◌||◌, nat_lt, not, Bool, List, [], ◌∷◌, Option, Some, None, if◌then◌else◌, filter}
use Rattle.std.specs.List.{list_any}

pub record Event : Type 0 where
  pub date : ℕ
  pub order : ℕ
  pub source : ℕ

pub record Pending : Type 0 where
  pub events : List Event
  pub programmed : ℕ  -- how many were programmed so far: each order is less

-- the lesser date, and of one date the one that was programmed first
abbrev pub is_earlier : Event → Event → Bool
is_earlier a b = nat_lt a.date b.date || (a.date == b.date && nat_lt a.order b.order)

abbrev pub earlier : Event → Option Event → Event
earlier a None = a
earlier a (Some b) = if is_earlier a b then a else b

-- the next event to fire
abbrev pub next : List Event → Option Event
next [] = None
next (e ∷ es) = Some (earlier e (next es))

-- the others
abbrev pub without : ℕ → List Event → List Event
without order es = filter (λ e. not (e.order == order)) es

abbrev pub is_pending : ℕ → List Event → Bool
is_pending source es = list_any (λ e. e.source == source) es

-- an event more, with a new greatest order
abbrev pub programmed : Pending → ℕ → ℕ → Pending
programmed p date source = record {
  events = record { date = date; order = p.programmed; source = source } ∷ p.events;
  programmed = p.programmed + 1;
}

-- the events of the other sources
abbrev pub without_source : ℕ → List Event → List Event
without_source source es = filter (λ e. not (e.source == source)) es

-- the source's pending event, where there is one, is taken out, and an event more stands last among those programmed
abbrev pub replaced : Pending → ℕ → ℕ → Pending
replaced p date source = programmed (record p { events = without_source source p.events }) date source
