-- The pending events in the order in which they fire, and how they are numbered.
use Rattle.std.specs.Prelude.{◌≡◌, ℕ, ◌<◌, false, List, [], ◌∷◌, if◌then◌else◌, map}
use Rattle.sci_pending.specs.Pending.{Event, Pending, is_earlier, is_pending}

-- before all that are later
abbrev pub put_sorted : Event → List Event → List Event
put_sorted e [] = e ∷ []
put_sorted e (x ∷ xs) = if is_earlier e x then e ∷ x ∷ xs else x ∷ put_sorted e xs

abbrev pub sorted : List Event → List Event
sorted [] = []
sorted (e ∷ es) = put_sorted e (sorted es)

abbrev pub due : Event → ℕ × ℕ
due e = (e.date, e.source)

-- date and source of each, in the order in which they fire
abbrev pub in_order : List Event → List (ℕ × ℕ)
in_order es = map due (sorted es)

-- the one that was programmed last is first: each order is less than the one before, and than n
abbrev pub Falls : ℕ → List Event → Type 0
Falls n [] = Unit {0}
Falls n (e ∷ es) = (e.order < n) × Falls e.order es

-- the events are numbered as they were programmed
abbrev pub IsNumbered : Pending → Type 0
IsNumbered p = Falls p.programmed p.events

-- of each source at most one event is pending
abbrev pub AreOnce : List Event → Type 0
AreOnce [] = Unit {0}
AreOnce (e ∷ es) = (is_pending e.source es ≡ false) × AreOnce es
