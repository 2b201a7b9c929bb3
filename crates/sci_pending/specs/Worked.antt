-- Pending events by hand.
use Rattle.std.specs.Prelude.{◌≡◌, ℕ, true, false, List, [], ◌∷◌, Some, None}
use Rattle.sci_pending.specs.Pending.{Event, Pending, next, without, is_pending, programmed, without_source, replaced}
use Rattle.sci_pending.specs.Order.{in_order}

abbrev pub event : (date order source : ℕ) → Event
event date order source = record { date = date; order = order; source = source }

abbrev pub nothing : Pending
nothing = record { events = []; programmed = 0 }

-- source 1 is programmed for date 5, then source 2 for 5 and source 3 for 4
abbrev pub three : Pending
three = programmed (programmed (programmed nothing 5 1) 5 2) 4 3

-- and then source 1 anew, for date 5 once more
abbrev pub anew : Pending
anew = replaced three 5 1

pub record WorkedEvents : Type 0 where
  pub none : next [] ≡ None
  -- the lesser date fires first, and of one date the one that was programmed first
  pub least_date : next three.events ≡ Some (event 4 2 3)
  pub first_programmed : next (without 2 three.events) ≡ Some (event 5 0 1)
  pub order : in_order three.events ≡ (4, 3) ∷ (5, 1) ∷ (5, 2) ∷ []
  -- a source that is programmed anew has one event, behind those of its date
  pub one_event : anew.events ≡ event 5 3 1 ∷ event 4 2 3 ∷ event 5 1 2 ∷ []
  pub behind : in_order anew.events ≡ (4, 3) ∷ (5, 2) ∷ (5, 1) ∷ []
  pub counted : anew.programmed ≡ 4
  pub waits : is_pending 3 anew.events ≡ true
  pub gone : is_pending 3 (without_source 3 anew.events) ≡ false
