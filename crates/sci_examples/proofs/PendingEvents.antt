-- Pending events, worked out by hand. In `three` source 1 is programmed for date 5, then source 2 for 5 and source 3 for 4; in `anew` source 1 once more.
use Rattle.std.proofs.Common.{◌≡◌, false, [], ◌∷◌, Some, refl, arith, true≢false}
use Rattle.sci_pending.specs.Pending.{next, without, is_pending, without_source}
use Rattle.sci_pending.specs.Order.{in_order, Falls, AreOnce}
use Rattle.sci_pending.specs.Worked.{event, three, anew}

-- the lesser date fires first, and of one date the one that was programmed first
least_date : next three.events ≡ Some (event 4 2 3)
least_date = refl

first_programmed : next (without 2 three.events) ≡ Some (event 5 0 1)
first_programmed = refl

wherever_it_stands : next (event 5 0 1 ∷ event 5 1 2 ∷ []) ≡ Some (event 5 0 1)
wherever_it_stands = refl

order : in_order three.events ≡ (4, 3) ∷ (5, 1) ∷ (5, 2) ∷ []
order = refl

-- a source that is programmed anew has one event, behind those of its date
one_event : anew.events ≡ event 5 3 1 ∷ event 4 2 3 ∷ event 5 1 2 ∷ []
one_event = refl

behind : in_order anew.events ≡ (4, 3) ∷ (5, 2) ∷ (5, 1) ∷ []
behind = refl

counted : anew.programmed ≡ 4
counted = refl

gone : is_pending 3 (without_source 3 anew.events) ≡ false
gone = refl

-- orders fall from the last programmed on: 3 isn't less than 2
falls : Falls 5 (event 1 2 1 ∷ event 1 3 2 ∷ []) → ⊥
falls h = omega (arith, h.1.0)

-- each order is less than how many were programmed
below_count : Falls 2 (event 1 2 1 ∷ []) → ⊥
below_count h = omega (arith, h.0)

-- source 7 is pending twice, with two orders
twice : AreOnce (event 1 0 7 ∷ event 2 1 7 ∷ []) → ⊥
twice h = true≢false h.0
