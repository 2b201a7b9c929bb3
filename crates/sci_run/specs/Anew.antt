-- What is pending, numbered anew from the list of what falls due.
use Rattle.std.specs.Prelude.{◌≡◌, ℕ, ◌≤◌, List, [], ◌∷◌}
use Rattle.sci_pending.specs.Pending.{Pending, programmed}
use Rattle.sci_pending.specs.Order.{Falls, in_order}

-- each (date, source) of the list is programmed, in this order
abbrev pub programmed_in_order : List (ℕ × ℕ) → Pending → Pending
programmed_in_order [] p = p
programmed_in_order (d ∷ ds) p = programmed_in_order ds (programmed p d.0 d.1)

abbrev pub numbered_anew : List (ℕ × ℕ) → Pending
numbered_anew ds = programmed_in_order ds (record { events = []; programmed = 0 })

-- from this date on, dates never fall
abbrev pub Rises : ℕ → List (ℕ × ℕ) → Type 0
Rises date [] = Unit {0}
Rises date (d ∷ ds) = (date ≤ d.0) × Rises d.0 ds

-- they fire in the order in which they were listed
pub record NumberedAnewLaw : Type 0 where
  pub in_order_again : (ds : List (ℕ × ℕ)) → Rises 0 ds → in_order (numbered_anew ds).events ≡ ds
  pub numbered : (ds : List (ℕ × ℕ)) → Falls (numbered_anew ds).programmed (numbered_anew ds).events
