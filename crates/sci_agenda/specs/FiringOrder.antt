-- The laws of the pending events, which have their numbers and stand in no order, and of their list of (date, source) in the
-- order in which they fire.
use Rattle.std.specs.Prelude.{◌≡◌, ℕ, false, List, ◌∷◌, [], Some, None}
use Rattle.sci_pending.specs.Pending.{Event, Pending, next, without, is_pending, programmed, without_source, replaced}
use Rattle.sci_pending.specs.Order.{due, in_order, Falls, IsNumbered, AreOnce}
use Rattle.sci_agenda.specs.Firing.{put_behind, is_pending as waits, without as without_due}

-- The pending events and their list in the order of firing stand for one another in each step.
pub record FiringOrderLaw : Type 0 where
  -- an event more goes behind all of the same or a lesser date
  pub put : (p : Pending) (date source : ℕ) → IsNumbered p → in_order (programmed p date source).events ≡ put_behind (date, source) (in_order p.events)
  pub put_numbered : (p : Pending) (date source : ℕ) → IsNumbered p → IsNumbered (programmed p date source)
  -- the next event is the first, before the others
  pub before_others : (n : ℕ) (es : List Event) (e : Event) → Falls n es → next es ≡ Some e → in_order es ≡ due e ∷ in_order (without e.order es)
  pub nothing_due : (es : List Event) → next es ≡ None → in_order es ≡ []
  pub others_numbered : (n order : ℕ) (es : List Event) → Falls n es → Falls n (without order es)
  -- the same sources are pending
  pub pending : (source : ℕ) (es : List Event) → waits source (in_order es) ≡ is_pending source es

-- A source's event that is replaced is taken out, where it has one, and put behind all of the same or a lesser date.
pub record ReplacingLaw : Type 0 where
  pub taken_out : (source : ℕ) (es : List Event) → AreOnce es → in_order (without_source source es) ≡ without_due source (in_order es)
  pub put_anew : (p : Pending) (date source : ℕ) → IsNumbered p → AreOnce p.events
      → in_order (replaced p date source).events ≡ put_behind (date, source) (without_due source (in_order p.events))
  -- where it has none, nothing is taken out
  pub absent : (source : ℕ) (es : List (ℕ × ℕ)) → waits source es ≡ false → without_due source es ≡ es
  pub numbered : (p : Pending) (date source : ℕ) → IsNumbered p → IsNumbered (replaced p date source)
  pub once : (p : Pending) (date source : ℕ) → AreOnce p.events → AreOnce (replaced p date source).events
  pub others_once : (order : ℕ) (es : List Event) → AreOnce es → AreOnce (without order es)
