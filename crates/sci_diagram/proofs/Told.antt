-- How a stop is handed on that wants memory only to tell a violation.
use Rattle.std.proofs.Common.{◌≡◌, Result, Err, refl, sym, ap, ◌∙◌}
use Rattle.sci_base.specs.Plain.{Violation}
use Rattle.sci_base.specs.Outcome.{◌>>=◌}
use Rattle.sci_base.specs.declared.stop.Stop.{Stop}
use Rattle.sci_base.specs.declared.stop.Stop.TheVariants.{Refused, Memory}
use Rattle.sci_base.specs.Stops.{IsViolation, Stops}
use Rattle.sci_diagram.specs.Telling.{Tells}

-- a violation is the outcome's
pub tells_violation : {A : Type 0} (o : Result A Violation) (v : Violation) (e : Stop) → o ≡ Err v → IsViolation v e → Tells o e
tells_violation o v (Refused r) h k = h ∙ ap Err (sym k)
tells_violation o v Memory h k = (v, h)

-- what tells a violation stops by it
pub tells_stops : {A : Type 0} (o : Result A Violation) (e : Stop) → Tells o e → Stops o e
tells_stops o (Refused r) h = h
tells_stops o Memory h = tt

-- a stop of a step stops the steps after it
pub tells_then : {A B : Type 0} (o : Result A Violation) (f : A → Result B Violation) (e : Stop) → Tells o e → Tells (o >>= f) e
tells_then o f (Refused r) h = rw h refl
tells_then o f Memory h = (h.0, rw (h.1) refl)

pub told_then : {A B : Type 0} (o : Result A Violation) (f : A → Result B Violation) (e : Stop) → Tells o e → Stops (o >>= f) e
told_then o f (Refused r) h = rw h refl
told_then o f Memory h = tt
