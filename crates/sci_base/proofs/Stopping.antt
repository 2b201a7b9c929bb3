-- How a stop is handed on.
use Rattle.std.proofs.Common.{◌≡◌, Result, Ok, Err, refl, sym, ap, ◌∙◌}
use Rattle.std.specs.Prelude.{IfOk, IfErr}
use Rattle.sci_base.specs.Plain.{Violation, violation_of}
use Rattle.sci_base.specs.Outcome.{◌>>=◌}
use Rattle.sci_base.specs.declared.stop.Stop.{Stop}
use Rattle.sci_base.specs.declared.stop.Stop.TheVariants.{Refused, Memory}
use Rattle.sci_base.specs.Stops.{IsViolation, Stops, StopsBy, Answers}

-- a stop of a step stops the steps after it
pub stops_then : {A B : Type 0} (o : Result A Violation) (f : A → Result B Violation) (e : Stop) → Stops o e → Stops (o >>= f) e
stops_then o f (Refused r) h = rw h refl
stops_then o f Memory h = tt

-- the steps go on from a value
pub goes_on : {A B : Type 0} (o : Result A Violation) (a : A) (f : A → Result B Violation) → o ≡ Ok a → (o >>= f) ≡ f a
goes_on o a f h = rw h refl

-- a later step stops
pub stops_after : {A B : Type 0} (o : Result A Violation) (a : A) (f : A → Result B Violation) (e : Stop) → o ≡ Ok a → Stops (f a) e → Stops (o >>= f) e
stops_after o a f e h k = rw h k

-- a violation is the outcome's
pub stops_violation : {A : Type 0} (o : Result A Violation) (v : Violation) (e : Stop) → o ≡ Err v → IsViolation v e → Stops o e
stops_violation o v (Refused r) h k = h ∙ ap Err (sym k)
stops_violation o v Memory h k = tt

-- a violation is of its kind
pub stops_by : (P : Violation → Type 0) (v : Violation) (e : Stop) → IsViolation v e → P v → StopsBy P e
stops_by P v (Refused r) k h = rw k h
stops_by P v Memory k h = tt

-- of a kind that is part of another
pub stops_as : (P Q : Violation → Type 0) (e : Stop) → ((v : Violation) → P v → Q v) → StopsBy P e → StopsBy Q e
stops_as P Q (Refused r) f h = f (violation_of r) h
stops_as P Q Memory f h = tt

-- the two clauses of a reader together
pub answers_from : {A B : Type 0} (view : B → A) (o : Result A Violation) (r : Result B Stop) → IfOk r (λ b. o ≡ Ok (view b)) → IfErr r (λ e. Stops o e) → Answers view o r
answers_from view o (Ok b) h k = h
answers_from view o (Err (Refused r)) h k = k
answers_from view o (Err Memory) h k = tt
