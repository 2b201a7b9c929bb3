-- A step of a definition that may break a rule: the value, or the first violation.
use Rattle.std.specs.Prelude.{Result, Ok, Err}
use Rattle.sci_base.specs.Plain.{Violation}

abbrev pub Outcome : Type 0 → Type 0
Outcome A = Result A Violation

infixl 10 ◌>>=◌
abbrev pub ◌>>=◌ : {A B : Type 0} → Result A Violation → (A → Result B Violation) → Result B Violation
Ok a >>= f = f a
Err e >>= f = Err e
