-- What a stop says: a refusal tells a rule that is broken; want of memory says nothing.
use Rattle.std.specs.Prelude.{◌≡◌, Result, Ok, Err, Option, Some}
use Rattle.sci_base.specs.Plain.{Violation, violation_of}
use Rattle.sci_base.specs.Outcome.{Outcome}
use Rattle.sci_base.specs.declared.stop.Stop.{Stop}
use Rattle.sci_base.specs.declared.stop.Stop.TheVariants.{Refused, Memory}

-- a refusal is a violation of this kind
abbrev pub StopsBy : (Violation → Type 0) → Stop → Type 0
StopsBy P (Refused r) = P (violation_of r)
StopsBy P Memory = Unit {0}

-- a refusal is this violation
abbrev pub IsViolation : Violation → Stop → Type 0
IsViolation v (Refused r) = violation_of r ≡ v
IsViolation v Memory = Unit {0}

-- a refusal is the violation that a search found
abbrev pub IsFound : Option Violation → Stop → Type 0
IsFound o (Refused r) = o ≡ Some (violation_of r)
IsFound o Memory = Unit {0}

-- a refusal is the violation that the outcome is
abbrev pub Stops : {A : Type 0} → Outcome A → Stop → Type 0
Stops o (Refused r) = o ≡ Err (violation_of r)
Stops o Memory = Unit {0}

-- the answer, as this view sees it, is the outcome
abbrev pub Answers : {A B : Type 0} → (B → A) → Outcome A → Result B Stop → Type 0
Answers view o (Ok b) = o ≡ Ok (view b)
Answers view o (Err (Refused r)) = o ≡ Err (violation_of r)
Answers view o (Err Memory) = Unit {0}
