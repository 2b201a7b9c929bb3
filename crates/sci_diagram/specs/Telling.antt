-- What a stop says of a call that takes memory only to tell a violation.
use Rattle.std.specs.Prelude.{◌≡◌, Err}
use Rattle.sci_base.specs.Plain.{Violation, violation_of}
use Rattle.sci_base.specs.Outcome.{Outcome}
use Rattle.sci_base.specs.declared.stop.Stop.{Stop}
use Rattle.sci_base.specs.declared.stop.Stop.TheVariants.{Refused, Memory}

-- a refusal is the violation that the outcome is, and memory is wanted only where there is one
abbrev pub Tells : {A : Type 0} → Outcome A → Stop → Type 0
Tells o (Refused r) = o ≡ Err (violation_of r)
Tells o Memory = (v : Violation) × (o ≡ Err v)
