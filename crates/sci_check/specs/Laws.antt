-- What the check's answers have.
use Rattle.std.specs.Prelude.{◌≡◌, ℕ, List, true, Ok}
use Rattle.sci_base.specs.Plain.{Fields}
use Rattle.sci_forms.specs.declared.spec.Spec.{Spec}
use Rattle.sci_forms.specs.Typed.{formed_of}
use Rattle.sci_check.specs.Check.{checked}

-- what the check gives has the counts and values that its kind's form asks
abbrev pub CheckedLaw : Type 0
CheckedLaw = (place gui : List ℕ) (f : Fields) (s : Spec) → checked place gui f ≡ Ok s → formed_of s.kind s ≡ true
