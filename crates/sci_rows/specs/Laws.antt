-- Where typed specs come from.
use Rattle.std.specs.Prelude.{◌≡◌, ℕ, List, true, Ok}
use Rattle.sci_base.specs.Plain.{Fields}
use Rattle.sci_forms.specs.declared.spec.Spec.{Spec}
use Rattle.sci_names.specs.Names.{name_of}
use Rattle.sci_forms.specs.Typed.{typed}
use Rattle.sci_check.specs.Check.{checked}

-- every typed spec is what the check gives of some fields, of a block with the name of its kind
abbrev pub OriginLaw : Type 0
OriginLaw = (place : List ℕ) (s : Spec) → typed s ≡ true → (f : Fields) × (checked place (name_of s.kind) f ≡ Ok s)
