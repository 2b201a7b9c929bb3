-- What is made ready of a spec.
use Rattle.std.specs.Prelude.{◌≡◌, ℕ, ℤ}
use Rattle.sci_base.specs.declared.Ty.{Ty}
use Rattle.sci_base.specs.declared.Mode.{Mode}
use Rattle.sci_base.specs.Fit.{low, high}
use Rattle.sci_forms.specs.declared.spec.Spec.{Spec}
use Rattle.sci_forms.specs.Words.{param, out_type, size}
use Rattle.sci_kinds.specs.Table.{mode_of}

-- the type, its ends and the size of the first output, and the mode that parameter 0 names
pub record AreWords (s : Spec) (ty : Ty) (mode : Mode) (least greatest : ℤ) (elements : ℕ) : Type 0 where
  pub type_is : ty ≡ out_type s
  pub mode_is : mode ≡ mode_of (param s 0)
  pub least_is : least ≡ low ty
  pub greatest_is : greatest ≡ high ty
  pub size_is : elements ≡ size s
