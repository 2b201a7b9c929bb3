-- Flat nets as they are declared.
use Rattle.std.specs.Prelude.{◌≡◌, ℕ, ◌^◌, pos, Bool, true, ◌&&◌, ◌||◌, int_lt, All}
use Rattle.sci_forms.specs.declared.ports.Port.{Port}
use Rattle.sci_forms.specs.declared.spec.Spec.{Spec}
use Rattle.sci_forms.specs.Forms.{between}
use Rattle.sci_forms.specs.Typed.{formed_of}
use Rattle.sci_net.specs.Parts.{Parts, IsBlock, IsWired, spec_of}

-- a type is an integer type or an unknown one; a size is below 2^31
abbrev pub is_declared : Port → Bool
is_declared p = (int_lt p.ty (pos 0) || between (pos 3) (pos 8) p.ty) && int_lt p.rows (pos (2 ^ 31)) && int_lt p.cols (pos (2 ^ 31))

abbrev pub AreDeclared : Spec → Type 0
AreDeclared s = All (λ p. is_declared p ≡ true) s.ins × All (λ p. is_declared p ≡ true) s.outs

-- a flat net whose specs are such as the check of a block gives
pub record IsFlat (n : Parts) : Type 0 where
  pub wired : IsWired n
  pub formed : (b : ℕ) → IsBlock n b → formed_of (spec_of n b).kind (spec_of n b) ≡ true
  pub declared : (b : ℕ) → IsBlock n b → AreDeclared (spec_of n b)
