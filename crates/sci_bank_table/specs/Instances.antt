-- A block in a library.
use Rattle.std.specs.Prelude.{◌≡◌, ℕ, ◌<◌, true, List, length}
use Rattle.sci_forms.specs.declared.spec.Spec.{Spec}
use Rattle.sci_forms.specs.Typed.{typed}
use Rattle.sci_bank.specs.Bank.{Meaning, spec_at}
use Rattle.sci_bank.specs.Library.{bank_of, IsFull}

-- the bank of the block's kind, in a full library, has the block in this slot
pub record IsInstance (lib : List Meaning) (spec : Spec) (slot : ℕ) : Type 0 where
  pub full : IsFull lib
  pub is_typed : typed spec ≡ true
  pub known : slot < length (bank_of lib spec.kind).rows
  pub of_spec : spec_at (bank_of lib spec.kind) slot ≡ spec
