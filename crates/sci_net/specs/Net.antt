-- Flat nets whose types and sizes are known.
use Rattle.std.specs.Prelude.{◌≡◌, ℕ, ◌+◌, ◌≤◌, true, List, [], ◌∷◌}
use Rattle.sci_base.specs.declared.limits.TheConstants.{ALL_ELEMENTS}
use Rattle.sci_forms.specs.declared.spec.Spec.{Spec}
use Rattle.sci_forms.specs.Ports.{total}
use Rattle.sci_forms.specs.Typed.{typed}
use Rattle.sci_net.specs.Parts.{Parts, IsBlock, IsInput, IsWired, spec_of, wire_of, input_of, output_of}

-- how many elements all outputs have
abbrev pub all_elements : List Spec → ℕ
all_elements [] = 0
all_elements (s ∷ ss) = total s.outs + all_elements ss

-- all specs are typed, and each wire joins ports of one type and size
pub record IsNet (n : Parts) : Type 0 where
  pub wired : IsWired n
  pub typed_specs : (b : ℕ) → IsBlock n b → typed (spec_of n b) ≡ true
  pub joined : (b k : ℕ) → IsInput n b k → output_of n (wire_of n b k).block (wire_of n b k).port ≡ input_of n b k
  pub small : all_elements n.specs ≤ ALL_ELEMENTS
