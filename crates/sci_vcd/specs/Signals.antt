-- The signals of a net: the elements of all regular outputs, by block, port and element.
use Rattle.std.specs.Prelude.{◌≡◌, ℕ, zero, suc, ◌+◌, ◌-◌, ◌≤◌, List, [], ◌∷◌, ◌++◌, take, length, slice_index_or, All}
use Rattle.sci_base.specs.declared.limits.TheConstants.{PORT_ELEMENTS}
use Rattle.sci_base.specs.declared.Ty.{Ty}
use Rattle.sci_forms.specs.declared.ports.Port.{Port}
use Rattle.sci_forms.specs.declared.spec.Spec.{Spec}
use Rattle.sci_forms.specs.Ports.{elements, type_of, total}
use Rattle.sci_net.specs.Parts.{Parts}
use Rattle.sci_net.specs.Net.{all_elements}
use Rattle.sci_vcd.specs.declared.signal.Signal.{Signal}
use Rattle.sci_vcd.specs.Reading.{signal_by}

-- the first so many elements of an output
abbrev pub element_signals : Ty → (block port count : ℕ) → List Signal
element_signals t b p zero = []
element_signals t b p (suc e) = element_signals t b p e ++ signal_by t b p (suc e) ∷ []

-- outputs, of which the first is port p
abbrev pub output_signals : (block p : ℕ) → List Port → List Signal
output_signals b p [] = []
output_signals b p (o ∷ os) = element_signals (type_of o) b p (elements o) ++ output_signals b (p + 1) os

-- blocks, of which the first is block b
abbrev pub block_signals : (b : ℕ) → List Spec → List Signal
block_signals b [] = []
block_signals b (s ∷ ss) = output_signals b 1 s.outs ++ block_signals (b + 1) ss

abbrev pub signals_of : Parts → List Signal
signals_of n = block_signals 1 n.specs

-- an output has at most so many elements
abbrev pub AreSmall : List Port → Type 0
AreSmall ps = All (λ p. elements p ≤ PORT_ELEMENTS) ps

-- how many signals stand before those of block b
abbrev pub before_block : Parts → ℕ → ℕ
before_block n b = all_elements (take (b - 1) n.specs)

-- the number of element e of block b, where the elements of all its outputs are counted from 1
abbrev pub number_of : Parts → ℕ → ℕ → ℕ
number_of n b e = before_block n b + e

-- how many signals stand before each of these blocks, and behind all of them, where so many stand before the first
abbrev pub starts_from : ℕ → List Spec → List ℕ
starts_from k [] = k ∷ []
starts_from k (s ∷ ss) = k ∷ starts_from (k + total s.outs) ss

-- how many signals stand before each block, and at the end how many there are
pub record AreStarts (n : Parts) (starts : List ℕ) : Type 0 where
  pub long : length starts ≡ length n.specs + 1
  pub each : (b : ℕ) → 1 ≤ b → b ≤ length n.specs + 1 → slice_index_or starts (b - 1) 0 ≡ before_block n b
