-- The starts of the lines of a net's values, by block, port and element, each counted from 1.
use Rattle.std.specs.Prelude.{ℕ, zero, suc, ◌+◌, List, [], ◌∷◌, ◌++◌, map}
use Rattle.sci_forms.specs.declared.ports.Port.{Port}
use Rattle.sci_forms.specs.declared.spec.Spec.{Spec}
use Rattle.sci_forms.specs.Ports.{elements}
use Rattle.sci_net.specs.Parts.{Parts}
use Rattle.sci_lines.specs.Lines.{Named, start_text}

-- so many elements of an output, from element e on
abbrev pub named_elements : (block port e count : ℕ) → List Named
named_elements b p e zero = []
named_elements b p e (suc count) = record { block = b; port = p; element = e } ∷ named_elements b p (e + 1) count

-- outputs, of which the first is port p
abbrev pub named_outputs : (block p : ℕ) → List Port → List Named
named_outputs b p [] = []
named_outputs b p (o ∷ os) = named_elements b p 1 (elements o) ++ named_outputs b (p + 1) os

-- blocks, of which the first is block b
abbrev pub named_blocks : (b : ℕ) → List Spec → List Named
named_blocks b [] = []
named_blocks b (s ∷ ss) = named_outputs b 1 s.outs ++ named_blocks (b + 1) ss

-- of all values of a net
abbrev pub heads_of : Parts → List (List ℕ)
heads_of n = map start_text (named_blocks 1 n.specs)
