-- The values of all outputs of a net as one list: by block, port and element.
use Rattle.std.specs.Prelude.{◌≡◌, ℕ, zero, suc, ◌+◌, ◌-◌, ℤ, List, [], ◌∷◌, take, drop, length}
use Rattle.sci_forms.specs.declared.spec.Spec.{Spec}
use Rattle.sci_forms.specs.Ports.{total}
use Rattle.sci_net.specs.Parts.{Parts, spec_of}
use Rattle.sci_net.specs.Net.{all_elements}
use Rattle.sci_reaction.specs.Equations.{Signals}

-- how many elements the outputs of the first k blocks have
abbrev pub start_in : List Spec → ℕ → ℕ
start_in ss zero = 0
start_in [] (suc k) = 0
start_in (s ∷ ss) (suc k) = total s.outs + start_in ss k

-- where the values of a block begin
abbrev pub start_of : Parts → ℕ → ℕ
start_of n b = start_in n.specs (b - 1)

-- the values of each block among those of all
abbrev pub values_at : Parts → List ℤ → Signals
values_at n values b = take (total (spec_of n b).outs) (drop (start_of n b) values)

-- one value for each element
abbrev pub IsWhole : Parts → List ℤ → Type 0
IsWhole n values = length values ≡ all_elements n.specs
