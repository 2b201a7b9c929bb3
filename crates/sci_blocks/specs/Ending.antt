-- A set of ports and a list of ends that say the same.
use Rattle.std.specs.Prelude.{◌≡◌, ℤ, List}
use Rattle.std.specs.List.{list_any}
use Rattle.std.specs.Ordering.{is_eq, int_cmp, ordering_then}
use Rattle.sci_diagram.specs.declared.diagram.End.{End}
use Rattle.sci_blocks.specs.Wiring.{is_at}
use Rattle.sci_blocks.specs.declared.fed.FedInputs.{FedInputs}

-- the set has exactly the ports at which these ends are
abbrev pub HoldsEnds : FedInputs → List End → Type 0
HoldsEnds f ends = (b p : ℤ) → list_any (λ k. is_eq (ordering_then (int_cmp b k.0) (int_cmp p k.1))) f.ends.keys ≡ list_any (is_at b p) ends
