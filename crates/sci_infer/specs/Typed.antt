-- A net's specs with the numbers of a typing in place of the declared ones. The numbers stand in the order of the parts.
use Rattle.std.specs.Prelude.{ℕ, ◌+◌, ◌*◌, ℤ, List, [], ◌∷◌, length}
use Rattle.sci_base.specs.Lists.{at}
use Rattle.sci_forms.specs.declared.ports.Port.{Port}
use Rattle.sci_forms.specs.declared.spec.Spec.{Spec}
use Rattle.sci_net.specs.Parts.{Parts, with_specs}

-- a port whose numbers start at place i
abbrev pub typed_port : List ℤ → ℕ → Port
typed_port vs i = record { rows = at vs (i + 1); cols = at vs (i + 2); ty = at vs i }

abbrev pub typed_ports : List ℤ → ℕ → List Port → List Port
typed_ports vs i [] = []
typed_ports vs i (p ∷ ps) = typed_port vs i ∷ typed_ports vs (i + 3) ps

abbrev pub typed_spec : List ℤ → ℕ → Spec → Spec
typed_spec vs i s = record s { ins = typed_ports vs i s.ins; outs = typed_ports vs (i + 3 * length s.ins) s.outs }

abbrev pub typed_specs : List ℤ → ℕ → List Spec → List Spec
typed_specs vs i [] = []
typed_specs vs i (s ∷ ss) = typed_spec vs i s ∷ typed_specs vs (i + (3 * length s.ins + 3 * length s.outs)) ss

abbrev pub typed_parts : List ℤ → Parts → Parts
typed_parts vs n = with_specs n (typed_specs vs 0 n.specs)
