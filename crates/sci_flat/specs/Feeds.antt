-- Which port feeds which.
use Rattle.sci_diagram.specs.Objects.{Objects}
use Rattle.sci_flat.specs.Chain.{Chain}
use Rattle.sci_flat.specs.Ports.{Port}
use Rattle.sci_flat.specs.Tagged.{all_steps}

-- a finite chain of steps leads from p to q
abbrev pub Feeds : Objects → Port → Port → Type 0
Feeds t p q = Chain (all_steps t) p q
