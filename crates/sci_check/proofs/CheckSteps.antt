-- Steps of the check: one more port is read.
use Rattle.std.proofs.Common.{◌≡◌, ℕ, ◌+◌, refl, ℤ, List, [], ◌∷◌, ◌++◌}
use Rattle.std.proofs.Math.Numerals.{add-one}
use Rattle.sci_check.specs.Check.{declared_ports, declared_port}

pub one_more_port : (rows cols types : List ℤ) (k : ℕ) → declared_ports rows cols types (k + 1) ≡ declared_ports rows cols types k ++ declared_port rows cols types k ∷ []
one_more_port rows cols types k = rw add-one refl
