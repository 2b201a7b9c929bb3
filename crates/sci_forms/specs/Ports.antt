use Rattle.std.specs.Prelude.{◌≡◌, ℕ, zero, suc, ◌+◌, ◌-◌, ◌*◌, ◌<◌, ℤ, pos, List, [], ◌∷◌, length, nat_lt, if◌then◌else◌, slice_index_or, unsigned_abs, unwrap_or, ◌+ℤ◌}
use Rattle.sci_base.specs.declared.Ty.{Ty}
use Rattle.sci_base.specs.declared.Ty.TheVariants.{I32}
use Rattle.sci_base.specs.Fit.{ty_of_code, InRange}
use Rattle.sci_base.specs.Lists.{at}
use Rattle.sci_forms.specs.declared.ports.Port.{Port}

-- a port that nobody declared
abbrev pub no_port : Port
no_port = record { rows = pos 0; cols = pos 0; ty = pos 0 }

abbrev pub port_at : List Port → ℕ → Port
port_at ps k = slice_index_or ps k no_port

-- how many elements a port has
abbrev pub elements : Port → ℕ
elements p = unsigned_abs p.rows * unsigned_abs p.cols

abbrev pub type_of : Port → Ty
type_of p = unwrap_or (ty_of_code p.ty) I32

-- how many elements all ports have
abbrev pub total : List Port → ℕ
total [] = 0
total (p ∷ ps) = elements p + total ps

-- the type of element e, counted through all ports in order
abbrev pub type_at : List Port → ℕ → Ty
type_at [] e = I32
type_at (p ∷ ps) e = if nat_lt e (elements p) then type_of p else type_at ps (e - elements p)

-- the values of all elements of the ports, each in range of its type
pub record Fills (ps : List Port) (vs : List ℤ) : Type 0 where
  pub enough : length vs ≡ total ps
  pub in_range : (e : ℕ) → e < total ps → InRange (type_at ps e) (at vs e)

-- ports of one type and one size
pub record IsAlike (ps : List Port) (t : Ty) (n : ℕ) : Type 0 where
  pub types : (k : ℕ) → k < length ps → type_of (port_at ps k) ≡ t
  pub sizes : (k : ℕ) → k < length ps → elements (port_at ps k) ≡ n

-- the sum of the ports' rows
abbrev pub sum_rows : List Port → ℤ
sum_rows [] = pos 0
sum_rows (p ∷ ps) = p.rows +ℤ sum_rows ps

-- how many elements the first k ports have
abbrev pub before : List Port → ℕ → ℕ
before ps zero = 0
before [] (suc k) = 0
before (p ∷ ps) (suc k) = elements p + before ps k
