-- The columns of an input file as lists, and what a block needs of them.
use Rattle.std.specs.Prelude.{ℕ, zero, suc, ℤ, List, [], map, slice_get, unwrap_or}
use Rattle.std.specs.declared.vec.Vec.{Vec}
use Rattle.std.specs.declared.alloc.Global.{Global}
use Rattle.sci_base.specs.declared.Ty.{Ty}
use Rattle.sci_trace.specs.declared.inputs.inputs.Need.{Need}

abbrev pub columns_view : List (Vec ℤ Global) → List (List ℤ)
columns_view columns = map (λ (c : Vec ℤ Global). c.items) columns

-- a column that the block at this place takes values of a type from
pub record Needed : Type 0 where
  pub column : ℕ
  pub ty : Ty
  pub place : List ℕ

abbrev pub needed_of : Need → Needed
needed_of n = record { column = n.column; ty = n.ty; place = n.place.path.items }

-- column k, counted from 1; one that isn't there has no values
abbrev pub column_at : List (List ℤ) → ℕ → List ℤ
column_at columns zero = []
column_at columns (suc i) = unwrap_or (slice_get columns i) []
