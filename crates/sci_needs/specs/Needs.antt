-- What a net needs of its input file.
use Rattle.std.specs.Prelude.{◌≡◌, ℕ, ℤ, List, map, Contains, Ok}
use Rattle.sci_forms.specs.Words.{out_type}
use Rattle.sci_net.specs.declared.net.Column.{Column}
use Rattle.sci_net.specs.Parts.{Parts, IsSensor, column_of, spec_of, path_of}
use Rattle.sci_net.specs.Sources.{columns_of}
use Rattle.sci_reaction.specs.Memory.{AreColumns}
use Rattle.sci_trace.specs.Columns.{Needed}
use Rattle.sci_trace.specs.Reading.{judge}

-- a column that the block of the net reads
abbrev pub need_of : Parts → Column → Needed
need_of n c = record { column = c.number; ty = c.ty; place = path_of n c.block }

-- one for each sensor, by block
abbrev pub needs_of : Parts → List Needed
needs_of n = map (need_of n) (columns_of n)

-- what the sensor b needs
abbrev pub need_at : Parts → ℕ → Needed
need_at n b = record { column = column_of (spec_of n b); ty = out_type (spec_of n b); place = path_of n b }

-- these are the needs of the sensors, and nothing else
pub record AreOfSensors (n : Parts) (needs : List Needed) : Type 0 where
  pub each : (b : ℕ) → IsSensor n b → Contains needs (need_at n b)
  pub only : (d : Needed) → Contains needs d → (b : ℕ) × IsSensor n b × (d ≡ need_at n b)

-- an input file that has what a net needs of it gives each sensor a column in range
abbrev pub ColumnsInRange : Type 0
ColumnsInRange = (n : Parts) (bytes : List ℕ) (columns : List (List ℤ)) → AreOfSensors n (needs_of n) → judge bytes (needs_of n) ≡ Ok columns
    → AreColumns n columns
