-- Where the parts of ports stand in their list.
use Rattle.std.specs.Prelude.{◌≡◌, ℕ, zero, suc, ℤ, ◌+◌, ◌*◌, ◌<◌, List, [], ◌∷◌, length, slice_index}
use Rattle.sci_forms.specs.declared.spec.Spec.{Spec}
use Rattle.sci_net.specs.declared.Wire.{Wire}
use Rattle.sci_net.specs.Parts.{Parts}
use Rattle.sci_infer.specs.declared.parts.PartLayout.{PartLayout}
use Rattle.sci_infer.specs.declared.parts.PortPart.{PortPart}
use Rattle.sci_infer.specs.declared.parts.Side.{Side}
use Rattle.sci_infer.specs.declared.parts.Side.TheVariants.{Input, Output}
use Rattle.sci_infer.specs.declared.parts.What.{What}
use Rattle.sci_infer.specs.declared.parts.What.TheVariants.{DataType, Rows, Columns}
use Rattle.sci_infer.specs.Typing.{IsAt}
use Rattle.sci_infer.specs.PortParts.{parts_in}

abbrev pub count : Spec → Side → ℕ
count s Input = length s.ins
count s Output = length s.outs

abbrev pub offset : What → ℕ
offset DataType = 0
offset Rows = 1
offset Columns = 2

abbrev pub side_start : Spec → Side → ℕ
side_start s Input = 0
side_start s Output = 3 * length s.ins

-- where the parts of block b, counted from 0, start
abbrev pub start_of : List Spec → ℕ → ℕ
start_of [] b = 0
start_of (s ∷ ss) zero = 0
start_of (s ∷ ss) (suc b) = (3 * length s.ins + 3 * length s.outs) + start_of ss b

pub record IsLayout (n : Parts) (l : PartLayout) : Type 0 where
  pub parts : l.parts.items ≡ parts_in n
  pub enough : length l.starts.items ≡ length n.specs
  pub starts : (b : ℕ) → b < length n.specs → slice_index l.starts.items b ≡ start_of n.specs b

-- the one place of a part of an output
pub record IsOutputAt (n : Parts) (w : Wire) (what : What) (place : ℕ) : Type 0 where
  pub declared : ℤ
  pub at : IsAt (parts_in n) place (record { block = w.block; side = Output; port = w.port; what = what; declared = declared })
  pub only : (j : ℕ) (p : PortPart) → IsAt (parts_in n) j p → p.block ≡ w.block → p.side ≡ Output → p.port ≡ w.port → p.what ≡ what → j ≡ place
