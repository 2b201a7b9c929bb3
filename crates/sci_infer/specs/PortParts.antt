-- The parts of a net's ports in order, and which of them are tied.
use Rattle.std.specs.Prelude.{◌≡◌, ℕ, ◌+◌, ◌<ℤ◌, pos, List, [], ◌∷◌, ◌++◌, ◌⊎◌}
use Rattle.sci_forms.specs.declared.ports.Port.{Port}
use Rattle.sci_forms.specs.declared.spec.Spec.{Spec}
use Rattle.sci_net.specs.Parts.{Parts, wire_of}
use Rattle.sci_infer.specs.declared.parts.PortPart.{PortPart}
use Rattle.sci_infer.specs.declared.parts.Side.{Side}
use Rattle.sci_infer.specs.declared.parts.Side.TheVariants.{Input, Output}
use Rattle.sci_infer.specs.declared.parts.What.TheVariants.{DataType, Rows, Columns}
use Rattle.sci_infer.specs.Typing.{IsAt, is_type}

-- of port k first its type, then its rows, then its columns
abbrev pub port_parts : ℕ → Side → ℕ → Port → List PortPart
port_parts b s k p =
    record { block = b; side = s; port = k; what = DataType; declared = p.ty }
    ∷ record { block = b; side = s; port = k; what = Rows; declared = p.rows }
    ∷ record { block = b; side = s; port = k; what = Columns; declared = p.cols } ∷ []

-- of the ports of one side of block b, the first of which is port k
abbrev pub side_parts : ℕ → Side → ℕ → List Port → List PortPart
side_parts b s k [] = []
side_parts b s k (p ∷ ps) = port_parts b s k p ++ side_parts b s (k + 1) ps

-- inputs before outputs
abbrev pub block_parts : ℕ → Spec → List PortPart
block_parts b s = side_parts b Input 1 s.ins ++ side_parts b Output 1 s.outs

abbrev pub parts_from : ℕ → List Spec → List PortPart
parts_from b [] = []
parts_from b (s ∷ ss) = block_parts b s ++ parts_from (b + 1) ss

-- by block, inputs before outputs, port, and of a port type, rows, columns
abbrev pub parts_in : Parts → List PortPart
parts_in n = parts_from 1 n.specs

-- an input and the output that feeds it, in the same part
pub record AreWired (n : Parts) (i j : ℕ) : Type 0 where
  pub input : PortPart
  pub output : PortPart
  pub at_input : IsAt (parts_in n) i input
  pub at_output : IsAt (parts_in n) j output
  pub is_input : input.side ≡ Input
  pub is_output : output.side ≡ Output
  pub wired : wire_of n input.block input.port ≡ record { block = output.block; port = output.port }
  pub same_part : input.what ≡ output.what

-- equal negative numbers of one block, both of types or both of sizes
pub record AreShared (parts : List PortPart) (i j : ℕ) : Type 0 where
  pub left : PortPart
  pub right : PortPart
  pub at_left : IsAt parts i left
  pub at_right : IsAt parts j right
  pub same_block : left.block ≡ right.block
  pub same_kind : is_type left.what ≡ is_type right.what
  pub same_number : left.declared ≡ right.declared
  pub negative : left.declared <ℤ pos 0

abbrev pub AreTied : Parts → ℕ → ℕ → Type 0
AreTied n i j = AreWired n i j ⊎ AreShared (parts_in n) i j
