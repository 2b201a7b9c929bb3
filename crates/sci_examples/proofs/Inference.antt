-- Types and sizes that are inferred, worked out by hand.
use Rattle.std.proofs.Common.{◌≡◌, ℕ, inl, inr, ℤ, pos, negsuc, List, [], ◌∷◌, Option, Some, None, refl, ap, lit<, arith}
use Rattle.sci_base.specs.declared.refusal.Rule.TheVariants.{SizeConflict, TypeOpen, SignalTooLarge}
use Rattle.sci_forms.specs.declared.broken.Detail.TheVariants.{Pair}
use Rattle.sci_forms.specs.declared.ports.Port.{Port}
use Rattle.sci_forms.specs.declared.spec.Spec.{Spec}
use Rattle.sci_net.specs.Parts.{Parts}
use Rattle.sci_infer.specs.declared.classes.Tie.{Tie}
use Rattle.sci_infer.specs.declared.parts.PortPart.{PortPart}
use Rattle.sci_infer.specs.declared.parts.Side.{Side}
use Rattle.sci_infer.specs.declared.parts.Side.TheVariants.{Input, Output}
use Rattle.sci_infer.specs.declared.parts.What.{What}
use Rattle.sci_infer.specs.declared.parts.What.TheVariants.{DataType, Rows, Columns}
use Rattle.sci_infer.specs.Classes.{Tied, same, forth, back, Joins}
use Rattle.sci_infer.specs.Typing.{IsAllowed, Fits}
use Rattle.sci_infer.specs.PortParts.{port_parts, block_parts, parts_in, AreWired, AreShared, AreTied}
use Rattle.sci_infer.specs.Typed.{typed_port, typed_parts}
use Rattle.sci_infer.specs.Broken.{outs_large, sum_large}
use Rattle.sci_infer.specs.Answer.{part_detail, conflict_rule, open_rule, conflict_of}
use Rattle.sci_examples.proofs.Blocks.{column, wire, constant, gain, net_of}

-- ---- parts

abbrev part : ℕ → Side → ℕ → What → ℤ → PortPart
part b side port what declared = record { block = b; side = side; port = port; what = what; declared = declared }

abbrev port_of : ℤ → ℤ → ℤ → Port
port_of rows cols ty = record { rows = rows; cols = cols; ty = ty }

-- type, rows, columns
one_port : port_parts 2 Input 1 (port_of (pos 6) (pos 7) (pos 3)) ≡ part 2 Input 1 DataType (pos 3) ∷ part 2 Input 1 Rows (pos 6) ∷ part 2 Input 1 Columns (pos 7) ∷ []
one_port = refl

-- a gain of type -1 and of rows and columns -2, whatever they are
abbrev open_gain : Spec
open_gain = record (gain (pos 1)) { ins = port_of (negsuc 1) (negsuc 1) (negsuc 0) ∷ []; outs = port_of (negsuc 1) (negsuc 1) (negsuc 0) ∷ [] }

-- 1 a constant, and 2 such a gain of it
abbrev doubled : Parts
doubled = net_of (constant (pos 1) ∷ open_gain ∷ []) ([] ∷ (wire 1 1 ∷ []) ∷ []) ([] ∷ [] ∷ [])

-- by block, inputs before outputs
nine_parts : parts_in doubled
    ≡ part 1 Output 1 DataType (pos 3) ∷ part 1 Output 1 Rows (pos 1) ∷ part 1 Output 1 Columns (pos 1)
    ∷ part 2 Input 1 DataType (negsuc 0) ∷ part 2 Input 1 Rows (negsuc 1) ∷ part 2 Input 1 Columns (negsuc 1)
    ∷ part 2 Output 1 DataType (negsuc 0) ∷ part 2 Output 1 Rows (negsuc 1) ∷ part 2 Output 1 Columns (negsuc 1) ∷ []
nine_parts = refl

-- two outputs are numbered
second_port : block_parts 1 (record (constant (pos 1)) { outs = port_of (pos 1) (pos 1) (pos 3) ∷ port_of (pos 1) (pos 1) (pos 4) ∷ [] })
    ≡ part 1 Output 1 DataType (pos 3) ∷ part 1 Output 1 Rows (pos 1) ∷ part 1 Output 1 Columns (pos 1)
    ∷ part 1 Output 2 DataType (pos 4) ∷ part 1 Output 2 Rows (pos 1) ∷ part 1 Output 2 Columns (pos 1) ∷ []
second_port = refl

-- ---- ties

-- the type of the gain's input and that of the constant
types_wired : AreWired doubled 3 0
types_wired = record {
  input = part 2 Input 1 DataType (negsuc 0);
  output = part 1 Output 1 DataType (pos 3);
  at_input = refl;
  at_output = refl;
  is_input = refl;
  is_output = refl;
  wired = refl;
  same_part = refl;
}

abbrev code : What → ℕ
code DataType = 0
code Rows = 1
code Columns = 2

abbrev code_at : Option PortPart → ℕ
code_at None = 3
code_at (Some p) = code p.what

-- its rows aren't tied to a type
rows_apart : AreWired doubled 4 0 → ⊥
rows_apart h =
    let input = ap code_at h.at_input in let output = ap code_at h.at_output in let alike = ap code h.same_part in omega (arith, input, output, alike)

-- rows and columns have one negative number, so they are one
sizes_shared : AreShared (parts_in doubled) 4 8
sizes_shared = record {
  left = part 2 Input 1 Rows (negsuc 1);
  right = part 2 Output 1 Columns (negsuc 1);
  at_left = refl;
  at_right = refl;
  same_block = refl;
  same_kind = refl;
  same_number = refl;
  negative = omega arith;
}

tied_in_block : AreTied doubled 4 8
tied_in_block = inr sizes_shared

-- 1 and 3 are both tied to 2
abbrev two_ties : List Tie
two_ties = record { left = 1; right = 2 } ∷ record { left = 3; right = 2 } ∷ []

both_tied : Tied (Joins two_ties) 1 3
both_tied = back (forth same (0, lit< tt, refl)) (1, lit< tt, refl)

-- ---- typings

-- types are 3 to 8, and sizes begin at 1
type_2 : IsAllowed DataType (pos 2) → ⊥
type_2 h = omega (arith, h.0)

type_8 : IsAllowed DataType (pos 8)
type_8 = (omega arith, omega arith)

no_rows : IsAllowed Rows (pos 0) → ⊥
no_rows h = omega (arith, h)

-- where all is declared, the constant's type is
abbrev settled : Parts
settled = net_of (constant (pos 1) ∷ gain (pos 1) ∷ []) ([] ∷ (wire 1 1 ∷ []) ∷ []) ([] ∷ [] ∷ [])

type_kept : (t : ℕ → ℤ) → Fits (parts_in settled) (AreTied settled) t → t 0 ≡ pos 3
type_kept t h = h.kept 0 (part 1 Output 1 DataType (pos 3)) refl (omega arith)

-- the type of the gain's input is that of the constant
type_found : (t : ℕ → ℤ) → Fits (parts_in doubled) (AreTied doubled) t → t 3 ≡ t 0
type_found t h = h.agree 3 0 (inl types_wired)

-- ---- typed nets

-- type, rows, columns, as the parts stand
port_typed : typed_port (pos 3 ∷ pos 6 ∷ pos 7 ∷ []) 0 ≡ port_of (pos 6) (pos 7) (pos 3)
port_typed = refl

-- the constant has the first three numbers, the gain's input the next
gain_typed : typed_parts (pos 3 ∷ pos 1 ∷ pos 1 ∷ pos 4 ∷ pos 5 ∷ pos 6 ∷ pos 7 ∷ pos 8 ∷ pos 9 ∷ []) doubled
    ≡ net_of (constant (pos 1) ∷ record open_gain { ins = port_of (pos 5) (pos 6) (pos 4) ∷ []; outs = port_of (pos 8) (pos 9) (pos 7) ∷ [] } ∷ []) ([] ∷ (wire 1 1 ∷ []) ∷ []) ([] ∷ [] ∷ [])
gain_typed = refl

-- ---- what is too large

-- an output of 256 elements is the largest; the second has one more
second_large : outs_large 1 (column (pos 256) ∷ column (pos 257) ∷ []) ≡ Some (record { rule = SignalTooLarge; detail = Pair (pos 2) (pos 257) })
second_large = refl

largest : outs_large 1 (column (pos 256) ∷ []) ≡ None
largest = refl

abbrev with_outputs : List Port → Spec
with_outputs ports = record (constant (pos 1)) { outs = ports }

-- 65,536 elements in all are the most
most : sum_large (with_outputs (column (pos 65535) ∷ []) ∷ with_outputs (column (pos 1) ∷ []) ∷ []) ≡ None
most = refl

one_more : sum_large (with_outputs (column (pos 65536) ∷ []) ∷ with_outputs (column (pos 1) ∷ []) ∷ []) ≡ Some (0, record { rule = SignalTooLarge; detail = Pair (pos 0) (pos 65537) })
one_more = refl

-- ---- what is told

-- side, port, and which part of a size
columns_told : part_detail (part 5 Output 3 Columns (negsuc 0)) ≡ pos 2 ∷ pos 3 ∷ pos 2 ∷ []
columns_told = refl

type_told : part_detail (part 5 Input 3 DataType (negsuc 0)) ≡ pos 1 ∷ pos 3 ∷ []
type_told = refl

rows_conflict : conflict_rule Rows ≡ SizeConflict
rows_conflict = refl

type_open : open_rule DataType ≡ TypeOpen
type_open = refl

-- the least and the greatest of what is declared
span_told : (conflict_of doubled (part 1 Output 1 Rows (pos 1)) (record { least = pos 1; greatest = pos 4 })).detail ≡ pos 2 ∷ pos 1 ∷ pos 1 ∷ pos 1 ∷ pos 4 ∷ []
span_told = refl
