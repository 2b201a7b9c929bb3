-- Rows of the table of the logical kinds, 14 to 22, away from the corners of the types. Written by tools/logic_rows.py.
use Rattle.std.proofs.Common.{◌≡◌, ℕ, ℤ, pos, negsuc, List, [], ◌∷◌, length, true, refl}
use Rattle.sci_forms.specs.declared.Kind.{Kind}
use Rattle.sci_forms.specs.declared.Kind.TheVariants.{LogicalOp, RelationalOp, Shift, BitSet, BitClear, ExtractBits, Switch2, Select, Logic}
use Rattle.sci_forms.specs.declared.ports.Port.{Port}
use Rattle.sci_forms.specs.declared.spec.Spec.{Spec}
use Rattle.sci_forms.specs.Forms.{own_feed}
use Rattle.sci_forms.specs.Typed.{typed}
use Rattle.sci_kinds.specs.Table.{Values, out}

abbrev port : ℕ → ℕ → ℕ → Port
port r c ty = record { rows = pos r; cols = pos c; ty = pos ty }

-- a block by its kind, parameters, inputs, outputs and number of activation inputs
abbrev block : Kind → List ℤ → List Port → List Port → ℕ → Spec
block k ps is os a = record { kind = k; params = ps; state = []; firing = []; ins = is; outs = os; evtin = a; evtout = 0; feed = own_feed k (length is) }

-- from a mask and inputs a block gives these values
abbrev Gives : Spec → ℕ → List ℤ → List ℤ → Type 0
Gives s m u vs = (typed s ≡ true) × (out s [] m u ≡ Values vs)

-- ---- rows

row1 : Gives (block LogicalOp (pos 0 ∷ pos 0 ∷ []) (port 4 2 5 ∷ port 4 2 5 ∷ port 4 2 5 ∷ []) (port 4 2 5 ∷ []) 0) 0 (pos 0 ∷ pos 0 ∷ pos 0 ∷ pos 0 ∷ pos 5 ∷ negsuc 0 ∷ pos 127 ∷ negsuc 127 ∷ pos 0 ∷ pos 0 ∷ pos 3 ∷ negsuc 6 ∷ pos 0 ∷ pos 0 ∷ pos 64 ∷ pos 1 ∷ pos 0 ∷ pos 9 ∷ pos 0 ∷ pos 2 ∷ pos 0 ∷ negsuc 1 ∷ pos 0 ∷ pos 100 ∷ []) (pos 0 ∷ pos 0 ∷ pos 0 ∷ pos 0 ∷ pos 0 ∷ pos 0 ∷ pos 0 ∷ pos 1 ∷ [])
row1 = (refl, refl)

row2 : Gives (block LogicalOp (pos 0 ∷ pos 1 ∷ []) (port 1 2 5 ∷ port 1 2 5 ∷ port 1 2 5 ∷ []) (port 1 2 5 ∷ []) 0) 0 (negsuc 15 ∷ pos 58 ∷ negsuc 51 ∷ negsuc 114 ∷ negsuc 85 ∷ pos 7 ∷ []) (negsuc 127 ∷ pos 0 ∷ [])
row2 = (refl, refl)

row3 : Gives (block LogicalOp (pos 1 ∷ pos 0 ∷ []) (port 4 2 5 ∷ port 4 2 5 ∷ port 4 2 5 ∷ []) (port 4 2 5 ∷ []) 0) 0 (pos 0 ∷ pos 0 ∷ pos 0 ∷ pos 0 ∷ pos 5 ∷ negsuc 0 ∷ pos 127 ∷ negsuc 127 ∷ pos 0 ∷ pos 0 ∷ pos 3 ∷ negsuc 6 ∷ pos 0 ∷ pos 0 ∷ pos 64 ∷ pos 1 ∷ pos 0 ∷ pos 9 ∷ pos 0 ∷ pos 2 ∷ pos 0 ∷ negsuc 1 ∷ pos 0 ∷ pos 100 ∷ []) (pos 0 ∷ pos 1 ∷ pos 1 ∷ pos 1 ∷ pos 1 ∷ pos 1 ∷ pos 1 ∷ pos 1 ∷ [])
row3 = (refl, refl)

row4 : Gives (block LogicalOp (pos 1 ∷ pos 1 ∷ []) (port 1 2 5 ∷ port 1 2 5 ∷ port 1 2 5 ∷ []) (port 1 2 5 ∷ []) 0) 0 (negsuc 15 ∷ pos 58 ∷ negsuc 51 ∷ negsuc 114 ∷ negsuc 85 ∷ pos 7 ∷ []) (negsuc 1 ∷ negsuc 64 ∷ [])
row4 = (refl, refl)

row5 : Gives (block LogicalOp (pos 2 ∷ pos 0 ∷ []) (port 4 2 5 ∷ port 4 2 5 ∷ port 4 2 5 ∷ []) (port 4 2 5 ∷ []) 0) 0 (pos 0 ∷ pos 0 ∷ pos 0 ∷ pos 0 ∷ pos 5 ∷ negsuc 0 ∷ pos 127 ∷ negsuc 127 ∷ pos 0 ∷ pos 0 ∷ pos 3 ∷ negsuc 6 ∷ pos 0 ∷ pos 0 ∷ pos 64 ∷ pos 1 ∷ pos 0 ∷ pos 9 ∷ pos 0 ∷ pos 2 ∷ pos 0 ∷ negsuc 1 ∷ pos 0 ∷ pos 100 ∷ []) (pos 1 ∷ pos 1 ∷ pos 1 ∷ pos 1 ∷ pos 1 ∷ pos 1 ∷ pos 1 ∷ pos 0 ∷ [])
row5 = (refl, refl)

row6 : Gives (block LogicalOp (pos 2 ∷ pos 1 ∷ []) (port 1 2 5 ∷ port 1 2 5 ∷ port 1 2 5 ∷ []) (port 1 2 5 ∷ []) 0) 0 (negsuc 15 ∷ pos 58 ∷ negsuc 51 ∷ negsuc 114 ∷ negsuc 85 ∷ pos 7 ∷ []) (pos 127 ∷ negsuc 0 ∷ [])
row6 = (refl, refl)

row7 : Gives (block LogicalOp (pos 3 ∷ pos 0 ∷ []) (port 4 2 5 ∷ port 4 2 5 ∷ port 4 2 5 ∷ []) (port 4 2 5 ∷ []) 0) 0 (pos 0 ∷ pos 0 ∷ pos 0 ∷ pos 0 ∷ pos 5 ∷ negsuc 0 ∷ pos 127 ∷ negsuc 127 ∷ pos 0 ∷ pos 0 ∷ pos 3 ∷ negsuc 6 ∷ pos 0 ∷ pos 0 ∷ pos 64 ∷ pos 1 ∷ pos 0 ∷ pos 9 ∷ pos 0 ∷ pos 2 ∷ pos 0 ∷ negsuc 1 ∷ pos 0 ∷ pos 100 ∷ []) (pos 1 ∷ pos 0 ∷ pos 0 ∷ pos 0 ∷ pos 0 ∷ pos 0 ∷ pos 0 ∷ pos 0 ∷ [])
row7 = (refl, refl)

row8 : Gives (block LogicalOp (pos 3 ∷ pos 1 ∷ []) (port 1 2 5 ∷ port 1 2 5 ∷ port 1 2 5 ∷ []) (port 1 2 5 ∷ []) 0) 0 (negsuc 15 ∷ pos 58 ∷ negsuc 51 ∷ negsuc 114 ∷ negsuc 85 ∷ pos 7 ∷ []) (pos 1 ∷ pos 64 ∷ [])
row8 = (refl, refl)

row9 : Gives (block LogicalOp (pos 4 ∷ pos 0 ∷ []) (port 4 2 5 ∷ port 4 2 5 ∷ port 4 2 5 ∷ []) (port 4 2 5 ∷ []) 0) 0 (pos 0 ∷ pos 0 ∷ pos 0 ∷ pos 0 ∷ pos 5 ∷ negsuc 0 ∷ pos 127 ∷ negsuc 127 ∷ pos 0 ∷ pos 0 ∷ pos 3 ∷ negsuc 6 ∷ pos 0 ∷ pos 0 ∷ pos 64 ∷ pos 1 ∷ pos 0 ∷ pos 9 ∷ pos 0 ∷ pos 2 ∷ pos 0 ∷ negsuc 1 ∷ pos 0 ∷ pos 100 ∷ []) (pos 0 ∷ pos 1 ∷ pos 1 ∷ pos 0 ∷ pos 1 ∷ pos 0 ∷ pos 0 ∷ pos 1 ∷ [])
row9 = (refl, refl)

row10 : Gives (block LogicalOp (pos 4 ∷ pos 1 ∷ []) (port 1 2 5 ∷ port 1 2 5 ∷ port 1 2 5 ∷ []) (port 1 2 5 ∷ []) 0) 0 (negsuc 15 ∷ pos 58 ∷ negsuc 51 ∷ negsuc 114 ∷ negsuc 85 ∷ pos 7 ∷ []) (negsuc 105 ∷ negsuc 79 ∷ [])
row10 = (refl, refl)

row11 : Gives (block LogicalOp (pos 5 ∷ pos 0 ∷ []) (port 3 1 7 ∷ []) (port 3 1 7 ∷ []) 0) 0 (pos 0 ∷ pos 1 ∷ pos 4660 ∷ []) (pos 1 ∷ pos 0 ∷ pos 0 ∷ [])
row11 = (refl, refl)

row12 : Gives (block LogicalOp (pos 5 ∷ pos 1 ∷ []) (port 3 1 7 ∷ []) (port 3 1 7 ∷ []) 0) 0 (pos 0 ∷ pos 1 ∷ pos 4660 ∷ []) (pos 65535 ∷ pos 65534 ∷ pos 60875 ∷ [])
row12 = (refl, refl)

row13 : Gives (block LogicalOp (pos 4 ∷ pos 1 ∷ []) (port 2 1 6 ∷ port 2 1 6 ∷ []) (port 2 1 6 ∷ []) 0) 0 (pos 305419896 ∷ pos 4042322160 ∷ pos 2596069104 ∷ pos 252645135 ∷ []) (pos 2290649224 ∷ pos 4294967295 ∷ [])
row13 = (refl, refl)

row14 : Gives (block RelationalOp (pos 0 ∷ []) (port 2 2 4 ∷ port 2 2 4 ∷ []) (port 2 2 8 ∷ []) 0) 0 (negsuc 4 ∷ pos 4 ∷ pos 7 ∷ negsuc 8 ∷ pos 3 ∷ pos 4 ∷ negsuc 1 ∷ negsuc 8 ∷ []) (pos 0 ∷ pos 1 ∷ pos 0 ∷ pos 1 ∷ [])
row14 = (refl, refl)

row15 : Gives (block RelationalOp (pos 1 ∷ []) (port 2 2 4 ∷ port 2 2 4 ∷ []) (port 2 2 8 ∷ []) 0) 0 (negsuc 4 ∷ pos 4 ∷ pos 7 ∷ negsuc 8 ∷ pos 3 ∷ pos 4 ∷ negsuc 1 ∷ negsuc 8 ∷ []) (pos 1 ∷ pos 0 ∷ pos 1 ∷ pos 0 ∷ [])
row15 = (refl, refl)

row16 : Gives (block RelationalOp (pos 2 ∷ []) (port 2 2 4 ∷ port 2 2 4 ∷ []) (port 2 2 8 ∷ []) 0) 0 (negsuc 4 ∷ pos 4 ∷ pos 7 ∷ negsuc 8 ∷ pos 3 ∷ pos 4 ∷ negsuc 1 ∷ negsuc 8 ∷ []) (pos 1 ∷ pos 0 ∷ pos 0 ∷ pos 0 ∷ [])
row16 = (refl, refl)

row17 : Gives (block RelationalOp (pos 2 ∷ []) (port 2 1 6 ∷ port 2 1 6 ∷ []) (port 2 1 5 ∷ []) 0) 0 (pos 4294967295 ∷ pos 1 ∷ pos 1 ∷ pos 4294967295 ∷ []) (pos 0 ∷ pos 1 ∷ [])
row17 = (refl, refl)

row18 : Gives (block RelationalOp (pos 3 ∷ []) (port 2 2 4 ∷ port 2 2 4 ∷ []) (port 2 2 8 ∷ []) 0) 0 (negsuc 4 ∷ pos 4 ∷ pos 7 ∷ negsuc 8 ∷ pos 3 ∷ pos 4 ∷ negsuc 1 ∷ negsuc 8 ∷ []) (pos 1 ∷ pos 1 ∷ pos 0 ∷ pos 1 ∷ [])
row18 = (refl, refl)

row19 : Gives (block RelationalOp (pos 4 ∷ []) (port 2 2 4 ∷ port 2 2 4 ∷ []) (port 2 2 8 ∷ []) 0) 0 (negsuc 4 ∷ pos 4 ∷ pos 7 ∷ negsuc 8 ∷ pos 3 ∷ pos 4 ∷ negsuc 1 ∷ negsuc 8 ∷ []) (pos 0 ∷ pos 0 ∷ pos 1 ∷ pos 0 ∷ [])
row19 = (refl, refl)

row20 : Gives (block RelationalOp (pos 4 ∷ []) (port 2 1 6 ∷ port 2 1 6 ∷ []) (port 2 1 5 ∷ []) 0) 0 (pos 4294967295 ∷ pos 1 ∷ pos 1 ∷ pos 4294967295 ∷ []) (pos 1 ∷ pos 0 ∷ [])
row20 = (refl, refl)

row21 : Gives (block RelationalOp (pos 5 ∷ []) (port 2 2 4 ∷ port 2 2 4 ∷ []) (port 2 2 8 ∷ []) 0) 0 (negsuc 4 ∷ pos 4 ∷ pos 7 ∷ negsuc 8 ∷ pos 3 ∷ pos 4 ∷ negsuc 1 ∷ negsuc 8 ∷ []) (pos 0 ∷ pos 1 ∷ pos 1 ∷ pos 1 ∷ [])
row21 = (refl, refl)

row22 : Gives (block Shift (negsuc 2 ∷ pos 0 ∷ []) (port 3 2 5 ∷ []) (port 3 2 5 ∷ []) 0) 0 (pos 1 ∷ pos 5 ∷ negsuc 6 ∷ pos 100 ∷ negsuc 99 ∷ pos 6 ∷ []) (pos 0 ∷ pos 0 ∷ negsuc 0 ∷ pos 12 ∷ negsuc 12 ∷ pos 0 ∷ [])
row22 = (refl, refl)

row23 : Gives (block Shift (negsuc 2 ∷ pos 1 ∷ []) (port 3 1 8 ∷ []) (port 3 1 8 ∷ []) 0) 0 (pos 150 ∷ pos 1 ∷ pos 211 ∷ []) (pos 210 ∷ pos 32 ∷ pos 122 ∷ [])
row23 = (refl, refl)

row24 : Gives (block Shift (negsuc 1 ∷ pos 0 ∷ []) (port 3 2 5 ∷ []) (port 3 2 5 ∷ []) 0) 0 (pos 1 ∷ pos 5 ∷ negsuc 6 ∷ pos 100 ∷ negsuc 99 ∷ pos 6 ∷ []) (pos 0 ∷ pos 1 ∷ negsuc 1 ∷ pos 25 ∷ negsuc 24 ∷ pos 1 ∷ [])
row24 = (refl, refl)

row25 : Gives (block Shift (negsuc 1 ∷ pos 1 ∷ []) (port 3 1 8 ∷ []) (port 3 1 8 ∷ []) 0) 0 (pos 150 ∷ pos 1 ∷ pos 211 ∷ []) (pos 165 ∷ pos 64 ∷ pos 244 ∷ [])
row25 = (refl, refl)

row26 : Gives (block Shift (pos 0 ∷ pos 0 ∷ []) (port 3 2 5 ∷ []) (port 3 2 5 ∷ []) 0) 0 (pos 1 ∷ pos 5 ∷ negsuc 6 ∷ pos 100 ∷ negsuc 99 ∷ pos 6 ∷ []) (pos 1 ∷ pos 5 ∷ negsuc 6 ∷ pos 100 ∷ negsuc 99 ∷ pos 6 ∷ [])
row26 = (refl, refl)

row27 : Gives (block Shift (pos 0 ∷ pos 1 ∷ []) (port 3 1 8 ∷ []) (port 3 1 8 ∷ []) 0) 0 (pos 150 ∷ pos 1 ∷ pos 211 ∷ []) (pos 150 ∷ pos 1 ∷ pos 211 ∷ [])
row27 = (refl, refl)

row28 : Gives (block Shift (pos 3 ∷ pos 0 ∷ []) (port 3 2 5 ∷ []) (port 3 2 5 ∷ []) 0) 0 (pos 1 ∷ pos 5 ∷ negsuc 6 ∷ pos 100 ∷ negsuc 99 ∷ pos 6 ∷ []) (pos 8 ∷ pos 40 ∷ negsuc 55 ∷ pos 32 ∷ negsuc 31 ∷ pos 48 ∷ [])
row28 = (refl, refl)

row29 : Gives (block Shift (pos 3 ∷ pos 1 ∷ []) (port 3 1 8 ∷ []) (port 3 1 8 ∷ []) 0) 0 (pos 150 ∷ pos 1 ∷ pos 211 ∷ []) (pos 180 ∷ pos 8 ∷ pos 158 ∷ [])
row29 = (refl, refl)

row30 : Gives (block Shift (pos 4 ∷ pos 0 ∷ []) (port 3 2 5 ∷ []) (port 3 2 5 ∷ []) 0) 0 (pos 1 ∷ pos 5 ∷ negsuc 6 ∷ pos 100 ∷ negsuc 99 ∷ pos 6 ∷ []) (pos 16 ∷ pos 80 ∷ negsuc 111 ∷ pos 64 ∷ negsuc 63 ∷ pos 96 ∷ [])
row30 = (refl, refl)

row31 : Gives (block Shift (pos 4 ∷ pos 1 ∷ []) (port 3 1 8 ∷ []) (port 3 1 8 ∷ []) 0) 0 (pos 150 ∷ pos 1 ∷ pos 211 ∷ []) (pos 105 ∷ pos 16 ∷ pos 61 ∷ [])
row31 = (refl, refl)

row32 : Gives (block Shift (pos 5 ∷ pos 0 ∷ []) (port 2 1 4 ∷ []) (port 2 1 4 ∷ []) 0) 0 (pos 1234 ∷ negsuc 1234 ∷ []) (negsuc 26047 ∷ pos 26016 ∷ [])
row32 = (refl, refl)

row33 : Gives (block Shift (pos 5 ∷ pos 1 ∷ []) (port 2 1 4 ∷ []) (port 2 1 4 ∷ []) 0) 0 (pos 1234 ∷ negsuc 1234 ∷ []) (negsuc 26047 ∷ pos 26047 ∷ [])
row33 = (refl, refl)

row34 : Gives (block Shift (negsuc 8 ∷ pos 0 ∷ []) (port 2 1 6 ∷ []) (port 2 1 6 ∷ []) 0) 0 (pos 3735928559 ∷ pos 77 ∷ []) (pos 7296735 ∷ pos 0 ∷ [])
row34 = (refl, refl)

row35 : Gives (block Shift (negsuc 8 ∷ pos 1 ∷ []) (port 2 1 6 ∷ []) (port 2 1 6 ∷ []) 0) 0 (pos 3735928559 ∷ pos 77 ∷ []) (pos 2012174047 ∷ pos 645922816 ∷ [])
row35 = (refl, refl)

row36 : Gives (block Shift (pos 13 ∷ pos 0 ∷ []) (port 2 1 3 ∷ []) (port 2 1 3 ∷ []) 0) 0 (pos 305419896 ∷ negsuc 559038736 ∷ []) (negsuc 1966145535 ∷ negsuc 1210195967 ∷ [])
row36 = (refl, refl)

row37 : Gives (block Shift (pos 13 ∷ pos 1 ∷ []) (port 2 1 3 ∷ []) (port 2 1 3 ∷ []) 0) 0 (pos 305419896 ∷ negsuc 559038736 ∷ []) (negsuc 1966144953 ∷ negsuc 1210188842 ∷ [])
row37 = (refl, refl)

row38 : Gives (block BitSet (pos 0 ∷ []) (port 4 1 8 ∷ []) (port 4 1 8 ∷ []) 0) 0 (pos 0 ∷ pos 165 ∷ pos 90 ∷ pos 255 ∷ []) (pos 1 ∷ pos 165 ∷ pos 91 ∷ pos 255 ∷ [])
row38 = (refl, refl)

row39 : Gives (block BitClear (pos 0 ∷ []) (port 4 1 8 ∷ []) (port 4 1 8 ∷ []) 0) 0 (pos 0 ∷ pos 165 ∷ pos 90 ∷ pos 255 ∷ []) (pos 0 ∷ pos 164 ∷ pos 90 ∷ pos 254 ∷ [])
row39 = (refl, refl)

row40 : Gives (block BitSet (pos 1 ∷ []) (port 4 1 8 ∷ []) (port 4 1 8 ∷ []) 0) 0 (pos 0 ∷ pos 165 ∷ pos 90 ∷ pos 255 ∷ []) (pos 2 ∷ pos 167 ∷ pos 90 ∷ pos 255 ∷ [])
row40 = (refl, refl)

row41 : Gives (block BitClear (pos 1 ∷ []) (port 4 1 8 ∷ []) (port 4 1 8 ∷ []) 0) 0 (pos 0 ∷ pos 165 ∷ pos 90 ∷ pos 255 ∷ []) (pos 0 ∷ pos 165 ∷ pos 88 ∷ pos 253 ∷ [])
row41 = (refl, refl)

row42 : Gives (block BitSet (pos 2 ∷ []) (port 4 1 8 ∷ []) (port 4 1 8 ∷ []) 0) 0 (pos 0 ∷ pos 165 ∷ pos 90 ∷ pos 255 ∷ []) (pos 4 ∷ pos 165 ∷ pos 94 ∷ pos 255 ∷ [])
row42 = (refl, refl)

row43 : Gives (block BitClear (pos 2 ∷ []) (port 4 1 8 ∷ []) (port 4 1 8 ∷ []) 0) 0 (pos 0 ∷ pos 165 ∷ pos 90 ∷ pos 255 ∷ []) (pos 0 ∷ pos 161 ∷ pos 90 ∷ pos 251 ∷ [])
row43 = (refl, refl)

row44 : Gives (block BitSet (pos 3 ∷ []) (port 4 1 8 ∷ []) (port 4 1 8 ∷ []) 0) 0 (pos 0 ∷ pos 165 ∷ pos 90 ∷ pos 255 ∷ []) (pos 8 ∷ pos 173 ∷ pos 90 ∷ pos 255 ∷ [])
row44 = (refl, refl)

row45 : Gives (block BitClear (pos 3 ∷ []) (port 4 1 8 ∷ []) (port 4 1 8 ∷ []) 0) 0 (pos 0 ∷ pos 165 ∷ pos 90 ∷ pos 255 ∷ []) (pos 0 ∷ pos 165 ∷ pos 82 ∷ pos 247 ∷ [])
row45 = (refl, refl)

row46 : Gives (block BitSet (pos 4 ∷ []) (port 4 1 8 ∷ []) (port 4 1 8 ∷ []) 0) 0 (pos 0 ∷ pos 165 ∷ pos 90 ∷ pos 255 ∷ []) (pos 16 ∷ pos 181 ∷ pos 90 ∷ pos 255 ∷ [])
row46 = (refl, refl)

row47 : Gives (block BitClear (pos 4 ∷ []) (port 4 1 8 ∷ []) (port 4 1 8 ∷ []) 0) 0 (pos 0 ∷ pos 165 ∷ pos 90 ∷ pos 255 ∷ []) (pos 0 ∷ pos 165 ∷ pos 74 ∷ pos 239 ∷ [])
row47 = (refl, refl)

row48 : Gives (block BitSet (pos 5 ∷ []) (port 4 1 8 ∷ []) (port 4 1 8 ∷ []) 0) 0 (pos 0 ∷ pos 165 ∷ pos 90 ∷ pos 255 ∷ []) (pos 32 ∷ pos 165 ∷ pos 122 ∷ pos 255 ∷ [])
row48 = (refl, refl)

row49 : Gives (block BitClear (pos 5 ∷ []) (port 4 1 8 ∷ []) (port 4 1 8 ∷ []) 0) 0 (pos 0 ∷ pos 165 ∷ pos 90 ∷ pos 255 ∷ []) (pos 0 ∷ pos 133 ∷ pos 90 ∷ pos 223 ∷ [])
row49 = (refl, refl)

row50 : Gives (block BitSet (pos 6 ∷ []) (port 4 1 8 ∷ []) (port 4 1 8 ∷ []) 0) 0 (pos 0 ∷ pos 165 ∷ pos 90 ∷ pos 255 ∷ []) (pos 64 ∷ pos 229 ∷ pos 90 ∷ pos 255 ∷ [])
row50 = (refl, refl)

row51 : Gives (block BitClear (pos 6 ∷ []) (port 4 1 8 ∷ []) (port 4 1 8 ∷ []) 0) 0 (pos 0 ∷ pos 165 ∷ pos 90 ∷ pos 255 ∷ []) (pos 0 ∷ pos 165 ∷ pos 26 ∷ pos 191 ∷ [])
row51 = (refl, refl)

row52 : Gives (block BitSet (pos 7 ∷ []) (port 4 1 8 ∷ []) (port 4 1 8 ∷ []) 0) 0 (pos 0 ∷ pos 165 ∷ pos 90 ∷ pos 255 ∷ []) (pos 128 ∷ pos 165 ∷ pos 218 ∷ pos 255 ∷ [])
row52 = (refl, refl)

row53 : Gives (block BitClear (pos 7 ∷ []) (port 4 1 8 ∷ []) (port 4 1 8 ∷ []) 0) 0 (pos 0 ∷ pos 165 ∷ pos 90 ∷ pos 255 ∷ []) (pos 0 ∷ pos 37 ∷ pos 90 ∷ pos 127 ∷ [])
row53 = (refl, refl)

row54 : Gives (block BitSet (pos 7 ∷ []) (port 3 1 5 ∷ []) (port 3 1 5 ∷ []) 0) 0 (pos 0 ∷ pos 90 ∷ negsuc 90 ∷ []) (negsuc 127 ∷ negsuc 37 ∷ negsuc 90 ∷ [])
row54 = (refl, refl)

row55 : Gives (block BitClear (pos 7 ∷ []) (port 3 1 5 ∷ []) (port 3 1 5 ∷ []) 0) 0 (pos 0 ∷ pos 90 ∷ negsuc 90 ∷ []) (pos 0 ∷ pos 90 ∷ pos 37 ∷ [])
row55 = (refl, refl)

row56 : Gives (block BitSet (pos 9 ∷ []) (port 2 1 4 ∷ []) (port 2 1 4 ∷ []) 0) 0 (pos 21845 ∷ negsuc 21845 ∷ []) (pos 22357 ∷ negsuc 21845 ∷ [])
row56 = (refl, refl)

row57 : Gives (block BitClear (pos 9 ∷ []) (port 2 1 4 ∷ []) (port 2 1 4 ∷ []) 0) 0 (pos 21845 ∷ negsuc 21845 ∷ []) (pos 21845 ∷ negsuc 22357 ∷ [])
row57 = (refl, refl)

row58 : Gives (block BitSet (pos 17 ∷ []) (port 2 1 6 ∷ []) (port 2 1 6 ∷ []) 0) 0 (pos 2863311530 ∷ pos 1431655765 ∷ []) (pos 2863311530 ∷ pos 1431786837 ∷ [])
row58 = (refl, refl)

row59 : Gives (block BitClear (pos 17 ∷ []) (port 2 1 6 ∷ []) (port 2 1 6 ∷ []) 0) 0 (pos 2863311530 ∷ pos 1431655765 ∷ []) (pos 2863180458 ∷ pos 1431655765 ∷ [])
row59 = (refl, refl)

row60 : Gives (block BitSet (pos 31 ∷ []) (port 2 1 3 ∷ []) (port 2 1 3 ∷ []) 0) 0 (pos 5 ∷ negsuc 5 ∷ []) (negsuc 2147483642 ∷ negsuc 5 ∷ [])
row60 = (refl, refl)

row61 : Gives (block BitClear (pos 31 ∷ []) (port 2 1 3 ∷ []) (port 2 1 3 ∷ []) 0) 0 (pos 5 ∷ negsuc 5 ∷ []) (pos 5 ∷ pos 2147483642 ∷ [])
row61 = (refl, refl)

row62 : Gives (block BitSet (pos 20 ∷ []) (port 2 1 3 ∷ []) (port 2 1 3 ∷ []) 0) 0 (negsuc 1048576 ∷ pos 1048576 ∷ []) (negsuc 0 ∷ pos 1048576 ∷ [])
row62 = (refl, refl)

row63 : Gives (block BitClear (pos 20 ∷ []) (port 2 1 3 ∷ []) (port 2 1 3 ∷ []) 0) 0 (negsuc 1048576 ∷ pos 1048576 ∷ []) (negsuc 1048576 ∷ pos 0 ∷ [])
row63 = (refl, refl)

row64 : Gives (block ExtractBits (pos 2 ∷ pos 4 ∷ []) (port 4 1 8 ∷ []) (port 4 1 8 ∷ []) 0) 0 (pos 182 ∷ pos 255 ∷ pos 0 ∷ pos 89 ∷ []) (pos 5 ∷ pos 7 ∷ pos 0 ∷ pos 6 ∷ [])
row64 = (refl, refl)

row65 : Gives (block ExtractBits (pos 0 ∷ pos 3 ∷ []) (port 2 1 8 ∷ []) (port 2 1 8 ∷ []) 0) 0 (pos 182 ∷ pos 89 ∷ []) (pos 6 ∷ pos 9 ∷ [])
row65 = (refl, refl)

row66 : Gives (block ExtractBits (pos 5 ∷ pos 5 ∷ []) (port 2 1 8 ∷ []) (port 2 1 8 ∷ []) 0) 0 (pos 182 ∷ pos 89 ∷ []) (pos 1 ∷ pos 0 ∷ [])
row66 = (refl, refl)

row67 : Gives (block ExtractBits (pos 4 ∷ pos 7 ∷ []) (port 2 1 8 ∷ []) (port 2 1 8 ∷ []) 0) 0 (pos 182 ∷ pos 89 ∷ []) (pos 11 ∷ pos 5 ∷ [])
row67 = (refl, refl)

row68 : Gives (block ExtractBits (pos 1 ∷ pos 6 ∷ []) (port 2 1 5 ∷ []) (port 2 1 5 ∷ []) 0) 0 (negsuc 73 ∷ pos 89 ∷ []) (pos 27 ∷ pos 44 ∷ [])
row68 = (refl, refl)

row69 : Gives (block ExtractBits (pos 0 ∷ pos 7 ∷ []) (port 2 1 5 ∷ []) (port 2 1 5 ∷ []) 0) 0 (negsuc 73 ∷ pos 89 ∷ []) (negsuc 73 ∷ pos 89 ∷ [])
row69 = (refl, refl)

row70 : Gives (block ExtractBits (pos 4 ∷ pos 11 ∷ []) (port 2 1 7 ∷ []) (port 2 1 7 ∷ []) 0) 0 (pos 46260 ∷ pos 19275 ∷ []) (pos 75 ∷ pos 180 ∷ [])
row70 = (refl, refl)

row71 : Gives (block ExtractBits (pos 8 ∷ pos 23 ∷ []) (port 2 1 3 ∷ []) (port 2 1 3 ∷ []) 0) 0 (negsuc 559038736 ∷ pos 305419896 ∷ []) (pos 44478 ∷ pos 13398 ∷ [])
row71 = (refl, refl)

row72 : Gives (block Switch2 (pos 0 ∷ pos 5 ∷ []) (port 2 2 4 ∷ port 1 1 5 ∷ port 2 2 4 ∷ []) (port 2 2 4 ∷ []) 0) 0 (pos 1 ∷ pos 2 ∷ pos 3 ∷ pos 4 ∷ pos 4 ∷ negsuc 0 ∷ negsuc 1 ∷ negsuc 2 ∷ negsuc 3 ∷ []) (negsuc 0 ∷ negsuc 1 ∷ negsuc 2 ∷ negsuc 3 ∷ [])
row72 = (refl, refl)

row73 : Gives (block Switch2 (pos 0 ∷ pos 5 ∷ []) (port 2 2 4 ∷ port 1 1 5 ∷ port 2 2 4 ∷ []) (port 2 2 4 ∷ []) 0) 0 (pos 1 ∷ pos 2 ∷ pos 3 ∷ pos 4 ∷ pos 5 ∷ negsuc 0 ∷ negsuc 1 ∷ negsuc 2 ∷ negsuc 3 ∷ []) (pos 1 ∷ pos 2 ∷ pos 3 ∷ pos 4 ∷ [])
row73 = (refl, refl)

row74 : Gives (block Switch2 (pos 0 ∷ pos 5 ∷ []) (port 2 2 4 ∷ port 1 1 5 ∷ port 2 2 4 ∷ []) (port 2 2 4 ∷ []) 0) 0 (pos 1 ∷ pos 2 ∷ pos 3 ∷ pos 4 ∷ pos 6 ∷ negsuc 0 ∷ negsuc 1 ∷ negsuc 2 ∷ negsuc 3 ∷ []) (pos 1 ∷ pos 2 ∷ pos 3 ∷ pos 4 ∷ [])
row74 = (refl, refl)

row75 : Gives (block Switch2 (pos 0 ∷ negsuc 2 ∷ []) (port 2 2 4 ∷ port 1 1 5 ∷ port 2 2 4 ∷ []) (port 2 2 4 ∷ []) 0) 0 (pos 1 ∷ pos 2 ∷ pos 3 ∷ pos 4 ∷ negsuc 2 ∷ negsuc 0 ∷ negsuc 1 ∷ negsuc 2 ∷ negsuc 3 ∷ []) (pos 1 ∷ pos 2 ∷ pos 3 ∷ pos 4 ∷ [])
row75 = (refl, refl)

row76 : Gives (block Switch2 (pos 1 ∷ pos 5 ∷ []) (port 2 2 4 ∷ port 1 1 5 ∷ port 2 2 4 ∷ []) (port 2 2 4 ∷ []) 0) 0 (pos 1 ∷ pos 2 ∷ pos 3 ∷ pos 4 ∷ pos 4 ∷ negsuc 0 ∷ negsuc 1 ∷ negsuc 2 ∷ negsuc 3 ∷ []) (negsuc 0 ∷ negsuc 1 ∷ negsuc 2 ∷ negsuc 3 ∷ [])
row76 = (refl, refl)

row77 : Gives (block Switch2 (pos 1 ∷ pos 5 ∷ []) (port 2 2 4 ∷ port 1 1 5 ∷ port 2 2 4 ∷ []) (port 2 2 4 ∷ []) 0) 0 (pos 1 ∷ pos 2 ∷ pos 3 ∷ pos 4 ∷ pos 5 ∷ negsuc 0 ∷ negsuc 1 ∷ negsuc 2 ∷ negsuc 3 ∷ []) (negsuc 0 ∷ negsuc 1 ∷ negsuc 2 ∷ negsuc 3 ∷ [])
row77 = (refl, refl)

row78 : Gives (block Switch2 (pos 1 ∷ pos 5 ∷ []) (port 2 2 4 ∷ port 1 1 5 ∷ port 2 2 4 ∷ []) (port 2 2 4 ∷ []) 0) 0 (pos 1 ∷ pos 2 ∷ pos 3 ∷ pos 4 ∷ pos 6 ∷ negsuc 0 ∷ negsuc 1 ∷ negsuc 2 ∷ negsuc 3 ∷ []) (pos 1 ∷ pos 2 ∷ pos 3 ∷ pos 4 ∷ [])
row78 = (refl, refl)

row79 : Gives (block Switch2 (pos 1 ∷ negsuc 2 ∷ []) (port 2 2 4 ∷ port 1 1 5 ∷ port 2 2 4 ∷ []) (port 2 2 4 ∷ []) 0) 0 (pos 1 ∷ pos 2 ∷ pos 3 ∷ pos 4 ∷ negsuc 2 ∷ negsuc 0 ∷ negsuc 1 ∷ negsuc 2 ∷ negsuc 3 ∷ []) (negsuc 0 ∷ negsuc 1 ∷ negsuc 2 ∷ negsuc 3 ∷ [])
row79 = (refl, refl)

row80 : Gives (block Switch2 (pos 2 ∷ pos 5 ∷ []) (port 2 2 4 ∷ port 1 1 5 ∷ port 2 2 4 ∷ []) (port 2 2 4 ∷ []) 0) 0 (pos 1 ∷ pos 2 ∷ pos 3 ∷ pos 4 ∷ pos 4 ∷ negsuc 0 ∷ negsuc 1 ∷ negsuc 2 ∷ negsuc 3 ∷ []) (pos 1 ∷ pos 2 ∷ pos 3 ∷ pos 4 ∷ [])
row80 = (refl, refl)

row81 : Gives (block Switch2 (pos 2 ∷ pos 5 ∷ []) (port 2 2 4 ∷ port 1 1 5 ∷ port 2 2 4 ∷ []) (port 2 2 4 ∷ []) 0) 0 (pos 1 ∷ pos 2 ∷ pos 3 ∷ pos 4 ∷ pos 5 ∷ negsuc 0 ∷ negsuc 1 ∷ negsuc 2 ∷ negsuc 3 ∷ []) (negsuc 0 ∷ negsuc 1 ∷ negsuc 2 ∷ negsuc 3 ∷ [])
row81 = (refl, refl)

row82 : Gives (block Switch2 (pos 2 ∷ pos 5 ∷ []) (port 2 2 4 ∷ port 1 1 5 ∷ port 2 2 4 ∷ []) (port 2 2 4 ∷ []) 0) 0 (pos 1 ∷ pos 2 ∷ pos 3 ∷ pos 4 ∷ pos 6 ∷ negsuc 0 ∷ negsuc 1 ∷ negsuc 2 ∷ negsuc 3 ∷ []) (pos 1 ∷ pos 2 ∷ pos 3 ∷ pos 4 ∷ [])
row82 = (refl, refl)

row83 : Gives (block Switch2 (pos 2 ∷ negsuc 2 ∷ []) (port 2 2 4 ∷ port 1 1 5 ∷ port 2 2 4 ∷ []) (port 2 2 4 ∷ []) 0) 0 (pos 1 ∷ pos 2 ∷ pos 3 ∷ pos 4 ∷ negsuc 2 ∷ negsuc 0 ∷ negsuc 1 ∷ negsuc 2 ∷ negsuc 3 ∷ []) (negsuc 0 ∷ negsuc 1 ∷ negsuc 2 ∷ negsuc 3 ∷ [])
row83 = (refl, refl)

row84 : Gives (block Switch2 (pos 0 ∷ pos 4294967295 ∷ []) (port 1 1 8 ∷ port 1 1 6 ∷ port 1 1 8 ∷ []) (port 1 1 8 ∷ []) 0) 0 (pos 7 ∷ pos 4294967295 ∷ pos 9 ∷ []) (pos 7 ∷ [])
row84 = (refl, refl)

row85 : Gives (block Switch2 (pos 0 ∷ pos 4294967295 ∷ []) (port 1 1 8 ∷ port 1 1 6 ∷ port 1 1 8 ∷ []) (port 1 1 8 ∷ []) 0) 0 (pos 7 ∷ pos 4294967294 ∷ pos 9 ∷ []) (pos 9 ∷ [])
row85 = (refl, refl)

row86 : Gives (block Select ([]) (port 1 2 7 ∷ port 1 2 7 ∷ port 1 2 7 ∷ []) (port 1 2 7 ∷ []) 3) 1 (pos 11 ∷ pos 12 ∷ pos 21 ∷ pos 22 ∷ pos 31 ∷ pos 32 ∷ []) (pos 11 ∷ pos 12 ∷ [])
row86 = (refl, refl)

row87 : Gives (block Select ([]) (port 1 2 7 ∷ port 1 2 7 ∷ port 1 2 7 ∷ []) (port 1 2 7 ∷ []) 3) 2 (pos 11 ∷ pos 12 ∷ pos 21 ∷ pos 22 ∷ pos 31 ∷ pos 32 ∷ []) (pos 21 ∷ pos 22 ∷ [])
row87 = (refl, refl)

row88 : Gives (block Select ([]) (port 1 2 7 ∷ port 1 2 7 ∷ port 1 2 7 ∷ []) (port 1 2 7 ∷ []) 3) 3 (pos 11 ∷ pos 12 ∷ pos 21 ∷ pos 22 ∷ pos 31 ∷ pos 32 ∷ []) (pos 11 ∷ pos 12 ∷ [])
row88 = (refl, refl)

row89 : Gives (block Select ([]) (port 1 2 7 ∷ port 1 2 7 ∷ port 1 2 7 ∷ []) (port 1 2 7 ∷ []) 3) 4 (pos 11 ∷ pos 12 ∷ pos 21 ∷ pos 22 ∷ pos 31 ∷ pos 32 ∷ []) (pos 31 ∷ pos 32 ∷ [])
row89 = (refl, refl)

row90 : Gives (block Select ([]) (port 1 2 7 ∷ port 1 2 7 ∷ port 1 2 7 ∷ []) (port 1 2 7 ∷ []) 3) 5 (pos 11 ∷ pos 12 ∷ pos 21 ∷ pos 22 ∷ pos 31 ∷ pos 32 ∷ []) (pos 11 ∷ pos 12 ∷ [])
row90 = (refl, refl)

row91 : Gives (block Select ([]) (port 1 2 7 ∷ port 1 2 7 ∷ port 1 2 7 ∷ []) (port 1 2 7 ∷ []) 3) 6 (pos 11 ∷ pos 12 ∷ pos 21 ∷ pos 22 ∷ pos 31 ∷ pos 32 ∷ []) (pos 21 ∷ pos 22 ∷ [])
row91 = (refl, refl)

row92 : Gives (block Select ([]) (port 1 2 7 ∷ port 1 2 7 ∷ port 1 2 7 ∷ []) (port 1 2 7 ∷ []) 3) 7 (pos 11 ∷ pos 12 ∷ pos 21 ∷ pos 22 ∷ pos 31 ∷ pos 32 ∷ []) (pos 11 ∷ pos 12 ∷ [])
row92 = (refl, refl)

row93 : Gives (block Select ([]) (port 2 1 4 ∷ port 2 1 4 ∷ port 2 1 4 ∷ port 2 1 4 ∷ port 2 1 4 ∷ port 2 1 4 ∷ port 2 1 4 ∷ port 2 1 4 ∷ []) (port 2 1 4 ∷ []) 8) 128 (pos 0 ∷ pos 0 ∷ pos 10 ∷ negsuc 0 ∷ pos 20 ∷ negsuc 1 ∷ pos 30 ∷ negsuc 2 ∷ pos 40 ∷ negsuc 3 ∷ pos 50 ∷ negsuc 4 ∷ pos 60 ∷ negsuc 5 ∷ pos 70 ∷ negsuc 6 ∷ []) (pos 70 ∷ negsuc 6 ∷ [])
row93 = (refl, refl)

row94 : Gives (block Select ([]) (port 2 1 4 ∷ port 2 1 4 ∷ port 2 1 4 ∷ port 2 1 4 ∷ port 2 1 4 ∷ port 2 1 4 ∷ port 2 1 4 ∷ port 2 1 4 ∷ []) (port 2 1 4 ∷ []) 8) 176 (pos 0 ∷ pos 0 ∷ pos 10 ∷ negsuc 0 ∷ pos 20 ∷ negsuc 1 ∷ pos 30 ∷ negsuc 2 ∷ pos 40 ∷ negsuc 3 ∷ pos 50 ∷ negsuc 4 ∷ pos 60 ∷ negsuc 5 ∷ pos 70 ∷ negsuc 6 ∷ []) (pos 40 ∷ negsuc 3 ∷ [])
row94 = (refl, refl)

row95 : Gives (block Select ([]) (port 2 1 4 ∷ port 2 1 4 ∷ port 2 1 4 ∷ port 2 1 4 ∷ port 2 1 4 ∷ port 2 1 4 ∷ port 2 1 4 ∷ port 2 1 4 ∷ []) (port 2 1 4 ∷ []) 8) 254 (pos 0 ∷ pos 0 ∷ pos 10 ∷ negsuc 0 ∷ pos 20 ∷ negsuc 1 ∷ pos 30 ∷ negsuc 2 ∷ pos 40 ∷ negsuc 3 ∷ pos 50 ∷ negsuc 4 ∷ pos 60 ∷ negsuc 5 ∷ pos 70 ∷ negsuc 6 ∷ []) (pos 10 ∷ negsuc 0 ∷ [])
row95 = (refl, refl)

row96 : Gives (block Logic (pos 0 ∷ pos 1 ∷ pos 1 ∷ pos 1 ∷ pos 1 ∷ pos 0 ∷ pos 0 ∷ pos 0 ∷ pos 0 ∷ pos 1 ∷ pos 1 ∷ pos 1 ∷ pos 1 ∷ pos 0 ∷ pos 0 ∷ pos 1 ∷ []) (port 1 1 5 ∷ port 1 1 3 ∷ port 1 1 8 ∷ []) (port 1 1 4 ∷ port 1 1 8 ∷ []) 0) 0 (pos 0 ∷ pos 0 ∷ pos 0 ∷ []) (pos 0 ∷ pos 1 ∷ [])
row96 = (refl, refl)

row97 : Gives (block Logic (pos 0 ∷ pos 1 ∷ pos 1 ∷ pos 1 ∷ pos 1 ∷ pos 0 ∷ pos 0 ∷ pos 0 ∷ pos 0 ∷ pos 1 ∷ pos 1 ∷ pos 1 ∷ pos 1 ∷ pos 0 ∷ pos 0 ∷ pos 1 ∷ []) (port 1 1 5 ∷ port 1 1 3 ∷ port 1 1 8 ∷ []) (port 1 1 4 ∷ port 1 1 8 ∷ []) 0) 0 (pos 0 ∷ pos 0 ∷ pos 255 ∷ []) (pos 1 ∷ pos 1 ∷ [])
row97 = (refl, refl)

row98 : Gives (block Logic (pos 0 ∷ pos 1 ∷ pos 1 ∷ pos 1 ∷ pos 1 ∷ pos 0 ∷ pos 0 ∷ pos 0 ∷ pos 0 ∷ pos 1 ∷ pos 1 ∷ pos 1 ∷ pos 1 ∷ pos 0 ∷ pos 0 ∷ pos 1 ∷ []) (port 1 1 5 ∷ port 1 1 3 ∷ port 1 1 8 ∷ []) (port 1 1 4 ∷ port 1 1 8 ∷ []) 0) 0 (pos 0 ∷ pos 70000 ∷ pos 0 ∷ []) (pos 1 ∷ pos 0 ∷ [])
row98 = (refl, refl)

row99 : Gives (block Logic (pos 0 ∷ pos 1 ∷ pos 1 ∷ pos 1 ∷ pos 1 ∷ pos 0 ∷ pos 0 ∷ pos 0 ∷ pos 0 ∷ pos 1 ∷ pos 1 ∷ pos 1 ∷ pos 1 ∷ pos 0 ∷ pos 0 ∷ pos 1 ∷ []) (port 1 1 5 ∷ port 1 1 3 ∷ port 1 1 8 ∷ []) (port 1 1 4 ∷ port 1 1 8 ∷ []) 0) 0 (pos 0 ∷ pos 70000 ∷ pos 255 ∷ []) (pos 0 ∷ pos 0 ∷ [])
row99 = (refl, refl)

row100 : Gives (block Logic (pos 0 ∷ pos 1 ∷ pos 1 ∷ pos 1 ∷ pos 1 ∷ pos 0 ∷ pos 0 ∷ pos 0 ∷ pos 0 ∷ pos 1 ∷ pos 1 ∷ pos 1 ∷ pos 1 ∷ pos 0 ∷ pos 0 ∷ pos 1 ∷ []) (port 1 1 5 ∷ port 1 1 3 ∷ port 1 1 8 ∷ []) (port 1 1 4 ∷ port 1 1 8 ∷ []) 0) 0 (negsuc 2 ∷ pos 0 ∷ pos 0 ∷ []) (pos 0 ∷ pos 1 ∷ [])
row100 = (refl, refl)

row101 : Gives (block Logic (pos 0 ∷ pos 1 ∷ pos 1 ∷ pos 1 ∷ pos 1 ∷ pos 0 ∷ pos 0 ∷ pos 0 ∷ pos 0 ∷ pos 1 ∷ pos 1 ∷ pos 1 ∷ pos 1 ∷ pos 0 ∷ pos 0 ∷ pos 1 ∷ []) (port 1 1 5 ∷ port 1 1 3 ∷ port 1 1 8 ∷ []) (port 1 1 4 ∷ port 1 1 8 ∷ []) 0) 0 (negsuc 2 ∷ pos 0 ∷ pos 255 ∷ []) (pos 1 ∷ pos 1 ∷ [])
row101 = (refl, refl)

row102 : Gives (block Logic (pos 0 ∷ pos 1 ∷ pos 1 ∷ pos 1 ∷ pos 1 ∷ pos 0 ∷ pos 0 ∷ pos 0 ∷ pos 0 ∷ pos 1 ∷ pos 1 ∷ pos 1 ∷ pos 1 ∷ pos 0 ∷ pos 0 ∷ pos 1 ∷ []) (port 1 1 5 ∷ port 1 1 3 ∷ port 1 1 8 ∷ []) (port 1 1 4 ∷ port 1 1 8 ∷ []) 0) 0 (negsuc 2 ∷ pos 70000 ∷ pos 0 ∷ []) (pos 1 ∷ pos 0 ∷ [])
row102 = (refl, refl)

row103 : Gives (block Logic (pos 0 ∷ pos 1 ∷ pos 1 ∷ pos 1 ∷ pos 1 ∷ pos 0 ∷ pos 0 ∷ pos 0 ∷ pos 0 ∷ pos 1 ∷ pos 1 ∷ pos 1 ∷ pos 1 ∷ pos 0 ∷ pos 0 ∷ pos 1 ∷ []) (port 1 1 5 ∷ port 1 1 3 ∷ port 1 1 8 ∷ []) (port 1 1 4 ∷ port 1 1 8 ∷ []) 0) 0 (negsuc 2 ∷ pos 70000 ∷ pos 255 ∷ []) (pos 0 ∷ pos 1 ∷ [])
row103 = (refl, refl)

row104 : Gives (block Logic (pos 1 ∷ pos 0 ∷ pos 0 ∷ pos 0 ∷ pos 1 ∷ pos 1 ∷ []) (port 1 1 7 ∷ []) (port 1 1 3 ∷ port 1 1 3 ∷ port 1 1 3 ∷ []) 0) 0 (pos 0 ∷ []) (pos 1 ∷ pos 0 ∷ pos 0 ∷ [])
row104 = (refl, refl)

row105 : Gives (block Logic (pos 1 ∷ pos 0 ∷ pos 0 ∷ pos 0 ∷ pos 1 ∷ pos 1 ∷ []) (port 1 1 7 ∷ []) (port 1 1 3 ∷ port 1 1 3 ∷ port 1 1 3 ∷ []) 0) 0 (pos 2 ∷ []) (pos 0 ∷ pos 1 ∷ pos 1 ∷ [])
row105 = (refl, refl)
