-- Rows of the table of kinds 14 to 34, each of a typed spec. Written by tools/kind_rows.py.
use Rattle.std.proofs.Common.{◌≡◌, ℕ, ℤ, pos, negsuc, List, [], ◌∷◌, length, true, refl}
use Rattle.sci_forms.specs.declared.Kind.{Kind}
use Rattle.sci_forms.specs.declared.Kind.TheVariants.{LogicalOp, RelationalOp, Shift, BitSet, BitClear, ExtractBits, Switch2, Select, Logic, AndLog, Dollar, SampHold, Register, ModuloCount, GatedDelay, Sensor, EvtDly, EvtVarDly, IfThEl, ESelect, Halt}
use Rattle.sci_forms.specs.declared.ports.Port.{Port}
use Rattle.sci_forms.specs.declared.spec.Spec.{Spec}
use Rattle.sci_forms.specs.Forms.{own_feed}
use Rattle.sci_forms.specs.Typed.{typed}
use Rattle.sci_kinds.specs.Table.{Values, out, next, delay, branch}

abbrev scalar : ℕ → Port
scalar ty = record { rows = pos 1; cols = pos 1; ty = pos ty }

-- a block by its kind, parameters, state, first dates, inputs, outputs and counts of activation ports
abbrev block : Kind → List ℤ → List ℤ → List ℤ → List Port → List Port → ℕ → ℕ → Spec
block k ps xs fs is os a b = record { kind = k; params = ps; state = xs; firing = fs; ins = is; outs = os; evtin = a; evtout = b; feed = own_feed k (length is) }

-- from a state, a mask and inputs a block gives these values
abbrev Gives : Spec → List ℤ → ℕ → List ℤ → List ℤ → Type 0
Gives s x m u vs = (typed s ≡ true) × (out s x m u ≡ Values vs)

-- and its next state is this
abbrev Steps : Spec → List ℤ → ℕ → List ℤ → List ℤ → Type 0
Steps s x m u y = (typed s ≡ true) × (next s x m u ≡ y)

abbrev Delays : Spec → List ℤ → ℤ → Type 0
Delays s u d = (typed s ≡ true) × (delay s 1 u ≡ d)

abbrev Takes : Spec → List ℤ → ℕ → Type 0
Takes s u b = (typed s ≡ true) × (branch s u ≡ b)

-- ---- rows

row1 : Gives (block LogicalOp (pos 0 ∷ pos 0 ∷ []) ([]) ([]) (scalar 3 ∷ scalar 3 ∷ []) (scalar 3 ∷ []) 0 0) ([]) 0 (negsuc 2147483647 ∷ pos 2147483647 ∷ []) (pos 1 ∷ [])
row1 = (refl, refl)

row2 : Gives (block RelationalOp (pos 0 ∷ []) ([]) ([]) (scalar 3 ∷ scalar 3 ∷ []) (scalar 3 ∷ []) 0 0) ([]) 0 (negsuc 2147483647 ∷ pos 2147483647 ∷ []) (pos 0 ∷ [])
row2 = (refl, refl)

row3 : Gives (block LogicalOp (pos 1 ∷ pos 1 ∷ []) ([]) ([]) (scalar 3 ∷ scalar 3 ∷ []) (scalar 3 ∷ []) 0 0) ([]) 0 (negsuc 2147483647 ∷ pos 2147483647 ∷ []) (negsuc 0 ∷ [])
row3 = (refl, refl)

row4 : Gives (block LogicalOp (pos 2 ∷ pos 0 ∷ []) ([]) ([]) (scalar 3 ∷ scalar 3 ∷ []) (scalar 3 ∷ []) 0 0) ([]) 0 (negsuc 2147483647 ∷ pos 2147483647 ∷ []) (pos 0 ∷ [])
row4 = (refl, refl)

row5 : Gives (block LogicalOp (pos 3 ∷ pos 1 ∷ []) ([]) ([]) (scalar 3 ∷ scalar 3 ∷ []) (scalar 3 ∷ []) 0 0) ([]) 0 (negsuc 2147483647 ∷ pos 2147483647 ∷ []) (pos 0 ∷ [])
row5 = (refl, refl)

row6 : Gives (block RelationalOp (pos 3 ∷ []) ([]) ([]) (scalar 3 ∷ scalar 3 ∷ []) (scalar 3 ∷ []) 0 0) ([]) 0 (pos 2147483647 ∷ pos 2147483647 ∷ []) (pos 1 ∷ [])
row6 = (refl, refl)

row7 : Gives (block LogicalOp (pos 4 ∷ pos 0 ∷ []) ([]) ([]) (scalar 3 ∷ scalar 3 ∷ []) (scalar 3 ∷ []) 0 0) ([]) 0 (negsuc 2147483647 ∷ pos 2147483647 ∷ []) (pos 0 ∷ [])
row7 = (refl, refl)

row8 : Gives (block LogicalOp (pos 5 ∷ pos 1 ∷ []) ([]) ([]) (scalar 3 ∷ []) (scalar 3 ∷ []) 0 0) ([]) 0 (negsuc 2147483647 ∷ []) (pos 2147483647 ∷ [])
row8 = (refl, refl)

row9 : Gives (block Shift (negsuc 30 ∷ pos 0 ∷ []) ([]) ([]) (scalar 3 ∷ []) (scalar 3 ∷ []) 0 0) ([]) 0 (negsuc 2147483646 ∷ []) (negsuc 0 ∷ [])
row9 = (refl, refl)

row10 : Gives (block Shift (negsuc 30 ∷ pos 1 ∷ []) ([]) ([]) (scalar 3 ∷ []) (scalar 3 ∷ []) 0 0) ([]) 0 (pos 2147483646 ∷ []) (negsuc 3 ∷ [])
row10 = (refl, refl)

row11 : Gives (block Shift (negsuc 0 ∷ pos 0 ∷ []) ([]) ([]) (scalar 3 ∷ []) (scalar 3 ∷ []) 0 0) ([]) 0 (negsuc 2147483646 ∷ []) (negsuc 1073741823 ∷ [])
row11 = (refl, refl)

row12 : Gives (block Shift (negsuc 0 ∷ pos 1 ∷ []) ([]) ([]) (scalar 3 ∷ []) (scalar 3 ∷ []) 0 0) ([]) 0 (pos 2147483646 ∷ []) (pos 1073741823 ∷ [])
row12 = (refl, refl)

row13 : Gives (block Shift (pos 1 ∷ pos 0 ∷ []) ([]) ([]) (scalar 3 ∷ []) (scalar 3 ∷ []) 0 0) ([]) 0 (negsuc 2147483646 ∷ []) (pos 2 ∷ [])
row13 = (refl, refl)

row14 : Gives (block Shift (pos 1 ∷ pos 1 ∷ []) ([]) ([]) (scalar 3 ∷ []) (scalar 3 ∷ []) 0 0) ([]) 0 (pos 2147483646 ∷ []) (negsuc 3 ∷ [])
row14 = (refl, refl)

row15 : Gives (block BitSet (pos 31 ∷ []) ([]) ([]) (scalar 3 ∷ []) (scalar 3 ∷ []) 0 0) ([]) 0 (pos 0 ∷ []) (negsuc 2147483647 ∷ [])
row15 = (refl, refl)

row16 : Gives (block BitClear (pos 0 ∷ []) ([]) ([]) (scalar 3 ∷ []) (scalar 3 ∷ []) 0 0) ([]) 0 (pos 2147483647 ∷ []) (pos 2147483646 ∷ [])
row16 = (refl, refl)

row17 : Gives (block BitClear (pos 31 ∷ []) ([]) ([]) (scalar 3 ∷ []) (scalar 3 ∷ []) 0 0) ([]) 0 (negsuc 2147483647 ∷ []) (pos 0 ∷ [])
row17 = (refl, refl)

row18 : Gives (block ExtractBits (pos 1 ∷ pos 31 ∷ []) ([]) ([]) (scalar 3 ∷ []) (scalar 3 ∷ []) 0 0) ([]) 0 (negsuc 2147483642 ∷ []) (pos 1073741826 ∷ [])
row18 = (refl, refl)

row19 : Gives (block ExtractBits (pos 0 ∷ pos 31 ∷ []) ([]) ([]) (scalar 3 ∷ []) (scalar 3 ∷ []) 0 0) ([]) 0 (pos 2147483647 ∷ []) (pos 2147483647 ∷ [])
row19 = (refl, refl)

row20 : Gives (block Switch2 (pos 0 ∷ pos 0 ∷ []) ([]) ([]) (scalar 3 ∷ scalar 3 ∷ scalar 3 ∷ []) (scalar 3 ∷ []) 0 0) ([]) 0 (negsuc 2147483647 ∷ negsuc 2147483647 ∷ pos 2147483647 ∷ []) (pos 2147483647 ∷ [])
row20 = (refl, refl)

row21 : Gives (block Switch2 (pos 0 ∷ pos 0 ∷ []) ([]) ([]) (scalar 3 ∷ scalar 3 ∷ scalar 3 ∷ []) (scalar 3 ∷ []) 0 0) ([]) 0 (negsuc 2147483647 ∷ pos 2147483647 ∷ pos 2147483647 ∷ []) (negsuc 2147483647 ∷ [])
row21 = (refl, refl)

row22 : Gives (block Switch2 (pos 1 ∷ pos 0 ∷ []) ([]) ([]) (scalar 3 ∷ scalar 3 ∷ scalar 3 ∷ []) (scalar 3 ∷ []) 0 0) ([]) 0 (negsuc 2147483647 ∷ pos 0 ∷ pos 2147483647 ∷ []) (pos 2147483647 ∷ [])
row22 = (refl, refl)

row23 : Gives (block Switch2 (pos 2 ∷ pos 0 ∷ []) ([]) ([]) (scalar 3 ∷ scalar 3 ∷ scalar 3 ∷ []) (scalar 3 ∷ []) 0 0) ([]) 0 (negsuc 2147483647 ∷ negsuc 2147483647 ∷ pos 2147483647 ∷ []) (negsuc 2147483647 ∷ [])
row23 = (refl, refl)

row24 : Gives (block Switch2 (pos 2 ∷ pos 0 ∷ []) ([]) ([]) (scalar 3 ∷ scalar 3 ∷ scalar 3 ∷ []) (scalar 3 ∷ []) 0 0) ([]) 0 (negsuc 2147483647 ∷ pos 2147483647 ∷ pos 2147483647 ∷ []) (negsuc 2147483647 ∷ [])
row24 = (refl, refl)

row25 : Gives (block Select ([]) ([]) ([]) (scalar 3 ∷ scalar 3 ∷ scalar 3 ∷ []) (scalar 3 ∷ []) 3 0) ([]) 5 (negsuc 2147483647 ∷ pos 0 ∷ pos 2147483647 ∷ []) (negsuc 2147483647 ∷ [])
row25 = (refl, refl)

row26 : Gives (block Dollar ([]) (negsuc 2147483647 ∷ []) ([]) (scalar 3 ∷ []) (scalar 3 ∷ []) 0 0) (negsuc 2147483647 ∷ []) 0 (pos 2147483647 ∷ []) (negsuc 2147483647 ∷ [])
row26 = (refl, refl)

row27 : Steps (block Dollar ([]) (negsuc 2147483647 ∷ []) ([]) (scalar 3 ∷ []) (scalar 3 ∷ []) 1 0) (negsuc 2147483647 ∷ []) 1 (pos 2147483647 ∷ []) (pos 2147483647 ∷ [])
row27 = (refl, refl)

row28 : Gives (block SampHold ([]) ([]) ([]) (scalar 3 ∷ []) (scalar 3 ∷ []) 0 0) ([]) 0 (pos 2147483647 ∷ []) (pos 2147483647 ∷ [])
row28 = (refl, refl)

row29 : Gives (block Register ([]) (negsuc 2147483647 ∷ pos 0 ∷ pos 2147483647 ∷ []) ([]) (scalar 3 ∷ []) (scalar 3 ∷ []) 0 0) (negsuc 2147483647 ∷ pos 0 ∷ pos 2147483647 ∷ []) 0 (pos 2147483647 ∷ []) (negsuc 2147483647 ∷ [])
row29 = (refl, refl)

row30 : Steps (block Register ([]) (negsuc 2147483647 ∷ pos 0 ∷ pos 2147483647 ∷ []) ([]) (scalar 3 ∷ []) (scalar 3 ∷ []) 1 0) (negsuc 2147483647 ∷ pos 0 ∷ pos 2147483647 ∷ []) 1 (negsuc 2147483647 ∷ []) (pos 0 ∷ pos 2147483647 ∷ negsuc 2147483647 ∷ [])
row30 = (refl, refl)

row31 : Gives (block ModuloCount (pos 2147483647 ∷ []) (pos 0 ∷ []) ([]) ([]) (scalar 3 ∷ []) 1 0) (pos 2147483646 ∷ []) 1 ([]) (pos 2147483646 ∷ [])
row31 = (refl, refl)

row32 : Steps (block ModuloCount (pos 2147483647 ∷ []) (pos 0 ∷ []) ([]) ([]) (scalar 3 ∷ []) 1 0) (pos 2147483646 ∷ []) 1 ([]) (pos 0 ∷ [])
row32 = (refl, refl)

row33 : Gives (block GatedDelay ([]) (pos 0 ∷ []) ([]) (scalar 3 ∷ scalar 5 ∷ []) (scalar 3 ∷ []) 0 0) (pos 2147483647 ∷ []) 0 (negsuc 2147483647 ∷ pos 1 ∷ []) (pos 2147483647 ∷ [])
row33 = (refl, refl)

row34 : Gives (block GatedDelay ([]) (pos 0 ∷ []) ([]) (scalar 3 ∷ scalar 5 ∷ []) (scalar 3 ∷ []) 0 0) (pos 2147483647 ∷ []) 0 (negsuc 2147483647 ∷ pos 0 ∷ []) (pos 0 ∷ [])
row34 = (refl, refl)

row35 : Steps (block GatedDelay ([]) (pos 0 ∷ []) ([]) (scalar 3 ∷ scalar 5 ∷ []) (scalar 3 ∷ []) 1 0) (pos 2147483647 ∷ []) 1 (negsuc 2147483647 ∷ pos 0 ∷ []) (negsuc 2147483647 ∷ [])
row35 = (refl, refl)

row36 : Gives (block Sensor (pos 255 ∷ []) ([]) ([]) ([]) (scalar 3 ∷ []) 1 0) ([]) 1 (pos 2147483647 ∷ []) (pos 2147483647 ∷ [])
row36 = (refl, refl)

row37 : Delays (block EvtVarDly ([]) ([]) (negsuc 0 ∷ []) (scalar 3 ∷ []) ([]) 1 1) (negsuc 2147483647 ∷ []) (negsuc 0)
row37 = (refl, refl)

row38 : Delays (block EvtVarDly ([]) ([]) (negsuc 0 ∷ []) (scalar 3 ∷ []) ([]) 1 1) (pos 2147483647 ∷ []) (pos 2147483647)
row38 = (refl, refl)

row39 : Takes (block IfThEl ([]) ([]) ([]) (scalar 3 ∷ []) ([]) 0 2) (negsuc 2147483647 ∷ []) 2
row39 = (refl, refl)

row40 : Takes (block ESelect ([]) ([]) ([]) (scalar 3 ∷ []) ([]) 0 5) (negsuc 2147483647 ∷ []) 1
row40 = (refl, refl)

row41 : Takes (block IfThEl ([]) ([]) ([]) (scalar 3 ∷ []) ([]) 0 2) (pos 0 ∷ []) 2
row41 = (refl, refl)

row42 : Takes (block ESelect ([]) ([]) ([]) (scalar 3 ∷ []) ([]) 0 5) (pos 0 ∷ []) 1
row42 = (refl, refl)

row43 : Takes (block IfThEl ([]) ([]) ([]) (scalar 3 ∷ []) ([]) 0 2) (pos 2147483647 ∷ []) 1
row43 = (refl, refl)

row44 : Takes (block ESelect ([]) ([]) ([]) (scalar 3 ∷ []) ([]) 0 5) (pos 2147483647 ∷ []) 5
row44 = (refl, refl)

row45 : Gives (block LogicalOp (pos 0 ∷ pos 1 ∷ []) ([]) ([]) (scalar 4 ∷ scalar 4 ∷ []) (scalar 4 ∷ []) 0 0) ([]) 0 (negsuc 32767 ∷ pos 32767 ∷ []) (pos 0 ∷ [])
row45 = (refl, refl)

row46 : Gives (block LogicalOp (pos 1 ∷ pos 0 ∷ []) ([]) ([]) (scalar 4 ∷ scalar 4 ∷ []) (scalar 4 ∷ []) 0 0) ([]) 0 (negsuc 32767 ∷ pos 32767 ∷ []) (pos 1 ∷ [])
row46 = (refl, refl)

row47 : Gives (block LogicalOp (pos 2 ∷ pos 1 ∷ []) ([]) ([]) (scalar 4 ∷ scalar 4 ∷ []) (scalar 4 ∷ []) 0 0) ([]) 0 (negsuc 32767 ∷ pos 32767 ∷ []) (negsuc 0 ∷ [])
row47 = (refl, refl)

row48 : Gives (block RelationalOp (pos 2 ∷ []) ([]) ([]) (scalar 4 ∷ scalar 4 ∷ []) (scalar 3 ∷ []) 0 0) ([]) 0 (negsuc 32767 ∷ pos 32767 ∷ []) (pos 1 ∷ [])
row48 = (refl, refl)

row49 : Gives (block LogicalOp (pos 3 ∷ pos 0 ∷ []) ([]) ([]) (scalar 4 ∷ scalar 4 ∷ []) (scalar 4 ∷ []) 0 0) ([]) 0 (negsuc 32767 ∷ pos 32767 ∷ []) (pos 0 ∷ [])
row49 = (refl, refl)

row50 : Gives (block LogicalOp (pos 4 ∷ pos 1 ∷ []) ([]) ([]) (scalar 4 ∷ scalar 4 ∷ []) (scalar 4 ∷ []) 0 0) ([]) 0 (negsuc 32767 ∷ pos 32767 ∷ []) (negsuc 0 ∷ [])
row50 = (refl, refl)

row51 : Gives (block LogicalOp (pos 5 ∷ pos 0 ∷ []) ([]) ([]) (scalar 4 ∷ []) (scalar 4 ∷ []) 0 0) ([]) 0 (negsuc 32767 ∷ []) (pos 0 ∷ [])
row51 = (refl, refl)

row52 : Gives (block RelationalOp (pos 5 ∷ []) ([]) ([]) (scalar 4 ∷ scalar 4 ∷ []) (scalar 3 ∷ []) 0 0) ([]) 0 (pos 32767 ∷ pos 32767 ∷ []) (pos 1 ∷ [])
row52 = (refl, refl)

row53 : Gives (block Shift (negsuc 14 ∷ pos 0 ∷ []) ([]) ([]) (scalar 4 ∷ []) (scalar 4 ∷ []) 0 0) ([]) 0 (negsuc 32766 ∷ []) (negsuc 0 ∷ [])
row53 = (refl, refl)

row54 : Gives (block Shift (negsuc 14 ∷ pos 1 ∷ []) ([]) ([]) (scalar 4 ∷ []) (scalar 4 ∷ []) 0 0) ([]) 0 (pos 32766 ∷ []) (negsuc 3 ∷ [])
row54 = (refl, refl)

row55 : Gives (block Shift (negsuc 0 ∷ pos 0 ∷ []) ([]) ([]) (scalar 4 ∷ []) (scalar 4 ∷ []) 0 0) ([]) 0 (negsuc 32766 ∷ []) (negsuc 16383 ∷ [])
row55 = (refl, refl)

row56 : Gives (block Shift (negsuc 0 ∷ pos 1 ∷ []) ([]) ([]) (scalar 4 ∷ []) (scalar 4 ∷ []) 0 0) ([]) 0 (pos 32766 ∷ []) (pos 16383 ∷ [])
row56 = (refl, refl)

row57 : Gives (block Shift (pos 1 ∷ pos 0 ∷ []) ([]) ([]) (scalar 4 ∷ []) (scalar 4 ∷ []) 0 0) ([]) 0 (negsuc 32766 ∷ []) (pos 2 ∷ [])
row57 = (refl, refl)

row58 : Gives (block Shift (pos 1 ∷ pos 1 ∷ []) ([]) ([]) (scalar 4 ∷ []) (scalar 4 ∷ []) 0 0) ([]) 0 (pos 32766 ∷ []) (negsuc 3 ∷ [])
row58 = (refl, refl)

row59 : Gives (block BitSet (pos 15 ∷ []) ([]) ([]) (scalar 4 ∷ []) (scalar 4 ∷ []) 0 0) ([]) 0 (pos 0 ∷ []) (negsuc 32767 ∷ [])
row59 = (refl, refl)

row60 : Gives (block BitClear (pos 0 ∷ []) ([]) ([]) (scalar 4 ∷ []) (scalar 4 ∷ []) 0 0) ([]) 0 (pos 32767 ∷ []) (pos 32766 ∷ [])
row60 = (refl, refl)

row61 : Gives (block BitClear (pos 15 ∷ []) ([]) ([]) (scalar 4 ∷ []) (scalar 4 ∷ []) 0 0) ([]) 0 (negsuc 32767 ∷ []) (pos 0 ∷ [])
row61 = (refl, refl)

row62 : Gives (block ExtractBits (pos 1 ∷ pos 15 ∷ []) ([]) ([]) (scalar 4 ∷ []) (scalar 4 ∷ []) 0 0) ([]) 0 (negsuc 32762 ∷ []) (pos 16386 ∷ [])
row62 = (refl, refl)

row63 : Gives (block ExtractBits (pos 0 ∷ pos 15 ∷ []) ([]) ([]) (scalar 4 ∷ []) (scalar 4 ∷ []) 0 0) ([]) 0 (pos 32767 ∷ []) (pos 32767 ∷ [])
row63 = (refl, refl)

row64 : Gives (block Switch2 (pos 0 ∷ pos 0 ∷ []) ([]) ([]) (scalar 4 ∷ scalar 3 ∷ scalar 4 ∷ []) (scalar 4 ∷ []) 0 0) ([]) 0 (negsuc 32767 ∷ pos 0 ∷ pos 32767 ∷ []) (negsuc 32767 ∷ [])
row64 = (refl, refl)

row65 : Gives (block Switch2 (pos 1 ∷ pos 0 ∷ []) ([]) ([]) (scalar 4 ∷ scalar 3 ∷ scalar 4 ∷ []) (scalar 4 ∷ []) 0 0) ([]) 0 (negsuc 32767 ∷ negsuc 32767 ∷ pos 32767 ∷ []) (pos 32767 ∷ [])
row65 = (refl, refl)

row66 : Gives (block Switch2 (pos 1 ∷ pos 0 ∷ []) ([]) ([]) (scalar 4 ∷ scalar 3 ∷ scalar 4 ∷ []) (scalar 4 ∷ []) 0 0) ([]) 0 (negsuc 32767 ∷ pos 32767 ∷ pos 32767 ∷ []) (negsuc 32767 ∷ [])
row66 = (refl, refl)

row67 : Gives (block Switch2 (pos 2 ∷ pos 0 ∷ []) ([]) ([]) (scalar 4 ∷ scalar 3 ∷ scalar 4 ∷ []) (scalar 4 ∷ []) 0 0) ([]) 0 (negsuc 32767 ∷ pos 0 ∷ pos 32767 ∷ []) (pos 32767 ∷ [])
row67 = (refl, refl)

row68 : Gives (block Select ([]) ([]) ([]) (scalar 4 ∷ scalar 4 ∷ scalar 4 ∷ []) (scalar 4 ∷ []) 3 0) ([]) 6 (negsuc 32767 ∷ pos 0 ∷ pos 32767 ∷ []) (pos 0 ∷ [])
row68 = (refl, refl)

row69 : Gives (block Dollar ([]) (negsuc 32767 ∷ []) ([]) (scalar 4 ∷ []) (scalar 4 ∷ []) 0 0) (negsuc 32767 ∷ []) 0 (pos 32767 ∷ []) (negsuc 32767 ∷ [])
row69 = (refl, refl)

row70 : Steps (block Dollar ([]) (negsuc 32767 ∷ []) ([]) (scalar 4 ∷ []) (scalar 4 ∷ []) 1 0) (negsuc 32767 ∷ []) 1 (pos 32767 ∷ []) (pos 32767 ∷ [])
row70 = (refl, refl)

row71 : Gives (block SampHold ([]) ([]) ([]) (scalar 4 ∷ []) (scalar 4 ∷ []) 0 0) ([]) 0 (pos 32767 ∷ []) (pos 32767 ∷ [])
row71 = (refl, refl)

row72 : Gives (block Register ([]) (negsuc 32767 ∷ pos 0 ∷ pos 32767 ∷ []) ([]) (scalar 4 ∷ []) (scalar 4 ∷ []) 0 0) (negsuc 32767 ∷ pos 0 ∷ pos 32767 ∷ []) 0 (pos 32767 ∷ []) (negsuc 32767 ∷ [])
row72 = (refl, refl)

row73 : Steps (block Register ([]) (negsuc 32767 ∷ pos 0 ∷ pos 32767 ∷ []) ([]) (scalar 4 ∷ []) (scalar 4 ∷ []) 1 0) (negsuc 32767 ∷ pos 0 ∷ pos 32767 ∷ []) 1 (negsuc 32767 ∷ []) (pos 0 ∷ pos 32767 ∷ negsuc 32767 ∷ [])
row73 = (refl, refl)

row74 : Gives (block ModuloCount (pos 32768 ∷ []) (pos 0 ∷ []) ([]) ([]) (scalar 4 ∷ []) 1 0) (pos 32767 ∷ []) 1 ([]) (pos 32767 ∷ [])
row74 = (refl, refl)

row75 : Steps (block ModuloCount (pos 32768 ∷ []) (pos 0 ∷ []) ([]) ([]) (scalar 4 ∷ []) 1 0) (pos 32767 ∷ []) 1 ([]) (pos 0 ∷ [])
row75 = (refl, refl)

row76 : Gives (block GatedDelay ([]) (pos 0 ∷ []) ([]) (scalar 4 ∷ scalar 5 ∷ []) (scalar 4 ∷ []) 0 0) (pos 32767 ∷ []) 0 (negsuc 32767 ∷ pos 1 ∷ []) (pos 32767 ∷ [])
row76 = (refl, refl)

row77 : Gives (block GatedDelay ([]) (pos 0 ∷ []) ([]) (scalar 4 ∷ scalar 5 ∷ []) (scalar 4 ∷ []) 0 0) (pos 32767 ∷ []) 0 (negsuc 32767 ∷ pos 0 ∷ []) (pos 0 ∷ [])
row77 = (refl, refl)

row78 : Steps (block GatedDelay ([]) (pos 0 ∷ []) ([]) (scalar 4 ∷ scalar 5 ∷ []) (scalar 4 ∷ []) 1 0) (pos 32767 ∷ []) 1 (negsuc 32767 ∷ pos 0 ∷ []) (negsuc 32767 ∷ [])
row78 = (refl, refl)

row79 : Gives (block Sensor (pos 255 ∷ []) ([]) ([]) ([]) (scalar 4 ∷ []) 1 0) ([]) 1 (pos 32767 ∷ []) (pos 32767 ∷ [])
row79 = (refl, refl)

row80 : Delays (block EvtVarDly ([]) ([]) (negsuc 0 ∷ []) (scalar 4 ∷ []) ([]) 1 1) (negsuc 32767 ∷ []) (negsuc 0)
row80 = (refl, refl)

row81 : Delays (block EvtVarDly ([]) ([]) (negsuc 0 ∷ []) (scalar 4 ∷ []) ([]) 1 1) (pos 32767 ∷ []) (pos 32767)
row81 = (refl, refl)

row82 : Takes (block IfThEl ([]) ([]) ([]) (scalar 4 ∷ []) ([]) 0 2) (negsuc 32767 ∷ []) 2
row82 = (refl, refl)

row83 : Takes (block ESelect ([]) ([]) ([]) (scalar 4 ∷ []) ([]) 0 5) (negsuc 32767 ∷ []) 1
row83 = (refl, refl)

row84 : Takes (block IfThEl ([]) ([]) ([]) (scalar 4 ∷ []) ([]) 0 2) (pos 0 ∷ []) 2
row84 = (refl, refl)

row85 : Takes (block ESelect ([]) ([]) ([]) (scalar 4 ∷ []) ([]) 0 5) (pos 0 ∷ []) 1
row85 = (refl, refl)

row86 : Takes (block IfThEl ([]) ([]) ([]) (scalar 4 ∷ []) ([]) 0 2) (pos 32767 ∷ []) 1
row86 = (refl, refl)

row87 : Takes (block ESelect ([]) ([]) ([]) (scalar 4 ∷ []) ([]) 0 5) (pos 32767 ∷ []) 5
row87 = (refl, refl)

row88 : Gives (block LogicalOp (pos 0 ∷ pos 0 ∷ []) ([]) ([]) (scalar 5 ∷ scalar 5 ∷ []) (scalar 5 ∷ []) 0 0) ([]) 0 (negsuc 127 ∷ pos 127 ∷ []) (pos 1 ∷ [])
row88 = (refl, refl)

row89 : Gives (block LogicalOp (pos 1 ∷ pos 1 ∷ []) ([]) ([]) (scalar 5 ∷ scalar 5 ∷ []) (scalar 5 ∷ []) 0 0) ([]) 0 (negsuc 127 ∷ pos 127 ∷ []) (negsuc 0 ∷ [])
row89 = (refl, refl)

row90 : Gives (block RelationalOp (pos 1 ∷ []) ([]) ([]) (scalar 5 ∷ scalar 5 ∷ []) (scalar 3 ∷ []) 0 0) ([]) 0 (negsuc 127 ∷ pos 127 ∷ []) (pos 1 ∷ [])
row90 = (refl, refl)

row91 : Gives (block LogicalOp (pos 2 ∷ pos 0 ∷ []) ([]) ([]) (scalar 5 ∷ scalar 5 ∷ []) (scalar 5 ∷ []) 0 0) ([]) 0 (negsuc 127 ∷ pos 127 ∷ []) (pos 0 ∷ [])
row91 = (refl, refl)

row92 : Gives (block LogicalOp (pos 3 ∷ pos 1 ∷ []) ([]) ([]) (scalar 5 ∷ scalar 5 ∷ []) (scalar 5 ∷ []) 0 0) ([]) 0 (negsuc 127 ∷ pos 127 ∷ []) (pos 0 ∷ [])
row92 = (refl, refl)

row93 : Gives (block LogicalOp (pos 4 ∷ pos 0 ∷ []) ([]) ([]) (scalar 5 ∷ scalar 5 ∷ []) (scalar 5 ∷ []) 0 0) ([]) 0 (negsuc 127 ∷ pos 127 ∷ []) (pos 0 ∷ [])
row93 = (refl, refl)

row94 : Gives (block RelationalOp (pos 4 ∷ []) ([]) ([]) (scalar 5 ∷ scalar 5 ∷ []) (scalar 3 ∷ []) 0 0) ([]) 0 (pos 127 ∷ pos 127 ∷ []) (pos 0 ∷ [])
row94 = (refl, refl)

row95 : Gives (block LogicalOp (pos 5 ∷ pos 1 ∷ []) ([]) ([]) (scalar 5 ∷ []) (scalar 5 ∷ []) 0 0) ([]) 0 (negsuc 127 ∷ []) (pos 127 ∷ [])
row95 = (refl, refl)

row96 : Gives (block Shift (negsuc 6 ∷ pos 0 ∷ []) ([]) ([]) (scalar 5 ∷ []) (scalar 5 ∷ []) 0 0) ([]) 0 (negsuc 126 ∷ []) (negsuc 0 ∷ [])
row96 = (refl, refl)

row97 : Gives (block Shift (negsuc 6 ∷ pos 1 ∷ []) ([]) ([]) (scalar 5 ∷ []) (scalar 5 ∷ []) 0 0) ([]) 0 (pos 126 ∷ []) (negsuc 3 ∷ [])
row97 = (refl, refl)

row98 : Gives (block Shift (negsuc 0 ∷ pos 0 ∷ []) ([]) ([]) (scalar 5 ∷ []) (scalar 5 ∷ []) 0 0) ([]) 0 (negsuc 126 ∷ []) (negsuc 63 ∷ [])
row98 = (refl, refl)

row99 : Gives (block Shift (negsuc 0 ∷ pos 1 ∷ []) ([]) ([]) (scalar 5 ∷ []) (scalar 5 ∷ []) 0 0) ([]) 0 (pos 126 ∷ []) (pos 63 ∷ [])
row99 = (refl, refl)

row100 : Gives (block Shift (pos 1 ∷ pos 0 ∷ []) ([]) ([]) (scalar 5 ∷ []) (scalar 5 ∷ []) 0 0) ([]) 0 (negsuc 126 ∷ []) (pos 2 ∷ [])
row100 = (refl, refl)

row101 : Gives (block Shift (pos 1 ∷ pos 1 ∷ []) ([]) ([]) (scalar 5 ∷ []) (scalar 5 ∷ []) 0 0) ([]) 0 (pos 126 ∷ []) (negsuc 3 ∷ [])
row101 = (refl, refl)

row102 : Gives (block BitSet (pos 7 ∷ []) ([]) ([]) (scalar 5 ∷ []) (scalar 5 ∷ []) 0 0) ([]) 0 (pos 0 ∷ []) (negsuc 127 ∷ [])
row102 = (refl, refl)

row103 : Gives (block BitClear (pos 0 ∷ []) ([]) ([]) (scalar 5 ∷ []) (scalar 5 ∷ []) 0 0) ([]) 0 (pos 127 ∷ []) (pos 126 ∷ [])
row103 = (refl, refl)

row104 : Gives (block BitClear (pos 7 ∷ []) ([]) ([]) (scalar 5 ∷ []) (scalar 5 ∷ []) 0 0) ([]) 0 (negsuc 127 ∷ []) (pos 0 ∷ [])
row104 = (refl, refl)

row105 : Gives (block ExtractBits (pos 1 ∷ pos 7 ∷ []) ([]) ([]) (scalar 5 ∷ []) (scalar 5 ∷ []) 0 0) ([]) 0 (negsuc 122 ∷ []) (pos 66 ∷ [])
row105 = (refl, refl)

row106 : Gives (block ExtractBits (pos 0 ∷ pos 7 ∷ []) ([]) ([]) (scalar 5 ∷ []) (scalar 5 ∷ []) 0 0) ([]) 0 (pos 127 ∷ []) (pos 127 ∷ [])
row106 = (refl, refl)

row107 : Gives (block Switch2 (pos 0 ∷ pos 0 ∷ []) ([]) ([]) (scalar 5 ∷ scalar 3 ∷ scalar 5 ∷ []) (scalar 5 ∷ []) 0 0) ([]) 0 (negsuc 127 ∷ negsuc 127 ∷ pos 127 ∷ []) (pos 127 ∷ [])
row107 = (refl, refl)

row108 : Gives (block Switch2 (pos 0 ∷ pos 0 ∷ []) ([]) ([]) (scalar 5 ∷ scalar 3 ∷ scalar 5 ∷ []) (scalar 5 ∷ []) 0 0) ([]) 0 (negsuc 127 ∷ pos 127 ∷ pos 127 ∷ []) (negsuc 127 ∷ [])
row108 = (refl, refl)

row109 : Gives (block Switch2 (pos 1 ∷ pos 0 ∷ []) ([]) ([]) (scalar 5 ∷ scalar 3 ∷ scalar 5 ∷ []) (scalar 5 ∷ []) 0 0) ([]) 0 (negsuc 127 ∷ pos 0 ∷ pos 127 ∷ []) (pos 127 ∷ [])
row109 = (refl, refl)

row110 : Gives (block Switch2 (pos 2 ∷ pos 0 ∷ []) ([]) ([]) (scalar 5 ∷ scalar 3 ∷ scalar 5 ∷ []) (scalar 5 ∷ []) 0 0) ([]) 0 (negsuc 127 ∷ negsuc 127 ∷ pos 127 ∷ []) (negsuc 127 ∷ [])
row110 = (refl, refl)

row111 : Gives (block Switch2 (pos 2 ∷ pos 0 ∷ []) ([]) ([]) (scalar 5 ∷ scalar 3 ∷ scalar 5 ∷ []) (scalar 5 ∷ []) 0 0) ([]) 0 (negsuc 127 ∷ pos 127 ∷ pos 127 ∷ []) (negsuc 127 ∷ [])
row111 = (refl, refl)

row112 : Gives (block Select ([]) ([]) ([]) (scalar 5 ∷ scalar 5 ∷ scalar 5 ∷ []) (scalar 5 ∷ []) 3 0) ([]) 4 (negsuc 127 ∷ pos 0 ∷ pos 127 ∷ []) (pos 127 ∷ [])
row112 = (refl, refl)

row113 : Gives (block Dollar ([]) (negsuc 127 ∷ []) ([]) (scalar 5 ∷ []) (scalar 5 ∷ []) 0 0) (negsuc 127 ∷ []) 0 (pos 127 ∷ []) (negsuc 127 ∷ [])
row113 = (refl, refl)

row114 : Steps (block Dollar ([]) (negsuc 127 ∷ []) ([]) (scalar 5 ∷ []) (scalar 5 ∷ []) 1 0) (negsuc 127 ∷ []) 1 (pos 127 ∷ []) (pos 127 ∷ [])
row114 = (refl, refl)

row115 : Gives (block SampHold ([]) ([]) ([]) (scalar 5 ∷ []) (scalar 5 ∷ []) 0 0) ([]) 0 (pos 127 ∷ []) (pos 127 ∷ [])
row115 = (refl, refl)

row116 : Gives (block Register ([]) (negsuc 127 ∷ pos 0 ∷ pos 127 ∷ []) ([]) (scalar 5 ∷ []) (scalar 5 ∷ []) 0 0) (negsuc 127 ∷ pos 0 ∷ pos 127 ∷ []) 0 (pos 127 ∷ []) (negsuc 127 ∷ [])
row116 = (refl, refl)

row117 : Steps (block Register ([]) (negsuc 127 ∷ pos 0 ∷ pos 127 ∷ []) ([]) (scalar 5 ∷ []) (scalar 5 ∷ []) 1 0) (negsuc 127 ∷ pos 0 ∷ pos 127 ∷ []) 1 (negsuc 127 ∷ []) (pos 0 ∷ pos 127 ∷ negsuc 127 ∷ [])
row117 = (refl, refl)

row118 : Gives (block ModuloCount (pos 128 ∷ []) (pos 0 ∷ []) ([]) ([]) (scalar 5 ∷ []) 1 0) (pos 127 ∷ []) 1 ([]) (pos 127 ∷ [])
row118 = (refl, refl)

row119 : Steps (block ModuloCount (pos 128 ∷ []) (pos 0 ∷ []) ([]) ([]) (scalar 5 ∷ []) 1 0) (pos 127 ∷ []) 1 ([]) (pos 0 ∷ [])
row119 = (refl, refl)

row120 : Gives (block GatedDelay ([]) (pos 0 ∷ []) ([]) (scalar 5 ∷ scalar 5 ∷ []) (scalar 5 ∷ []) 0 0) (pos 127 ∷ []) 0 (negsuc 127 ∷ pos 1 ∷ []) (pos 127 ∷ [])
row120 = (refl, refl)

row121 : Gives (block GatedDelay ([]) (pos 0 ∷ []) ([]) (scalar 5 ∷ scalar 5 ∷ []) (scalar 5 ∷ []) 0 0) (pos 127 ∷ []) 0 (negsuc 127 ∷ pos 0 ∷ []) (pos 0 ∷ [])
row121 = (refl, refl)

row122 : Steps (block GatedDelay ([]) (pos 0 ∷ []) ([]) (scalar 5 ∷ scalar 5 ∷ []) (scalar 5 ∷ []) 1 0) (pos 127 ∷ []) 1 (negsuc 127 ∷ pos 0 ∷ []) (negsuc 127 ∷ [])
row122 = (refl, refl)

row123 : Gives (block Sensor (pos 255 ∷ []) ([]) ([]) ([]) (scalar 5 ∷ []) 1 0) ([]) 1 (pos 127 ∷ []) (pos 127 ∷ [])
row123 = (refl, refl)

row124 : Delays (block EvtVarDly ([]) ([]) (negsuc 0 ∷ []) (scalar 5 ∷ []) ([]) 1 1) (negsuc 127 ∷ []) (negsuc 0)
row124 = (refl, refl)

row125 : Delays (block EvtVarDly ([]) ([]) (negsuc 0 ∷ []) (scalar 5 ∷ []) ([]) 1 1) (pos 127 ∷ []) (pos 127)
row125 = (refl, refl)

row126 : Takes (block IfThEl ([]) ([]) ([]) (scalar 5 ∷ []) ([]) 0 2) (negsuc 127 ∷ []) 2
row126 = (refl, refl)

row127 : Takes (block ESelect ([]) ([]) ([]) (scalar 5 ∷ []) ([]) 0 5) (negsuc 127 ∷ []) 1
row127 = (refl, refl)

row128 : Takes (block IfThEl ([]) ([]) ([]) (scalar 5 ∷ []) ([]) 0 2) (pos 0 ∷ []) 2
row128 = (refl, refl)

row129 : Takes (block ESelect ([]) ([]) ([]) (scalar 5 ∷ []) ([]) 0 5) (pos 0 ∷ []) 1
row129 = (refl, refl)

row130 : Takes (block IfThEl ([]) ([]) ([]) (scalar 5 ∷ []) ([]) 0 2) (pos 127 ∷ []) 1
row130 = (refl, refl)

row131 : Takes (block ESelect ([]) ([]) ([]) (scalar 5 ∷ []) ([]) 0 5) (pos 127 ∷ []) 5
row131 = (refl, refl)

row132 : Gives (block LogicalOp (pos 0 ∷ pos 1 ∷ []) ([]) ([]) (scalar 6 ∷ scalar 6 ∷ []) (scalar 6 ∷ []) 0 0) ([]) 0 (pos 0 ∷ pos 4294967295 ∷ []) (pos 0 ∷ [])
row132 = (refl, refl)

row133 : Gives (block RelationalOp (pos 0 ∷ []) ([]) ([]) (scalar 6 ∷ scalar 6 ∷ []) (scalar 3 ∷ []) 0 0) ([]) 0 (pos 0 ∷ pos 4294967295 ∷ []) (pos 0 ∷ [])
row133 = (refl, refl)

row134 : Gives (block LogicalOp (pos 1 ∷ pos 0 ∷ []) ([]) ([]) (scalar 6 ∷ scalar 6 ∷ []) (scalar 6 ∷ []) 0 0) ([]) 0 (pos 0 ∷ pos 4294967295 ∷ []) (pos 1 ∷ [])
row134 = (refl, refl)

row135 : Gives (block LogicalOp (pos 2 ∷ pos 1 ∷ []) ([]) ([]) (scalar 6 ∷ scalar 6 ∷ []) (scalar 6 ∷ []) 0 0) ([]) 0 (pos 0 ∷ pos 4294967295 ∷ []) (pos 4294967295 ∷ [])
row135 = (refl, refl)

row136 : Gives (block LogicalOp (pos 3 ∷ pos 0 ∷ []) ([]) ([]) (scalar 6 ∷ scalar 6 ∷ []) (scalar 6 ∷ []) 0 0) ([]) 0 (pos 0 ∷ pos 4294967295 ∷ []) (pos 0 ∷ [])
row136 = (refl, refl)

row137 : Gives (block RelationalOp (pos 3 ∷ []) ([]) ([]) (scalar 6 ∷ scalar 6 ∷ []) (scalar 3 ∷ []) 0 0) ([]) 0 (pos 4294967295 ∷ pos 4294967295 ∷ []) (pos 1 ∷ [])
row137 = (refl, refl)

row138 : Gives (block LogicalOp (pos 4 ∷ pos 1 ∷ []) ([]) ([]) (scalar 6 ∷ scalar 6 ∷ []) (scalar 6 ∷ []) 0 0) ([]) 0 (pos 0 ∷ pos 4294967295 ∷ []) (pos 4294967295 ∷ [])
row138 = (refl, refl)

row139 : Gives (block LogicalOp (pos 5 ∷ pos 0 ∷ []) ([]) ([]) (scalar 6 ∷ []) (scalar 6 ∷ []) 0 0) ([]) 0 (pos 0 ∷ []) (pos 1 ∷ [])
row139 = (refl, refl)

row140 : Gives (block Shift (negsuc 30 ∷ pos 0 ∷ []) ([]) ([]) (scalar 6 ∷ []) (scalar 6 ∷ []) 0 0) ([]) 0 (pos 1 ∷ []) (pos 0 ∷ [])
row140 = (refl, refl)

row141 : Gives (block Shift (negsuc 30 ∷ pos 1 ∷ []) ([]) ([]) (scalar 6 ∷ []) (scalar 6 ∷ []) 0 0) ([]) 0 (pos 4294967294 ∷ []) (pos 4294967293 ∷ [])
row141 = (refl, refl)

row142 : Gives (block Shift (negsuc 0 ∷ pos 0 ∷ []) ([]) ([]) (scalar 6 ∷ []) (scalar 6 ∷ []) 0 0) ([]) 0 (pos 1 ∷ []) (pos 0 ∷ [])
row142 = (refl, refl)

row143 : Gives (block Shift (negsuc 0 ∷ pos 1 ∷ []) ([]) ([]) (scalar 6 ∷ []) (scalar 6 ∷ []) 0 0) ([]) 0 (pos 4294967294 ∷ []) (pos 2147483647 ∷ [])
row143 = (refl, refl)

row144 : Gives (block Shift (pos 1 ∷ pos 0 ∷ []) ([]) ([]) (scalar 6 ∷ []) (scalar 6 ∷ []) 0 0) ([]) 0 (pos 1 ∷ []) (pos 2 ∷ [])
row144 = (refl, refl)

row145 : Gives (block Shift (pos 1 ∷ pos 1 ∷ []) ([]) ([]) (scalar 6 ∷ []) (scalar 6 ∷ []) 0 0) ([]) 0 (pos 4294967294 ∷ []) (pos 4294967293 ∷ [])
row145 = (refl, refl)

row146 : Gives (block BitSet (pos 31 ∷ []) ([]) ([]) (scalar 6 ∷ []) (scalar 6 ∷ []) 0 0) ([]) 0 (pos 0 ∷ []) (pos 2147483648 ∷ [])
row146 = (refl, refl)

row147 : Gives (block BitClear (pos 0 ∷ []) ([]) ([]) (scalar 6 ∷ []) (scalar 6 ∷ []) 0 0) ([]) 0 (pos 4294967295 ∷ []) (pos 4294967294 ∷ [])
row147 = (refl, refl)

row148 : Gives (block BitClear (pos 31 ∷ []) ([]) ([]) (scalar 6 ∷ []) (scalar 6 ∷ []) 0 0) ([]) 0 (pos 0 ∷ []) (pos 0 ∷ [])
row148 = (refl, refl)

row149 : Gives (block ExtractBits (pos 1 ∷ pos 31 ∷ []) ([]) ([]) (scalar 6 ∷ []) (scalar 6 ∷ []) 0 0) ([]) 0 (pos 5 ∷ []) (pos 2 ∷ [])
row149 = (refl, refl)

row150 : Gives (block ExtractBits (pos 0 ∷ pos 31 ∷ []) ([]) ([]) (scalar 6 ∷ []) (scalar 6 ∷ []) 0 0) ([]) 0 (pos 4294967295 ∷ []) (pos 4294967295 ∷ [])
row150 = (refl, refl)

row151 : Gives (block Switch2 (pos 0 ∷ pos 0 ∷ []) ([]) ([]) (scalar 6 ∷ scalar 3 ∷ scalar 6 ∷ []) (scalar 6 ∷ []) 0 0) ([]) 0 (pos 0 ∷ pos 0 ∷ pos 4294967295 ∷ []) (pos 0 ∷ [])
row151 = (refl, refl)

row152 : Gives (block Switch2 (pos 1 ∷ pos 0 ∷ []) ([]) ([]) (scalar 6 ∷ scalar 3 ∷ scalar 6 ∷ []) (scalar 6 ∷ []) 0 0) ([]) 0 (pos 0 ∷ pos 0 ∷ pos 4294967295 ∷ []) (pos 4294967295 ∷ [])
row152 = (refl, refl)

row153 : Gives (block Switch2 (pos 1 ∷ pos 0 ∷ []) ([]) ([]) (scalar 6 ∷ scalar 3 ∷ scalar 6 ∷ []) (scalar 6 ∷ []) 0 0) ([]) 0 (pos 0 ∷ pos 2147483647 ∷ pos 4294967295 ∷ []) (pos 0 ∷ [])
row153 = (refl, refl)

row154 : Gives (block Switch2 (pos 2 ∷ pos 0 ∷ []) ([]) ([]) (scalar 6 ∷ scalar 3 ∷ scalar 6 ∷ []) (scalar 6 ∷ []) 0 0) ([]) 0 (pos 0 ∷ pos 0 ∷ pos 4294967295 ∷ []) (pos 4294967295 ∷ [])
row154 = (refl, refl)

row155 : Gives (block Select ([]) ([]) ([]) (scalar 6 ∷ scalar 6 ∷ scalar 6 ∷ []) (scalar 6 ∷ []) 3 0) ([]) 5 (pos 0 ∷ pos 0 ∷ pos 4294967295 ∷ []) (pos 0 ∷ [])
row155 = (refl, refl)

row156 : Gives (block Dollar ([]) (pos 0 ∷ []) ([]) (scalar 6 ∷ []) (scalar 6 ∷ []) 0 0) (pos 0 ∷ []) 0 (pos 4294967295 ∷ []) (pos 0 ∷ [])
row156 = (refl, refl)

row157 : Steps (block Dollar ([]) (pos 0 ∷ []) ([]) (scalar 6 ∷ []) (scalar 6 ∷ []) 1 0) (pos 0 ∷ []) 1 (pos 4294967295 ∷ []) (pos 4294967295 ∷ [])
row157 = (refl, refl)

row158 : Gives (block SampHold ([]) ([]) ([]) (scalar 6 ∷ []) (scalar 6 ∷ []) 0 0) ([]) 0 (pos 4294967295 ∷ []) (pos 4294967295 ∷ [])
row158 = (refl, refl)

row159 : Gives (block Register ([]) (pos 0 ∷ pos 0 ∷ pos 4294967295 ∷ []) ([]) (scalar 6 ∷ []) (scalar 6 ∷ []) 0 0) (pos 0 ∷ pos 0 ∷ pos 4294967295 ∷ []) 0 (pos 4294967295 ∷ []) (pos 0 ∷ [])
row159 = (refl, refl)

row160 : Steps (block Register ([]) (pos 0 ∷ pos 0 ∷ pos 4294967295 ∷ []) ([]) (scalar 6 ∷ []) (scalar 6 ∷ []) 1 0) (pos 0 ∷ pos 0 ∷ pos 4294967295 ∷ []) 1 (pos 0 ∷ []) (pos 0 ∷ pos 4294967295 ∷ pos 0 ∷ [])
row160 = (refl, refl)

row161 : Gives (block ModuloCount (pos 2147483647 ∷ []) (pos 0 ∷ []) ([]) ([]) (scalar 6 ∷ []) 1 0) (pos 2147483646 ∷ []) 1 ([]) (pos 2147483646 ∷ [])
row161 = (refl, refl)

row162 : Steps (block ModuloCount (pos 2147483647 ∷ []) (pos 0 ∷ []) ([]) ([]) (scalar 6 ∷ []) 1 0) (pos 2147483646 ∷ []) 1 ([]) (pos 0 ∷ [])
row162 = (refl, refl)

row163 : Gives (block GatedDelay ([]) (pos 0 ∷ []) ([]) (scalar 6 ∷ scalar 5 ∷ []) (scalar 6 ∷ []) 0 0) (pos 4294967295 ∷ []) 0 (pos 0 ∷ pos 1 ∷ []) (pos 4294967295 ∷ [])
row163 = (refl, refl)

row164 : Gives (block GatedDelay ([]) (pos 0 ∷ []) ([]) (scalar 6 ∷ scalar 5 ∷ []) (scalar 6 ∷ []) 0 0) (pos 4294967295 ∷ []) 0 (pos 0 ∷ pos 0 ∷ []) (pos 0 ∷ [])
row164 = (refl, refl)

row165 : Steps (block GatedDelay ([]) (pos 0 ∷ []) ([]) (scalar 6 ∷ scalar 5 ∷ []) (scalar 6 ∷ []) 1 0) (pos 4294967295 ∷ []) 1 (pos 0 ∷ pos 0 ∷ []) (pos 0 ∷ [])
row165 = (refl, refl)

row166 : Gives (block Sensor (pos 255 ∷ []) ([]) ([]) ([]) (scalar 6 ∷ []) 1 0) ([]) 1 (pos 4294967295 ∷ []) (pos 4294967295 ∷ [])
row166 = (refl, refl)

row167 : Delays (block EvtVarDly ([]) ([]) (negsuc 0 ∷ []) (scalar 6 ∷ []) ([]) 1 1) (pos 0 ∷ []) (pos 0)
row167 = (refl, refl)

row168 : Delays (block EvtVarDly ([]) ([]) (negsuc 0 ∷ []) (scalar 6 ∷ []) ([]) 1 1) (pos 4294967295 ∷ []) (pos 2147483647)
row168 = (refl, refl)

row169 : Takes (block IfThEl ([]) ([]) ([]) (scalar 6 ∷ []) ([]) 0 2) (pos 0 ∷ []) 2
row169 = (refl, refl)

row170 : Takes (block ESelect ([]) ([]) ([]) (scalar 6 ∷ []) ([]) 0 5) (pos 0 ∷ []) 1
row170 = (refl, refl)

row171 : Takes (block IfThEl ([]) ([]) ([]) (scalar 6 ∷ []) ([]) 0 2) (pos 0 ∷ []) 2
row171 = (refl, refl)

row172 : Takes (block ESelect ([]) ([]) ([]) (scalar 6 ∷ []) ([]) 0 5) (pos 0 ∷ []) 1
row172 = (refl, refl)

row173 : Takes (block IfThEl ([]) ([]) ([]) (scalar 6 ∷ []) ([]) 0 2) (pos 4294967295 ∷ []) 1
row173 = (refl, refl)

row174 : Takes (block ESelect ([]) ([]) ([]) (scalar 6 ∷ []) ([]) 0 5) (pos 4294967295 ∷ []) 5
row174 = (refl, refl)

row175 : Gives (block LogicalOp (pos 0 ∷ pos 0 ∷ []) ([]) ([]) (scalar 7 ∷ scalar 7 ∷ []) (scalar 7 ∷ []) 0 0) ([]) 0 (pos 0 ∷ pos 65535 ∷ []) (pos 0 ∷ [])
row175 = (refl, refl)

row176 : Gives (block LogicalOp (pos 1 ∷ pos 1 ∷ []) ([]) ([]) (scalar 7 ∷ scalar 7 ∷ []) (scalar 7 ∷ []) 0 0) ([]) 0 (pos 0 ∷ pos 65535 ∷ []) (pos 65535 ∷ [])
row176 = (refl, refl)

row177 : Gives (block LogicalOp (pos 2 ∷ pos 0 ∷ []) ([]) ([]) (scalar 7 ∷ scalar 7 ∷ []) (scalar 7 ∷ []) 0 0) ([]) 0 (pos 0 ∷ pos 65535 ∷ []) (pos 1 ∷ [])
row177 = (refl, refl)

row178 : Gives (block RelationalOp (pos 2 ∷ []) ([]) ([]) (scalar 7 ∷ scalar 7 ∷ []) (scalar 3 ∷ []) 0 0) ([]) 0 (pos 0 ∷ pos 65535 ∷ []) (pos 1 ∷ [])
row178 = (refl, refl)

row179 : Gives (block LogicalOp (pos 3 ∷ pos 1 ∷ []) ([]) ([]) (scalar 7 ∷ scalar 7 ∷ []) (scalar 7 ∷ []) 0 0) ([]) 0 (pos 0 ∷ pos 65535 ∷ []) (pos 0 ∷ [])
row179 = (refl, refl)

row180 : Gives (block LogicalOp (pos 4 ∷ pos 0 ∷ []) ([]) ([]) (scalar 7 ∷ scalar 7 ∷ []) (scalar 7 ∷ []) 0 0) ([]) 0 (pos 0 ∷ pos 65535 ∷ []) (pos 1 ∷ [])
row180 = (refl, refl)

row181 : Gives (block LogicalOp (pos 5 ∷ pos 1 ∷ []) ([]) ([]) (scalar 7 ∷ []) (scalar 7 ∷ []) 0 0) ([]) 0 (pos 0 ∷ []) (pos 65535 ∷ [])
row181 = (refl, refl)

row182 : Gives (block RelationalOp (pos 5 ∷ []) ([]) ([]) (scalar 7 ∷ scalar 7 ∷ []) (scalar 3 ∷ []) 0 0) ([]) 0 (pos 65535 ∷ pos 65535 ∷ []) (pos 1 ∷ [])
row182 = (refl, refl)

row183 : Gives (block Shift (negsuc 14 ∷ pos 0 ∷ []) ([]) ([]) (scalar 7 ∷ []) (scalar 7 ∷ []) 0 0) ([]) 0 (pos 1 ∷ []) (pos 0 ∷ [])
row183 = (refl, refl)

row184 : Gives (block Shift (negsuc 14 ∷ pos 1 ∷ []) ([]) ([]) (scalar 7 ∷ []) (scalar 7 ∷ []) 0 0) ([]) 0 (pos 65534 ∷ []) (pos 65533 ∷ [])
row184 = (refl, refl)

row185 : Gives (block Shift (negsuc 0 ∷ pos 0 ∷ []) ([]) ([]) (scalar 7 ∷ []) (scalar 7 ∷ []) 0 0) ([]) 0 (pos 1 ∷ []) (pos 0 ∷ [])
row185 = (refl, refl)

row186 : Gives (block Shift (negsuc 0 ∷ pos 1 ∷ []) ([]) ([]) (scalar 7 ∷ []) (scalar 7 ∷ []) 0 0) ([]) 0 (pos 65534 ∷ []) (pos 32767 ∷ [])
row186 = (refl, refl)

row187 : Gives (block Shift (pos 1 ∷ pos 0 ∷ []) ([]) ([]) (scalar 7 ∷ []) (scalar 7 ∷ []) 0 0) ([]) 0 (pos 1 ∷ []) (pos 2 ∷ [])
row187 = (refl, refl)

row188 : Gives (block Shift (pos 1 ∷ pos 1 ∷ []) ([]) ([]) (scalar 7 ∷ []) (scalar 7 ∷ []) 0 0) ([]) 0 (pos 65534 ∷ []) (pos 65533 ∷ [])
row188 = (refl, refl)

row189 : Gives (block BitSet (pos 15 ∷ []) ([]) ([]) (scalar 7 ∷ []) (scalar 7 ∷ []) 0 0) ([]) 0 (pos 0 ∷ []) (pos 32768 ∷ [])
row189 = (refl, refl)

row190 : Gives (block BitClear (pos 0 ∷ []) ([]) ([]) (scalar 7 ∷ []) (scalar 7 ∷ []) 0 0) ([]) 0 (pos 65535 ∷ []) (pos 65534 ∷ [])
row190 = (refl, refl)

row191 : Gives (block BitClear (pos 15 ∷ []) ([]) ([]) (scalar 7 ∷ []) (scalar 7 ∷ []) 0 0) ([]) 0 (pos 0 ∷ []) (pos 0 ∷ [])
row191 = (refl, refl)

row192 : Gives (block ExtractBits (pos 1 ∷ pos 15 ∷ []) ([]) ([]) (scalar 7 ∷ []) (scalar 7 ∷ []) 0 0) ([]) 0 (pos 5 ∷ []) (pos 2 ∷ [])
row192 = (refl, refl)

row193 : Gives (block ExtractBits (pos 0 ∷ pos 15 ∷ []) ([]) ([]) (scalar 7 ∷ []) (scalar 7 ∷ []) 0 0) ([]) 0 (pos 65535 ∷ []) (pos 65535 ∷ [])
row193 = (refl, refl)

row194 : Gives (block Switch2 (pos 0 ∷ pos 0 ∷ []) ([]) ([]) (scalar 7 ∷ scalar 3 ∷ scalar 7 ∷ []) (scalar 7 ∷ []) 0 0) ([]) 0 (pos 0 ∷ pos 0 ∷ pos 65535 ∷ []) (pos 0 ∷ [])
row194 = (refl, refl)

row195 : Gives (block Switch2 (pos 0 ∷ pos 0 ∷ []) ([]) ([]) (scalar 7 ∷ scalar 3 ∷ scalar 7 ∷ []) (scalar 7 ∷ []) 0 0) ([]) 0 (pos 0 ∷ pos 65535 ∷ pos 65535 ∷ []) (pos 0 ∷ [])
row195 = (refl, refl)

row196 : Gives (block Switch2 (pos 1 ∷ pos 0 ∷ []) ([]) ([]) (scalar 7 ∷ scalar 3 ∷ scalar 7 ∷ []) (scalar 7 ∷ []) 0 0) ([]) 0 (pos 0 ∷ pos 0 ∷ pos 65535 ∷ []) (pos 65535 ∷ [])
row196 = (refl, refl)

row197 : Gives (block Switch2 (pos 2 ∷ pos 0 ∷ []) ([]) ([]) (scalar 7 ∷ scalar 3 ∷ scalar 7 ∷ []) (scalar 7 ∷ []) 0 0) ([]) 0 (pos 0 ∷ pos 0 ∷ pos 65535 ∷ []) (pos 65535 ∷ [])
row197 = (refl, refl)

row198 : Gives (block Switch2 (pos 2 ∷ pos 0 ∷ []) ([]) ([]) (scalar 7 ∷ scalar 3 ∷ scalar 7 ∷ []) (scalar 7 ∷ []) 0 0) ([]) 0 (pos 0 ∷ pos 65535 ∷ pos 65535 ∷ []) (pos 0 ∷ [])
row198 = (refl, refl)

row199 : Gives (block Select ([]) ([]) ([]) (scalar 7 ∷ scalar 7 ∷ scalar 7 ∷ []) (scalar 7 ∷ []) 3 0) ([]) 6 (pos 0 ∷ pos 0 ∷ pos 65535 ∷ []) (pos 0 ∷ [])
row199 = (refl, refl)

row200 : Gives (block Dollar ([]) (pos 0 ∷ []) ([]) (scalar 7 ∷ []) (scalar 7 ∷ []) 0 0) (pos 0 ∷ []) 0 (pos 65535 ∷ []) (pos 0 ∷ [])
row200 = (refl, refl)

row201 : Steps (block Dollar ([]) (pos 0 ∷ []) ([]) (scalar 7 ∷ []) (scalar 7 ∷ []) 1 0) (pos 0 ∷ []) 1 (pos 65535 ∷ []) (pos 65535 ∷ [])
row201 = (refl, refl)

row202 : Gives (block SampHold ([]) ([]) ([]) (scalar 7 ∷ []) (scalar 7 ∷ []) 0 0) ([]) 0 (pos 65535 ∷ []) (pos 65535 ∷ [])
row202 = (refl, refl)

row203 : Gives (block Register ([]) (pos 0 ∷ pos 0 ∷ pos 65535 ∷ []) ([]) (scalar 7 ∷ []) (scalar 7 ∷ []) 0 0) (pos 0 ∷ pos 0 ∷ pos 65535 ∷ []) 0 (pos 65535 ∷ []) (pos 0 ∷ [])
row203 = (refl, refl)

row204 : Steps (block Register ([]) (pos 0 ∷ pos 0 ∷ pos 65535 ∷ []) ([]) (scalar 7 ∷ []) (scalar 7 ∷ []) 1 0) (pos 0 ∷ pos 0 ∷ pos 65535 ∷ []) 1 (pos 0 ∷ []) (pos 0 ∷ pos 65535 ∷ pos 0 ∷ [])
row204 = (refl, refl)

row205 : Gives (block ModuloCount (pos 65536 ∷ []) (pos 0 ∷ []) ([]) ([]) (scalar 7 ∷ []) 1 0) (pos 65535 ∷ []) 1 ([]) (pos 65535 ∷ [])
row205 = (refl, refl)

row206 : Steps (block ModuloCount (pos 65536 ∷ []) (pos 0 ∷ []) ([]) ([]) (scalar 7 ∷ []) 1 0) (pos 65535 ∷ []) 1 ([]) (pos 0 ∷ [])
row206 = (refl, refl)

row207 : Gives (block GatedDelay ([]) (pos 0 ∷ []) ([]) (scalar 7 ∷ scalar 5 ∷ []) (scalar 7 ∷ []) 0 0) (pos 65535 ∷ []) 0 (pos 0 ∷ pos 1 ∷ []) (pos 65535 ∷ [])
row207 = (refl, refl)

row208 : Gives (block GatedDelay ([]) (pos 0 ∷ []) ([]) (scalar 7 ∷ scalar 5 ∷ []) (scalar 7 ∷ []) 0 0) (pos 65535 ∷ []) 0 (pos 0 ∷ pos 0 ∷ []) (pos 0 ∷ [])
row208 = (refl, refl)

row209 : Steps (block GatedDelay ([]) (pos 0 ∷ []) ([]) (scalar 7 ∷ scalar 5 ∷ []) (scalar 7 ∷ []) 1 0) (pos 65535 ∷ []) 1 (pos 0 ∷ pos 0 ∷ []) (pos 0 ∷ [])
row209 = (refl, refl)

row210 : Gives (block Sensor (pos 255 ∷ []) ([]) ([]) ([]) (scalar 7 ∷ []) 1 0) ([]) 1 (pos 65535 ∷ []) (pos 65535 ∷ [])
row210 = (refl, refl)

row211 : Delays (block EvtVarDly ([]) ([]) (negsuc 0 ∷ []) (scalar 7 ∷ []) ([]) 1 1) (pos 0 ∷ []) (pos 0)
row211 = (refl, refl)

row212 : Delays (block EvtVarDly ([]) ([]) (negsuc 0 ∷ []) (scalar 7 ∷ []) ([]) 1 1) (pos 65535 ∷ []) (pos 65535)
row212 = (refl, refl)

row213 : Takes (block IfThEl ([]) ([]) ([]) (scalar 7 ∷ []) ([]) 0 2) (pos 0 ∷ []) 2
row213 = (refl, refl)

row214 : Takes (block ESelect ([]) ([]) ([]) (scalar 7 ∷ []) ([]) 0 5) (pos 0 ∷ []) 1
row214 = (refl, refl)

row215 : Takes (block IfThEl ([]) ([]) ([]) (scalar 7 ∷ []) ([]) 0 2) (pos 0 ∷ []) 2
row215 = (refl, refl)

row216 : Takes (block ESelect ([]) ([]) ([]) (scalar 7 ∷ []) ([]) 0 5) (pos 0 ∷ []) 1
row216 = (refl, refl)

row217 : Takes (block IfThEl ([]) ([]) ([]) (scalar 7 ∷ []) ([]) 0 2) (pos 65535 ∷ []) 1
row217 = (refl, refl)

row218 : Takes (block ESelect ([]) ([]) ([]) (scalar 7 ∷ []) ([]) 0 5) (pos 65535 ∷ []) 5
row218 = (refl, refl)

row219 : Gives (block LogicalOp (pos 0 ∷ pos 1 ∷ []) ([]) ([]) (scalar 8 ∷ scalar 8 ∷ []) (scalar 8 ∷ []) 0 0) ([]) 0 (pos 0 ∷ pos 255 ∷ []) (pos 0 ∷ [])
row219 = (refl, refl)

row220 : Gives (block LogicalOp (pos 1 ∷ pos 0 ∷ []) ([]) ([]) (scalar 8 ∷ scalar 8 ∷ []) (scalar 8 ∷ []) 0 0) ([]) 0 (pos 0 ∷ pos 255 ∷ []) (pos 1 ∷ [])
row220 = (refl, refl)

row221 : Gives (block RelationalOp (pos 1 ∷ []) ([]) ([]) (scalar 8 ∷ scalar 8 ∷ []) (scalar 3 ∷ []) 0 0) ([]) 0 (pos 0 ∷ pos 255 ∷ []) (pos 1 ∷ [])
row221 = (refl, refl)

row222 : Gives (block LogicalOp (pos 2 ∷ pos 1 ∷ []) ([]) ([]) (scalar 8 ∷ scalar 8 ∷ []) (scalar 8 ∷ []) 0 0) ([]) 0 (pos 0 ∷ pos 255 ∷ []) (pos 255 ∷ [])
row222 = (refl, refl)

row223 : Gives (block LogicalOp (pos 3 ∷ pos 0 ∷ []) ([]) ([]) (scalar 8 ∷ scalar 8 ∷ []) (scalar 8 ∷ []) 0 0) ([]) 0 (pos 0 ∷ pos 255 ∷ []) (pos 0 ∷ [])
row223 = (refl, refl)

row224 : Gives (block LogicalOp (pos 4 ∷ pos 1 ∷ []) ([]) ([]) (scalar 8 ∷ scalar 8 ∷ []) (scalar 8 ∷ []) 0 0) ([]) 0 (pos 0 ∷ pos 255 ∷ []) (pos 255 ∷ [])
row224 = (refl, refl)

row225 : Gives (block RelationalOp (pos 4 ∷ []) ([]) ([]) (scalar 8 ∷ scalar 8 ∷ []) (scalar 3 ∷ []) 0 0) ([]) 0 (pos 255 ∷ pos 255 ∷ []) (pos 0 ∷ [])
row225 = (refl, refl)

row226 : Gives (block LogicalOp (pos 5 ∷ pos 0 ∷ []) ([]) ([]) (scalar 8 ∷ []) (scalar 8 ∷ []) 0 0) ([]) 0 (pos 0 ∷ []) (pos 1 ∷ [])
row226 = (refl, refl)

row227 : Gives (block Shift (negsuc 6 ∷ pos 0 ∷ []) ([]) ([]) (scalar 8 ∷ []) (scalar 8 ∷ []) 0 0) ([]) 0 (pos 1 ∷ []) (pos 0 ∷ [])
row227 = (refl, refl)

row228 : Gives (block Shift (negsuc 6 ∷ pos 1 ∷ []) ([]) ([]) (scalar 8 ∷ []) (scalar 8 ∷ []) 0 0) ([]) 0 (pos 254 ∷ []) (pos 253 ∷ [])
row228 = (refl, refl)

row229 : Gives (block Shift (negsuc 0 ∷ pos 0 ∷ []) ([]) ([]) (scalar 8 ∷ []) (scalar 8 ∷ []) 0 0) ([]) 0 (pos 1 ∷ []) (pos 0 ∷ [])
row229 = (refl, refl)

row230 : Gives (block Shift (negsuc 0 ∷ pos 1 ∷ []) ([]) ([]) (scalar 8 ∷ []) (scalar 8 ∷ []) 0 0) ([]) 0 (pos 254 ∷ []) (pos 127 ∷ [])
row230 = (refl, refl)

row231 : Gives (block Shift (pos 1 ∷ pos 0 ∷ []) ([]) ([]) (scalar 8 ∷ []) (scalar 8 ∷ []) 0 0) ([]) 0 (pos 1 ∷ []) (pos 2 ∷ [])
row231 = (refl, refl)

row232 : Gives (block Shift (pos 1 ∷ pos 1 ∷ []) ([]) ([]) (scalar 8 ∷ []) (scalar 8 ∷ []) 0 0) ([]) 0 (pos 254 ∷ []) (pos 253 ∷ [])
row232 = (refl, refl)

row233 : Gives (block BitSet (pos 7 ∷ []) ([]) ([]) (scalar 8 ∷ []) (scalar 8 ∷ []) 0 0) ([]) 0 (pos 0 ∷ []) (pos 128 ∷ [])
row233 = (refl, refl)

row234 : Gives (block BitClear (pos 0 ∷ []) ([]) ([]) (scalar 8 ∷ []) (scalar 8 ∷ []) 0 0) ([]) 0 (pos 255 ∷ []) (pos 254 ∷ [])
row234 = (refl, refl)

row235 : Gives (block BitClear (pos 7 ∷ []) ([]) ([]) (scalar 8 ∷ []) (scalar 8 ∷ []) 0 0) ([]) 0 (pos 0 ∷ []) (pos 0 ∷ [])
row235 = (refl, refl)

row236 : Gives (block ExtractBits (pos 1 ∷ pos 7 ∷ []) ([]) ([]) (scalar 8 ∷ []) (scalar 8 ∷ []) 0 0) ([]) 0 (pos 5 ∷ []) (pos 2 ∷ [])
row236 = (refl, refl)

row237 : Gives (block ExtractBits (pos 0 ∷ pos 7 ∷ []) ([]) ([]) (scalar 8 ∷ []) (scalar 8 ∷ []) 0 0) ([]) 0 (pos 255 ∷ []) (pos 255 ∷ [])
row237 = (refl, refl)

row238 : Gives (block Switch2 (pos 0 ∷ pos 0 ∷ []) ([]) ([]) (scalar 8 ∷ scalar 3 ∷ scalar 8 ∷ []) (scalar 8 ∷ []) 0 0) ([]) 0 (pos 0 ∷ pos 0 ∷ pos 255 ∷ []) (pos 0 ∷ [])
row238 = (refl, refl)

row239 : Gives (block Switch2 (pos 1 ∷ pos 0 ∷ []) ([]) ([]) (scalar 8 ∷ scalar 3 ∷ scalar 8 ∷ []) (scalar 8 ∷ []) 0 0) ([]) 0 (pos 0 ∷ pos 0 ∷ pos 255 ∷ []) (pos 255 ∷ [])
row239 = (refl, refl)

row240 : Gives (block Switch2 (pos 1 ∷ pos 0 ∷ []) ([]) ([]) (scalar 8 ∷ scalar 3 ∷ scalar 8 ∷ []) (scalar 8 ∷ []) 0 0) ([]) 0 (pos 0 ∷ pos 255 ∷ pos 255 ∷ []) (pos 0 ∷ [])
row240 = (refl, refl)

row241 : Gives (block Switch2 (pos 2 ∷ pos 0 ∷ []) ([]) ([]) (scalar 8 ∷ scalar 3 ∷ scalar 8 ∷ []) (scalar 8 ∷ []) 0 0) ([]) 0 (pos 0 ∷ pos 0 ∷ pos 255 ∷ []) (pos 255 ∷ [])
row241 = (refl, refl)

row242 : Gives (block Select ([]) ([]) ([]) (scalar 8 ∷ scalar 8 ∷ scalar 8 ∷ []) (scalar 8 ∷ []) 3 0) ([]) 4 (pos 0 ∷ pos 0 ∷ pos 255 ∷ []) (pos 255 ∷ [])
row242 = (refl, refl)

row243 : Gives (block Dollar ([]) (pos 0 ∷ []) ([]) (scalar 8 ∷ []) (scalar 8 ∷ []) 0 0) (pos 0 ∷ []) 0 (pos 255 ∷ []) (pos 0 ∷ [])
row243 = (refl, refl)

row244 : Steps (block Dollar ([]) (pos 0 ∷ []) ([]) (scalar 8 ∷ []) (scalar 8 ∷ []) 1 0) (pos 0 ∷ []) 1 (pos 255 ∷ []) (pos 255 ∷ [])
row244 = (refl, refl)

row245 : Gives (block SampHold ([]) ([]) ([]) (scalar 8 ∷ []) (scalar 8 ∷ []) 0 0) ([]) 0 (pos 255 ∷ []) (pos 255 ∷ [])
row245 = (refl, refl)

row246 : Gives (block Register ([]) (pos 0 ∷ pos 0 ∷ pos 255 ∷ []) ([]) (scalar 8 ∷ []) (scalar 8 ∷ []) 0 0) (pos 0 ∷ pos 0 ∷ pos 255 ∷ []) 0 (pos 255 ∷ []) (pos 0 ∷ [])
row246 = (refl, refl)

row247 : Steps (block Register ([]) (pos 0 ∷ pos 0 ∷ pos 255 ∷ []) ([]) (scalar 8 ∷ []) (scalar 8 ∷ []) 1 0) (pos 0 ∷ pos 0 ∷ pos 255 ∷ []) 1 (pos 0 ∷ []) (pos 0 ∷ pos 255 ∷ pos 0 ∷ [])
row247 = (refl, refl)

row248 : Gives (block ModuloCount (pos 256 ∷ []) (pos 0 ∷ []) ([]) ([]) (scalar 8 ∷ []) 1 0) (pos 255 ∷ []) 1 ([]) (pos 255 ∷ [])
row248 = (refl, refl)

row249 : Steps (block ModuloCount (pos 256 ∷ []) (pos 0 ∷ []) ([]) ([]) (scalar 8 ∷ []) 1 0) (pos 255 ∷ []) 1 ([]) (pos 0 ∷ [])
row249 = (refl, refl)

row250 : Gives (block GatedDelay ([]) (pos 0 ∷ []) ([]) (scalar 8 ∷ scalar 5 ∷ []) (scalar 8 ∷ []) 0 0) (pos 255 ∷ []) 0 (pos 0 ∷ pos 1 ∷ []) (pos 255 ∷ [])
row250 = (refl, refl)

row251 : Gives (block GatedDelay ([]) (pos 0 ∷ []) ([]) (scalar 8 ∷ scalar 5 ∷ []) (scalar 8 ∷ []) 0 0) (pos 255 ∷ []) 0 (pos 0 ∷ pos 0 ∷ []) (pos 0 ∷ [])
row251 = (refl, refl)

row252 : Steps (block GatedDelay ([]) (pos 0 ∷ []) ([]) (scalar 8 ∷ scalar 5 ∷ []) (scalar 8 ∷ []) 1 0) (pos 255 ∷ []) 1 (pos 0 ∷ pos 0 ∷ []) (pos 0 ∷ [])
row252 = (refl, refl)

row253 : Gives (block Sensor (pos 255 ∷ []) ([]) ([]) ([]) (scalar 8 ∷ []) 1 0) ([]) 1 (pos 255 ∷ []) (pos 255 ∷ [])
row253 = (refl, refl)

row254 : Delays (block EvtVarDly ([]) ([]) (negsuc 0 ∷ []) (scalar 8 ∷ []) ([]) 1 1) (pos 0 ∷ []) (pos 0)
row254 = (refl, refl)

row255 : Delays (block EvtVarDly ([]) ([]) (negsuc 0 ∷ []) (scalar 8 ∷ []) ([]) 1 1) (pos 255 ∷ []) (pos 255)
row255 = (refl, refl)

row256 : Takes (block IfThEl ([]) ([]) ([]) (scalar 8 ∷ []) ([]) 0 2) (pos 0 ∷ []) 2
row256 = (refl, refl)

row257 : Takes (block ESelect ([]) ([]) ([]) (scalar 8 ∷ []) ([]) 0 5) (pos 0 ∷ []) 1
row257 = (refl, refl)

row258 : Takes (block IfThEl ([]) ([]) ([]) (scalar 8 ∷ []) ([]) 0 2) (pos 0 ∷ []) 2
row258 = (refl, refl)

row259 : Takes (block ESelect ([]) ([]) ([]) (scalar 8 ∷ []) ([]) 0 5) (pos 0 ∷ []) 1
row259 = (refl, refl)

row260 : Takes (block IfThEl ([]) ([]) ([]) (scalar 8 ∷ []) ([]) 0 2) (pos 255 ∷ []) 1
row260 = (refl, refl)

row261 : Takes (block ESelect ([]) ([]) ([]) (scalar 8 ∷ []) ([]) 0 5) (pos 255 ∷ []) 5
row261 = (refl, refl)

row262 : Gives (block Logic (pos 1 ∷ pos 0 ∷ pos 0 ∷ pos 1 ∷ pos 1 ∷ pos 1 ∷ pos 0 ∷ pos 1 ∷ []) ([]) ([]) (scalar 5 ∷ scalar 3 ∷ []) (scalar 8 ∷ scalar 4 ∷ []) 0 0) ([]) 0 (pos 0 ∷ pos 0 ∷ []) (pos 1 ∷ pos 0 ∷ [])
row262 = (refl, refl)

row263 : Gives (block Logic (pos 1 ∷ pos 0 ∷ pos 0 ∷ pos 1 ∷ pos 1 ∷ pos 1 ∷ pos 0 ∷ pos 1 ∷ []) ([]) ([]) (scalar 5 ∷ scalar 3 ∷ []) (scalar 8 ∷ scalar 4 ∷ []) 0 0) ([]) 0 (pos 0 ∷ negsuc 0 ∷ []) (pos 0 ∷ pos 1 ∷ [])
row263 = (refl, refl)

row264 : Gives (block Logic (pos 1 ∷ pos 0 ∷ pos 0 ∷ pos 1 ∷ pos 1 ∷ pos 1 ∷ pos 0 ∷ pos 1 ∷ []) ([]) ([]) (scalar 5 ∷ scalar 3 ∷ []) (scalar 8 ∷ scalar 4 ∷ []) 0 0) ([]) 0 (pos 127 ∷ pos 0 ∷ []) (pos 1 ∷ pos 1 ∷ [])
row264 = (refl, refl)

row265 : Gives (block Logic (pos 1 ∷ pos 0 ∷ pos 0 ∷ pos 1 ∷ pos 1 ∷ pos 1 ∷ pos 0 ∷ pos 1 ∷ []) ([]) ([]) (scalar 5 ∷ scalar 3 ∷ []) (scalar 8 ∷ scalar 4 ∷ []) 0 0) ([]) 0 (pos 5 ∷ pos 9 ∷ []) (pos 0 ∷ pos 1 ∷ [])
row265 = (refl, refl)

row266 : Gives (block AndLog ([]) ([]) ([]) ([]) (scalar 3 ∷ []) 2 0) ([]) 0 ([]) (negsuc 0 ∷ [])
row266 = (refl, refl)

row267 : Gives (block AndLog ([]) ([]) ([]) ([]) (scalar 3 ∷ []) 2 0) ([]) 1 ([]) (negsuc 0 ∷ [])
row267 = (refl, refl)

row268 : Gives (block AndLog ([]) ([]) ([]) ([]) (scalar 3 ∷ []) 2 0) ([]) 2 ([]) (negsuc 0 ∷ [])
row268 = (refl, refl)

row269 : Gives (block AndLog ([]) ([]) ([]) ([]) (scalar 3 ∷ []) 2 0) ([]) 3 ([]) (pos 1 ∷ [])
row269 = (refl, refl)

row270 : Delays (block EvtDly (negsuc 0 ∷ []) ([]) (pos 0 ∷ []) ([]) ([]) 1 1) [] (negsuc 0)
row270 = (refl, refl)

row271 : Delays (block EvtDly (pos 0 ∷ []) ([]) (pos 0 ∷ []) ([]) ([]) 1 1) [] (pos 0)
row271 = (refl, refl)

row272 : Delays (block EvtDly (pos 2147483647 ∷ []) ([]) (pos 0 ∷ []) ([]) ([]) 1 1) [] (pos 2147483647)
row272 = (refl, refl)

row273 : Gives (block Halt ([]) ([]) ([]) ([]) ([]) 1 0) ([]) 1 ([]) ([])
row273 = (refl, refl)
