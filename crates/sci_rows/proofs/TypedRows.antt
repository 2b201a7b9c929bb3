-- Specs of known ports: the rule on types or sizes that they break, whether they are typed, and the length of their states.
-- Written by tools/typed_rows.py.
use Rattle.std.proofs.Common.{◌≡◌, ℕ, ℤ, pos, negsuc, List, [], ◌∷◌, Bool, true, false, Some, refl}
use Rattle.sci_base.specs.declared.refusal.Rule.TheVariants.{TypeNotHere, ShapeRule}
use Rattle.sci_forms.specs.declared.broken.Detail.TheVariants.{Triple}
use Rattle.sci_forms.specs.declared.Kind.{Kind}
use Rattle.sci_forms.specs.declared.Kind.TheVariants.{Const, Summation, GainBlk, Product, AbsValue, Signum, MaxMin, Saturation, DeadBand, Convert, Mux, Demux, Extractor, LogicalOp, RelationalOp, Shift, BitSet, BitClear, ExtractBits, Switch2, Select, Logic, AndLog, Dollar, SampHold, Register, ModuloCount, GatedDelay, Sensor, EvtDly, EvtVarDly, IfThEl, ESelect, Halt}
use Rattle.sci_forms.specs.declared.ports.Port.{Port}
use Rattle.sci_forms.specs.declared.spec.Spec.{Spec}
use Rattle.sci_forms.specs.Typed.{types_broken_of, sizes_broken_of, typed}
use Rattle.sci_forms.specs.Words.{state_len_of}

abbrev port : ℤ → ℤ → ℤ → Port
port r c t = record { rows = r; cols = c; ty = t }

-- a spec by its kind, parameters, state, first dates, inputs, outputs, counts of activation ports and feedthrough
abbrev block : Kind → List ℤ → List ℤ → List ℤ → List Port → List Port → ℕ → ℕ → List Bool → Spec
block k ps xs fs is os a b d = record { kind = k; params = ps; state = xs; firing = fs; ins = is; outs = os; evtin = a; evtout = b; feed = d }

abbrev TypesBroken : Spec → ℤ → ℤ → ℤ → Type 0
TypesBroken s a b c = types_broken_of s.kind s ≡ Some (record { rule = TypeNotHere; detail = Triple a b c })

abbrev SizesBroken : Spec → ℤ → ℤ → ℤ → Type 0
SizesBroken s a b c = sizes_broken_of s.kind s ≡ Some (record { rule = ShapeRule; detail = Triple a b c })

abbrev IsTyped : Spec → Type 0
IsTyped s = typed s ≡ true

abbrev IsNotTyped : Spec → Type 0
IsNotTyped s = typed s ≡ false

abbrev HasStateLength : Spec → ℕ → Type 0
HasStateLength s n = state_len_of s.kind s ≡ n

row1 : TypesBroken (block GainBlk (pos 0 ∷ pos 3 ∷ []) [] [] (port (pos 2) (pos 3) (pos 5) ∷ []) (port (pos 2) (pos 3) (pos 4) ∷ []) 0 0 (true ∷ [])) (pos 1) (pos 2) (pos 1)
row1 = refl

row2 : TypesBroken (block AbsValue (pos 0 ∷ []) [] [] (port (pos 2) (pos 3) (pos 5) ∷ []) (port (pos 2) (pos 3) (pos 4) ∷ []) 0 0 (true ∷ [])) (pos 1) (pos 2) (pos 1)
row2 = refl

row3 : TypesBroken (block Signum [] [] [] (port (pos 2) (pos 3) (pos 5) ∷ []) (port (pos 2) (pos 3) (pos 4) ∷ []) 0 0 (true ∷ [])) (pos 1) (pos 2) (pos 1)
row3 = refl

row4 : TypesBroken (block Saturation (negsuc 4 ∷ pos 5 ∷ []) [] [] (port (pos 2) (pos 3) (pos 5) ∷ []) (port (pos 2) (pos 3) (pos 4) ∷ []) 0 0 (true ∷ [])) (pos 1) (pos 2) (pos 1)
row4 = refl

row5 : TypesBroken (block DeadBand (pos 0 ∷ negsuc 4 ∷ pos 5 ∷ []) [] [] (port (pos 2) (pos 3) (pos 5) ∷ []) (port (pos 2) (pos 3) (pos 4) ∷ []) 0 0 (true ∷ [])) (pos 1) (pos 2) (pos 1)
row5 = refl

row6 : TypesBroken (block Shift (pos 7 ∷ pos 0 ∷ []) [] [] (port (pos 2) (pos 3) (pos 5) ∷ []) (port (pos 2) (pos 3) (pos 4) ∷ []) 0 0 (true ∷ [])) (pos 1) (pos 2) (pos 1)
row6 = refl

row7 : TypesBroken (block BitSet (pos 7 ∷ []) [] [] (port (pos 2) (pos 3) (pos 5) ∷ []) (port (pos 2) (pos 3) (pos 4) ∷ []) 0 0 (true ∷ [])) (pos 1) (pos 2) (pos 1)
row7 = refl

row8 : TypesBroken (block BitClear (pos 7 ∷ []) [] [] (port (pos 2) (pos 3) (pos 5) ∷ []) (port (pos 2) (pos 3) (pos 4) ∷ []) 0 0 (true ∷ [])) (pos 1) (pos 2) (pos 1)
row8 = refl

row9 : TypesBroken (block ExtractBits (pos 1 ∷ pos 7 ∷ []) [] [] (port (pos 2) (pos 3) (pos 5) ∷ []) (port (pos 2) (pos 3) (pos 4) ∷ []) 0 0 (true ∷ [])) (pos 1) (pos 2) (pos 1)
row9 = refl

row10 : TypesBroken (block Dollar [] (pos 0 ∷ []) [] (port (pos 2) (pos 3) (pos 5) ∷ []) (port (pos 2) (pos 3) (pos 4) ∷ []) 0 0 (false ∷ [])) (pos 1) (pos 2) (pos 1)
row10 = refl

row11 : TypesBroken (block SampHold [] [] [] (port (pos 2) (pos 3) (pos 5) ∷ []) (port (pos 2) (pos 3) (pos 4) ∷ []) 0 0 (true ∷ [])) (pos 1) (pos 2) (pos 1)
row11 = refl

row12 : TypesBroken (block Summation (pos 0 ∷ pos 1 ∷ negsuc 0 ∷ []) [] [] (port (pos 2) (pos 3) (pos 5) ∷ port (pos 2) (pos 3) (pos 4) ∷ []) (port (pos 2) (pos 3) (pos 5) ∷ []) 0 0 (true ∷ true ∷ [])) (pos 1) (pos 1) (pos 2)
row12 = refl

row13 : TypesBroken (block Summation (pos 0 ∷ pos 1 ∷ negsuc 0 ∷ []) [] [] (port (pos 2) (pos 3) (pos 5) ∷ port (pos 2) (pos 3) (pos 4) ∷ []) (port (pos 2) (pos 3) (pos 4) ∷ []) 0 0 (true ∷ true ∷ [])) (pos 1) (pos 1) (pos 2)
row13 = refl

row14 : TypesBroken (block Summation (pos 0 ∷ pos 1 ∷ negsuc 0 ∷ []) [] [] (port (pos 2) (pos 3) (pos 5) ∷ port (pos 2) (pos 3) (pos 5) ∷ []) (port (pos 2) (pos 3) (pos 4) ∷ []) 0 0 (true ∷ true ∷ [])) (pos 1) (pos 2) (pos 1)
row14 = refl

row15 : TypesBroken (block Product (pos 0 ∷ pos 1 ∷ []) [] [] (port (pos 2) (pos 3) (pos 5) ∷ port (pos 2) (pos 3) (pos 4) ∷ []) (port (pos 2) (pos 3) (pos 5) ∷ []) 0 0 (true ∷ true ∷ [])) (pos 1) (pos 1) (pos 2)
row15 = refl

row16 : TypesBroken (block Product (pos 0 ∷ pos 1 ∷ []) [] [] (port (pos 2) (pos 3) (pos 5) ∷ port (pos 2) (pos 3) (pos 4) ∷ []) (port (pos 2) (pos 3) (pos 4) ∷ []) 0 0 (true ∷ true ∷ [])) (pos 1) (pos 1) (pos 2)
row16 = refl

row17 : TypesBroken (block Product (pos 0 ∷ pos 1 ∷ []) [] [] (port (pos 2) (pos 3) (pos 5) ∷ port (pos 2) (pos 3) (pos 5) ∷ []) (port (pos 2) (pos 3) (pos 4) ∷ []) 0 0 (true ∷ true ∷ [])) (pos 1) (pos 2) (pos 1)
row17 = refl

row18 : TypesBroken (block MaxMin (pos 1 ∷ []) [] [] (port (pos 2) (pos 3) (pos 5) ∷ port (pos 2) (pos 3) (pos 4) ∷ []) (port (pos 2) (pos 3) (pos 5) ∷ []) 0 0 (true ∷ true ∷ [])) (pos 1) (pos 1) (pos 2)
row18 = refl

row19 : TypesBroken (block MaxMin (pos 1 ∷ []) [] [] (port (pos 2) (pos 3) (pos 5) ∷ port (pos 2) (pos 3) (pos 4) ∷ []) (port (pos 2) (pos 3) (pos 4) ∷ []) 0 0 (true ∷ true ∷ [])) (pos 1) (pos 1) (pos 2)
row19 = refl

row20 : TypesBroken (block MaxMin (pos 1 ∷ []) [] [] (port (pos 2) (pos 3) (pos 5) ∷ port (pos 2) (pos 3) (pos 5) ∷ []) (port (pos 2) (pos 3) (pos 4) ∷ []) 0 0 (true ∷ true ∷ [])) (pos 1) (pos 2) (pos 1)
row20 = refl

row21 : TypesBroken (block LogicalOp (pos 0 ∷ pos 0 ∷ []) [] [] (port (pos 2) (pos 3) (pos 5) ∷ port (pos 2) (pos 3) (pos 4) ∷ []) (port (pos 2) (pos 3) (pos 5) ∷ []) 0 0 (true ∷ true ∷ [])) (pos 1) (pos 1) (pos 2)
row21 = refl

row22 : TypesBroken (block LogicalOp (pos 0 ∷ pos 0 ∷ []) [] [] (port (pos 2) (pos 3) (pos 5) ∷ port (pos 2) (pos 3) (pos 4) ∷ []) (port (pos 2) (pos 3) (pos 4) ∷ []) 0 0 (true ∷ true ∷ [])) (pos 1) (pos 1) (pos 2)
row22 = refl

row23 : TypesBroken (block LogicalOp (pos 0 ∷ pos 0 ∷ []) [] [] (port (pos 2) (pos 3) (pos 5) ∷ port (pos 2) (pos 3) (pos 5) ∷ []) (port (pos 2) (pos 3) (pos 4) ∷ []) 0 0 (true ∷ true ∷ [])) (pos 1) (pos 2) (pos 1)
row23 = refl

row24 : TypesBroken (block RelationalOp (pos 0 ∷ []) [] [] (port (pos 2) (pos 3) (pos 5) ∷ port (pos 2) (pos 3) (pos 4) ∷ []) (port (pos 2) (pos 3) (pos 4) ∷ []) 0 0 (true ∷ true ∷ [])) (pos 1) (pos 1) (pos 2)
row24 = refl

row25 : TypesBroken (block Mux [] [] [] (port (pos 2) (pos 1) (pos 5) ∷ port (pos 1) (pos 1) (pos 4) ∷ []) (port (pos 3) (pos 1) (pos 5) ∷ []) 0 0 (true ∷ true ∷ [])) (pos 1) (pos 1) (pos 2)
row25 = refl

row26 : TypesBroken (block Mux [] [] [] (port (pos 2) (pos 1) (pos 5) ∷ port (pos 1) (pos 1) (pos 5) ∷ []) (port (pos 3) (pos 1) (pos 4) ∷ []) 0 0 (true ∷ true ∷ [])) (pos 1) (pos 2) (pos 1)
row26 = refl

row27 : TypesBroken (block Demux [] [] [] (port (pos 3) (pos 1) (pos 5) ∷ []) (port (pos 2) (pos 1) (pos 4) ∷ port (pos 1) (pos 1) (pos 4) ∷ []) 0 0 (true ∷ [])) (pos 1) (pos 2) (pos 1)
row27 = refl

row28 : TypesBroken (block Demux [] [] [] (port (pos 3) (pos 1) (pos 5) ∷ []) (port (pos 2) (pos 1) (pos 5) ∷ port (pos 1) (pos 1) (pos 4) ∷ []) 0 0 (true ∷ [])) (pos 1) (pos 2) (pos 2)
row28 = refl

row29 : TypesBroken (block Extractor (pos 6 ∷ pos 1 ∷ []) [] [] (port (pos 2) (pos 3) (pos 5) ∷ []) (port (pos 2) (pos 1) (pos 4) ∷ []) 0 0 (true ∷ [])) (pos 1) (pos 2) (pos 1)
row29 = refl

row30 : TypesBroken (block Switch2 (pos 0 ∷ pos 0 ∷ []) [] [] (port (pos 2) (pos 3) (pos 5) ∷ port (pos 1) (pos 1) (pos 4) ∷ port (pos 2) (pos 3) (pos 4) ∷ []) (port (pos 2) (pos 3) (pos 5) ∷ []) 0 0 (true ∷ true ∷ true ∷ [])) (pos 1) (pos 1) (pos 3)
row30 = refl

row31 : TypesBroken (block Switch2 (pos 0 ∷ pos 0 ∷ []) [] [] (port (pos 2) (pos 3) (pos 5) ∷ port (pos 1) (pos 1) (pos 8) ∷ port (pos 2) (pos 3) (pos 5) ∷ []) (port (pos 2) (pos 3) (pos 4) ∷ []) 0 0 (true ∷ true ∷ true ∷ [])) (pos 1) (pos 2) (pos 1)
row31 = refl

row32 : TypesBroken (block Select [] [] [] (port (pos 2) (pos 3) (pos 5) ∷ port (pos 2) (pos 3) (pos 5) ∷ port (pos 2) (pos 3) (pos 4) ∷ []) (port (pos 2) (pos 3) (pos 5) ∷ []) 3 0 (true ∷ true ∷ true ∷ [])) (pos 1) (pos 1) (pos 3)
row32 = refl

row33 : TypesBroken (block GatedDelay [] (pos 1 ∷ pos 2 ∷ pos 3 ∷ pos 4 ∷ pos 5 ∷ pos 6 ∷ []) [] (port (pos 2) (pos 3) (pos 5) ∷ port (pos 1) (pos 1) (pos 3) ∷ []) (port (pos 2) (pos 3) (pos 4) ∷ []) 0 0 (false ∷ true ∷ [])) (pos 1) (pos 2) (pos 1)
row33 = refl

row34 : TypesBroken (block Register [] (pos 0 ∷ pos 1 ∷ pos 2 ∷ []) [] (port (pos 1) (pos 1) (pos 5) ∷ []) (port (pos 1) (pos 1) (pos 4) ∷ []) 0 0 (false ∷ [])) (pos 1) (pos 2) (pos 1)
row34 = refl

row35 : TypesBroken (block AndLog [] [] [] ([]) (port (pos 1) (pos 1) (pos 4) ∷ []) 2 0 []) (pos 1) (pos 2) (pos 1)
row35 = refl

row36 : TypesBroken (block AndLog [] [] [] ([]) (port (pos 1) (pos 1) (pos 5) ∷ []) 2 0 []) (pos 1) (pos 2) (pos 1)
row36 = refl

row37 : TypesBroken (block AndLog [] [] [] ([]) (port (pos 1) (pos 1) (pos 6) ∷ []) 2 0 []) (pos 1) (pos 2) (pos 1)
row37 = refl

row38 : TypesBroken (block AndLog [] [] [] ([]) (port (pos 1) (pos 1) (pos 7) ∷ []) 2 0 []) (pos 1) (pos 2) (pos 1)
row38 = refl

row39 : TypesBroken (block AndLog [] [] [] ([]) (port (pos 1) (pos 1) (pos 8) ∷ []) 2 0 []) (pos 1) (pos 2) (pos 1)
row39 = refl

row40 : TypesBroken (block Const (pos 128 ∷ []) [] [] ([]) (port (pos 2) (pos 3) (pos 5) ∷ []) 0 0 []) (pos 2) (pos 1) (pos 1)
row40 = refl

row41 : TypesBroken (block Const (pos 1 ∷ pos 2 ∷ pos 3 ∷ pos 4 ∷ negsuc 128 ∷ pos 200 ∷ []) [] [] ([]) (port (pos 2) (pos 3) (pos 5) ∷ []) 0 0 []) (pos 2) (pos 1) (pos 5)
row41 = refl

row42 : TypesBroken (block GainBlk (pos 0 ∷ pos 128 ∷ []) [] [] (port (pos 2) (pos 3) (pos 5) ∷ []) (port (pos 2) (pos 3) (pos 5) ∷ []) 0 0 (true ∷ [])) (pos 2) (pos 1) (pos 2)
row42 = refl

row43 : TypesBroken (block GainBlk (pos 0 ∷ pos 40000 ∷ []) [] [] (port (pos 2) (pos 3) (pos 5) ∷ []) (port (pos 2) (pos 3) (pos 4) ∷ []) 0 0 (true ∷ [])) (pos 1) (pos 2) (pos 1)
row43 = refl

row44 : TypesBroken (block Saturation (negsuc 128 ∷ pos 128 ∷ []) [] [] (port (pos 2) (pos 3) (pos 5) ∷ []) (port (pos 2) (pos 3) (pos 5) ∷ []) 0 0 (true ∷ [])) (pos 2) (pos 1) (pos 1)
row44 = refl

row45 : TypesBroken (block Saturation (negsuc 127 ∷ pos 128 ∷ []) [] [] (port (pos 2) (pos 3) (pos 5) ∷ []) (port (pos 2) (pos 3) (pos 5) ∷ []) 0 0 (true ∷ [])) (pos 2) (pos 1) (pos 2)
row45 = refl

row46 : TypesBroken (block DeadBand (pos 0 ∷ negsuc 128 ∷ pos 128 ∷ []) [] [] (port (pos 2) (pos 3) (pos 5) ∷ []) (port (pos 2) (pos 3) (pos 5) ∷ []) 0 0 (true ∷ [])) (pos 2) (pos 1) (pos 2)
row46 = refl

row47 : TypesBroken (block DeadBand (pos 0 ∷ negsuc 127 ∷ pos 128 ∷ []) [] [] (port (pos 2) (pos 3) (pos 5) ∷ []) (port (pos 2) (pos 3) (pos 5) ∷ []) 0 0 (true ∷ [])) (pos 2) (pos 1) (pos 3)
row47 = refl

row48 : TypesBroken (block Shift (pos 8 ∷ pos 0 ∷ []) [] [] (port (pos 2) (pos 3) (pos 5) ∷ []) (port (pos 2) (pos 3) (pos 5) ∷ []) 0 0 (true ∷ [])) (pos 2) (pos 1) (pos 1)
row48 = refl

row49 : TypesBroken (block Shift (negsuc 7 ∷ pos 0 ∷ []) [] [] (port (pos 2) (pos 3) (pos 5) ∷ []) (port (pos 2) (pos 3) (pos 5) ∷ []) 0 0 (true ∷ [])) (pos 2) (pos 1) (pos 1)
row49 = refl

row50 : TypesBroken (block Shift (pos 31 ∷ pos 0 ∷ []) [] [] (port (pos 2) (pos 3) (pos 5) ∷ []) (port (pos 2) (pos 3) (pos 5) ∷ []) 0 0 (true ∷ [])) (pos 2) (pos 1) (pos 1)
row50 = refl

row51 : TypesBroken (block Shift (negsuc 30 ∷ pos 0 ∷ []) [] [] (port (pos 2) (pos 3) (pos 5) ∷ []) (port (pos 2) (pos 3) (pos 5) ∷ []) 0 0 (true ∷ [])) (pos 2) (pos 1) (pos 1)
row51 = refl

row52 : TypesBroken (block BitSet (pos 8 ∷ []) [] [] (port (pos 2) (pos 3) (pos 5) ∷ []) (port (pos 2) (pos 3) (pos 5) ∷ []) 0 0 (true ∷ [])) (pos 2) (pos 1) (pos 1)
row52 = refl

row53 : TypesBroken (block BitClear (pos 8 ∷ []) [] [] (port (pos 2) (pos 3) (pos 5) ∷ []) (port (pos 2) (pos 3) (pos 5) ∷ []) 0 0 (true ∷ [])) (pos 2) (pos 1) (pos 1)
row53 = refl

row54 : TypesBroken (block ExtractBits (pos 8 ∷ pos 8 ∷ []) [] [] (port (pos 2) (pos 3) (pos 5) ∷ []) (port (pos 2) (pos 3) (pos 5) ∷ []) 0 0 (true ∷ [])) (pos 2) (pos 1) (pos 2)
row54 = refl

row55 : TypesBroken (block ExtractBits (pos 0 ∷ pos 31 ∷ []) [] [] (port (pos 2) (pos 3) (pos 5) ∷ []) (port (pos 2) (pos 3) (pos 5) ∷ []) 0 0 (true ∷ [])) (pos 2) (pos 1) (pos 2)
row55 = refl

row56 : TypesBroken (block ModuloCount (pos 129 ∷ []) (pos 0 ∷ []) [] ([]) (port (pos 1) (pos 1) (pos 5) ∷ []) 1 0 []) (pos 2) (pos 1) (pos 1)
row56 = refl

row57 : TypesBroken (block ModuloCount (pos 257 ∷ []) (pos 0 ∷ []) [] ([]) (port (pos 1) (pos 1) (pos 8) ∷ []) 1 0 []) (pos 2) (pos 1) (pos 1)
row57 = refl

row58 : TypesBroken (block Dollar [] (pos 128 ∷ []) [] (port (pos 2) (pos 3) (pos 5) ∷ []) (port (pos 2) (pos 3) (pos 5) ∷ []) 0 0 (false ∷ [])) (pos 2) (pos 2) (pos 1)
row58 = refl

row59 : TypesBroken (block Dollar [] (pos 1 ∷ pos 2 ∷ negsuc 128 ∷ pos 4 ∷ pos 5 ∷ pos 128 ∷ []) [] (port (pos 2) (pos 3) (pos 5) ∷ []) (port (pos 2) (pos 3) (pos 5) ∷ []) 0 0 (false ∷ [])) (pos 2) (pos 2) (pos 3)
row59 = refl

row60 : TypesBroken (block GatedDelay [] (pos 1 ∷ pos 2 ∷ pos 3 ∷ pos 4 ∷ pos 5 ∷ pos 128 ∷ []) [] (port (pos 2) (pos 3) (pos 5) ∷ port (pos 1) (pos 1) (pos 3) ∷ []) (port (pos 2) (pos 3) (pos 5) ∷ []) 0 0 (false ∷ true ∷ [])) (pos 2) (pos 2) (pos 6)
row60 = refl

row61 : TypesBroken (block Register [] (pos 127 ∷ pos 128 ∷ []) [] (port (pos 1) (pos 1) (pos 5) ∷ []) (port (pos 1) (pos 1) (pos 5) ∷ []) 0 0 (false ∷ [])) (pos 2) (pos 2) (pos 2)
row61 = refl

row62 : SizesBroken (block GainBlk (pos 0 ∷ pos 3 ∷ []) [] [] (port (pos 2) (pos 3) (pos 5) ∷ []) (port (pos 3) (pos 2) (pos 5) ∷ []) 0 0 (true ∷ [])) (pos 1) (pos 2) (pos 1)
row62 = refl

row63 : SizesBroken (block AbsValue (pos 0 ∷ []) [] [] (port (pos 2) (pos 3) (pos 5) ∷ []) (port (pos 3) (pos 2) (pos 5) ∷ []) 0 0 (true ∷ [])) (pos 1) (pos 2) (pos 1)
row63 = refl

row64 : SizesBroken (block Signum [] [] [] (port (pos 2) (pos 3) (pos 5) ∷ []) (port (pos 3) (pos 2) (pos 5) ∷ []) 0 0 (true ∷ [])) (pos 1) (pos 2) (pos 1)
row64 = refl

row65 : SizesBroken (block Saturation (negsuc 4 ∷ pos 5 ∷ []) [] [] (port (pos 2) (pos 3) (pos 5) ∷ []) (port (pos 3) (pos 2) (pos 5) ∷ []) 0 0 (true ∷ [])) (pos 1) (pos 2) (pos 1)
row65 = refl

row66 : SizesBroken (block DeadBand (pos 0 ∷ negsuc 4 ∷ pos 5 ∷ []) [] [] (port (pos 2) (pos 3) (pos 5) ∷ []) (port (pos 3) (pos 2) (pos 5) ∷ []) 0 0 (true ∷ [])) (pos 1) (pos 2) (pos 1)
row66 = refl

row67 : SizesBroken (block Shift (pos 7 ∷ pos 0 ∷ []) [] [] (port (pos 2) (pos 3) (pos 5) ∷ []) (port (pos 3) (pos 2) (pos 5) ∷ []) 0 0 (true ∷ [])) (pos 1) (pos 2) (pos 1)
row67 = refl

row68 : SizesBroken (block BitSet (pos 7 ∷ []) [] [] (port (pos 2) (pos 3) (pos 5) ∷ []) (port (pos 3) (pos 2) (pos 5) ∷ []) 0 0 (true ∷ [])) (pos 1) (pos 2) (pos 1)
row68 = refl

row69 : SizesBroken (block BitClear (pos 7 ∷ []) [] [] (port (pos 2) (pos 3) (pos 5) ∷ []) (port (pos 3) (pos 2) (pos 5) ∷ []) 0 0 (true ∷ [])) (pos 1) (pos 2) (pos 1)
row69 = refl

row70 : SizesBroken (block ExtractBits (pos 1 ∷ pos 7 ∷ []) [] [] (port (pos 2) (pos 3) (pos 5) ∷ []) (port (pos 3) (pos 2) (pos 5) ∷ []) 0 0 (true ∷ [])) (pos 1) (pos 2) (pos 1)
row70 = refl

row71 : SizesBroken (block Dollar [] (pos 0 ∷ []) [] (port (pos 2) (pos 3) (pos 5) ∷ []) (port (pos 3) (pos 2) (pos 5) ∷ []) 0 0 (false ∷ [])) (pos 1) (pos 2) (pos 1)
row71 = refl

row72 : SizesBroken (block SampHold [] [] [] (port (pos 2) (pos 3) (pos 5) ∷ []) (port (pos 3) (pos 2) (pos 5) ∷ []) 0 0 (true ∷ [])) (pos 1) (pos 2) (pos 1)
row72 = refl

row73 : SizesBroken (block Summation (pos 0 ∷ pos 1 ∷ negsuc 0 ∷ []) [] [] (port (pos 2) (pos 3) (pos 5) ∷ port (pos 2) (pos 2) (pos 5) ∷ []) (port (pos 2) (pos 3) (pos 5) ∷ []) 0 0 (true ∷ true ∷ [])) (pos 1) (pos 1) (pos 2)
row73 = refl

row74 : SizesBroken (block Summation (pos 0 ∷ pos 1 ∷ negsuc 0 ∷ []) [] [] (port (pos 2) (pos 3) (pos 5) ∷ port (pos 2) (pos 3) (pos 5) ∷ []) (port (pos 1) (pos 3) (pos 5) ∷ []) 0 0 (true ∷ true ∷ [])) (pos 1) (pos 2) (pos 1)
row74 = refl

row75 : SizesBroken (block Product (pos 0 ∷ pos 1 ∷ []) [] [] (port (pos 2) (pos 3) (pos 5) ∷ port (pos 2) (pos 2) (pos 5) ∷ []) (port (pos 2) (pos 3) (pos 5) ∷ []) 0 0 (true ∷ true ∷ [])) (pos 1) (pos 1) (pos 2)
row75 = refl

row76 : SizesBroken (block Product (pos 0 ∷ pos 1 ∷ []) [] [] (port (pos 2) (pos 3) (pos 5) ∷ port (pos 2) (pos 3) (pos 5) ∷ []) (port (pos 1) (pos 3) (pos 5) ∷ []) 0 0 (true ∷ true ∷ [])) (pos 1) (pos 2) (pos 1)
row76 = refl

row77 : SizesBroken (block MaxMin (pos 1 ∷ []) [] [] (port (pos 2) (pos 3) (pos 5) ∷ port (pos 2) (pos 2) (pos 5) ∷ []) (port (pos 2) (pos 3) (pos 5) ∷ []) 0 0 (true ∷ true ∷ [])) (pos 1) (pos 1) (pos 2)
row77 = refl

row78 : SizesBroken (block MaxMin (pos 1 ∷ []) [] [] (port (pos 2) (pos 3) (pos 5) ∷ port (pos 2) (pos 3) (pos 5) ∷ []) (port (pos 1) (pos 3) (pos 5) ∷ []) 0 0 (true ∷ true ∷ [])) (pos 1) (pos 2) (pos 1)
row78 = refl

row79 : SizesBroken (block LogicalOp (pos 0 ∷ pos 0 ∷ []) [] [] (port (pos 2) (pos 3) (pos 5) ∷ port (pos 2) (pos 2) (pos 5) ∷ []) (port (pos 2) (pos 3) (pos 5) ∷ []) 0 0 (true ∷ true ∷ [])) (pos 1) (pos 1) (pos 2)
row79 = refl

row80 : SizesBroken (block LogicalOp (pos 0 ∷ pos 0 ∷ []) [] [] (port (pos 2) (pos 3) (pos 5) ∷ port (pos 2) (pos 3) (pos 5) ∷ []) (port (pos 1) (pos 3) (pos 5) ∷ []) 0 0 (true ∷ true ∷ [])) (pos 1) (pos 2) (pos 1)
row80 = refl

row81 : SizesBroken (block RelationalOp (pos 0 ∷ []) [] [] (port (pos 2) (pos 3) (pos 5) ∷ port (pos 2) (pos 2) (pos 5) ∷ []) (port (pos 2) (pos 3) (pos 4) ∷ []) 0 0 (true ∷ true ∷ [])) (pos 1) (pos 1) (pos 2)
row81 = refl

row82 : SizesBroken (block RelationalOp (pos 0 ∷ []) [] [] (port (pos 2) (pos 3) (pos 5) ∷ port (pos 2) (pos 3) (pos 5) ∷ []) (port (pos 1) (pos 3) (pos 5) ∷ []) 0 0 (true ∷ true ∷ [])) (pos 1) (pos 2) (pos 1)
row82 = refl

row83 : SizesBroken (block Convert (pos 0 ∷ []) [] [] (port (pos 2) (pos 3) (pos 5) ∷ []) (port (pos 6) (pos 1) (pos 8) ∷ []) 0 0 (true ∷ [])) (pos 1) (pos 2) (pos 1)
row83 = refl

row84 : SizesBroken (block Select [] [] [] (port (pos 2) (pos 3) (pos 5) ∷ port (pos 1) (pos 1) (pos 5) ∷ port (pos 2) (pos 3) (pos 5) ∷ []) (port (pos 2) (pos 3) (pos 5) ∷ []) 3 0 (true ∷ true ∷ true ∷ [])) (pos 1) (pos 1) (pos 2)
row84 = refl

row85 : SizesBroken (block Mux [] [] [] (port (pos 2) (pos 2) (pos 5) ∷ port (pos 1) (pos 2) (pos 5) ∷ []) (port (pos 3) (pos 1) (pos 5) ∷ []) 0 0 (true ∷ true ∷ [])) (pos 1) (pos 1) (pos 1)
row85 = refl

row86 : SizesBroken (block Mux [] [] [] (port (pos 2) (pos 1) (pos 5) ∷ port (pos 1) (pos 2) (pos 5) ∷ []) (port (pos 3) (pos 1) (pos 5) ∷ []) 0 0 (true ∷ true ∷ [])) (pos 1) (pos 1) (pos 2)
row86 = refl

row87 : SizesBroken (block Mux [] [] [] (port (pos 2) (pos 1) (pos 5) ∷ port (pos 1) (pos 1) (pos 5) ∷ []) (port (pos 4) (pos 1) (pos 5) ∷ []) 0 0 (true ∷ true ∷ [])) (pos 1) (pos 2) (pos 1)
row87 = refl

row88 : SizesBroken (block Mux [] [] [] (port (pos 2) (pos 1) (pos 5) ∷ port (pos 1) (pos 1) (pos 5) ∷ []) (port (pos 3) (pos 2) (pos 5) ∷ []) 0 0 (true ∷ true ∷ [])) (pos 1) (pos 2) (pos 1)
row88 = refl

row89 : SizesBroken (block Demux [] [] [] (port (pos 4) (pos 1) (pos 5) ∷ []) (port (pos 2) (pos 1) (pos 5) ∷ port (pos 1) (pos 1) (pos 5) ∷ []) 0 0 (true ∷ [])) (pos 1) (pos 1) (pos 1)
row89 = refl

row90 : SizesBroken (block Demux [] [] [] (port (pos 3) (pos 2) (pos 5) ∷ []) (port (pos 2) (pos 1) (pos 5) ∷ port (pos 1) (pos 1) (pos 5) ∷ []) 0 0 (true ∷ [])) (pos 1) (pos 1) (pos 1)
row90 = refl

row91 : SizesBroken (block Demux [] [] [] (port (pos 3) (pos 1) (pos 5) ∷ []) (port (pos 2) (pos 1) (pos 5) ∷ port (pos 2) (pos 2) (pos 5) ∷ []) 0 0 (true ∷ [])) (pos 1) (pos 1) (pos 1)
row91 = refl

row92 : SizesBroken (block Demux [] [] [] (port (pos 3) (pos 1) (pos 5) ∷ []) (port (pos 2) (pos 1) (pos 5) ∷ port (pos 1) (pos 2) (pos 5) ∷ []) 0 0 (true ∷ [])) (pos 1) (pos 2) (pos 2)
row92 = refl

row93 : SizesBroken (block Extractor (pos 6 ∷ pos 1 ∷ []) [] [] (port (pos 2) (pos 3) (pos 5) ∷ []) (port (pos 3) (pos 1) (pos 5) ∷ []) 0 0 (true ∷ [])) (pos 1) (pos 2) (pos 1)
row93 = refl

row94 : SizesBroken (block Extractor (pos 6 ∷ pos 1 ∷ []) [] [] (port (pos 2) (pos 3) (pos 5) ∷ []) (port (pos 2) (pos 2) (pos 5) ∷ []) 0 0 (true ∷ [])) (pos 1) (pos 2) (pos 1)
row94 = refl

row95 : SizesBroken (block Extractor (pos 7 ∷ pos 8 ∷ []) [] [] (port (pos 2) (pos 3) (pos 5) ∷ []) (port (pos 2) (pos 1) (pos 5) ∷ []) 0 0 (true ∷ [])) (pos 2) (pos 1) (pos 1)
row95 = refl

row96 : SizesBroken (block Extractor (pos 6 ∷ pos 7 ∷ []) [] [] (port (pos 2) (pos 3) (pos 5) ∷ []) (port (pos 2) (pos 1) (pos 5) ∷ []) 0 0 (true ∷ [])) (pos 2) (pos 1) (pos 2)
row96 = refl

row97 : SizesBroken (block Switch2 (pos 0 ∷ pos 0 ∷ []) [] [] (port (pos 2) (pos 3) (pos 5) ∷ port (pos 2) (pos 3) (pos 5) ∷ port (pos 2) (pos 3) (pos 5) ∷ []) (port (pos 2) (pos 3) (pos 5) ∷ []) 0 0 (true ∷ true ∷ true ∷ [])) (pos 1) (pos 1) (pos 2)
row97 = refl

row98 : SizesBroken (block Switch2 (pos 0 ∷ pos 0 ∷ []) [] [] (port (pos 2) (pos 3) (pos 5) ∷ port (pos 1) (pos 1) (pos 5) ∷ port (pos 1) (pos 1) (pos 5) ∷ []) (port (pos 2) (pos 3) (pos 5) ∷ []) 0 0 (true ∷ true ∷ true ∷ [])) (pos 1) (pos 1) (pos 3)
row98 = refl

row99 : SizesBroken (block Switch2 (pos 0 ∷ pos 0 ∷ []) [] [] (port (pos 2) (pos 3) (pos 5) ∷ port (pos 1) (pos 1) (pos 8) ∷ port (pos 2) (pos 3) (pos 5) ∷ []) (port (pos 1) (pos 1) (pos 5) ∷ []) 0 0 (true ∷ true ∷ true ∷ [])) (pos 1) (pos 2) (pos 1)
row99 = refl

row100 : SizesBroken (block GatedDelay [] (pos 1 ∷ pos 2 ∷ pos 3 ∷ pos 4 ∷ pos 5 ∷ pos 6 ∷ []) [] (port (pos 2) (pos 3) (pos 5) ∷ port (pos 2) (pos 3) (pos 5) ∷ []) (port (pos 2) (pos 3) (pos 5) ∷ []) 0 0 (false ∷ true ∷ [])) (pos 1) (pos 1) (pos 2)
row100 = refl

row101 : SizesBroken (block GatedDelay [] (pos 1 ∷ pos 2 ∷ pos 3 ∷ pos 4 ∷ pos 5 ∷ pos 6 ∷ []) [] (port (pos 2) (pos 3) (pos 5) ∷ port (pos 1) (pos 1) (pos 3) ∷ []) (port (pos 1) (pos 1) (pos 5) ∷ []) 0 0 (false ∷ true ∷ [])) (pos 1) (pos 2) (pos 1)
row101 = refl

row102 : SizesBroken (block Logic (pos 0 ∷ pos 0 ∷ pos 0 ∷ pos 1 ∷ []) [] [] (port (pos 1) (pos 1) (pos 5) ∷ port (pos 2) (pos 3) (pos 5) ∷ []) (port (pos 1) (pos 1) (pos 8) ∷ []) 0 0 (true ∷ true ∷ [])) (pos 1) (pos 1) (pos 2)
row102 = refl

row103 : SizesBroken (block Logic (pos 0 ∷ pos 0 ∷ pos 0 ∷ pos 1 ∷ []) [] [] (port (pos 1) (pos 1) (pos 5) ∷ port (pos 1) (pos 1) (pos 3) ∷ []) (port (pos 2) (pos 3) (pos 5) ∷ []) 0 0 (true ∷ true ∷ [])) (pos 1) (pos 2) (pos 1)
row103 = refl

row104 : SizesBroken (block Register [] (pos 0 ∷ pos 1 ∷ pos 2 ∷ []) [] (port (pos 2) (pos 3) (pos 5) ∷ []) (port (pos 2) (pos 3) (pos 5) ∷ []) 0 0 (false ∷ [])) (pos 1) (pos 1) (pos 1)
row104 = refl

row105 : SizesBroken (block Register [] (pos 0 ∷ pos 1 ∷ pos 2 ∷ []) [] (port (pos 1) (pos 1) (pos 5) ∷ []) (port (pos 2) (pos 3) (pos 5) ∷ []) 0 0 (false ∷ [])) (pos 1) (pos 2) (pos 1)
row105 = refl

row106 : SizesBroken (block AndLog [] [] [] ([]) (port (pos 1) (pos 2) (pos 3) ∷ []) 2 0 []) (pos 1) (pos 2) (pos 1)
row106 = refl

row107 : SizesBroken (block ModuloCount (pos 10 ∷ []) (pos 0 ∷ []) [] ([]) (port (pos 1) (pos 2) (pos 3) ∷ []) 1 0 []) (pos 1) (pos 2) (pos 1)
row107 = refl

row108 : SizesBroken (block Sensor (pos 1 ∷ []) [] [] ([]) (port (pos 1) (pos 2) (pos 3) ∷ []) 1 0 []) (pos 1) (pos 2) (pos 1)
row108 = refl

row109 : SizesBroken (block EvtVarDly [] [] (negsuc 0 ∷ []) (port (pos 2) (pos 1) (pos 5) ∷ []) ([]) 1 1 (false ∷ [])) (pos 1) (pos 1) (pos 1)
row109 = refl

row110 : SizesBroken (block IfThEl [] [] [] (port (pos 2) (pos 1) (pos 5) ∷ []) ([]) 0 2 (true ∷ [])) (pos 1) (pos 1) (pos 1)
row110 = refl

row111 : SizesBroken (block ESelect [] [] [] (port (pos 2) (pos 1) (pos 5) ∷ []) ([]) 0 3 (true ∷ [])) (pos 1) (pos 1) (pos 1)
row111 = refl

row112 : SizesBroken (block Const (pos 1 ∷ pos 2 ∷ []) [] [] ([]) (port (pos 2) (pos 3) (pos 5) ∷ []) 0 0 []) (pos 2) (pos 1) (pos 2)
row112 = refl

row113 : SizesBroken (block Const (pos 1 ∷ pos 1 ∷ pos 1 ∷ pos 1 ∷ pos 1 ∷ pos 1 ∷ pos 1 ∷ []) [] [] ([]) (port (pos 2) (pos 3) (pos 5) ∷ []) 0 0 []) (pos 2) (pos 1) (pos 7)
row113 = refl

row114 : SizesBroken (block Dollar [] (pos 1 ∷ pos 2 ∷ []) [] (port (pos 2) (pos 3) (pos 5) ∷ []) (port (pos 2) (pos 3) (pos 5) ∷ []) 0 0 (false ∷ [])) (pos 2) (pos 2) (pos 2)
row114 = refl

row115 : SizesBroken (block Dollar [] (pos 1 ∷ pos 2 ∷ []) [] (port (pos 2) (pos 3) (pos 5) ∷ []) (port (pos 1) (pos 1) (pos 5) ∷ []) 0 0 (false ∷ [])) (pos 1) (pos 2) (pos 1)
row115 = refl

row116 : SizesBroken (block GatedDelay [] (pos 1 ∷ pos 2 ∷ pos 3 ∷ pos 4 ∷ pos 5 ∷ []) [] (port (pos 2) (pos 3) (pos 5) ∷ port (pos 1) (pos 1) (pos 3) ∷ []) (port (pos 2) (pos 3) (pos 5) ∷ []) 0 0 (false ∷ true ∷ [])) (pos 2) (pos 2) (pos 5)
row116 = refl

row117 : IsTyped (block Const (pos 7 ∷ []) [] [] ([]) (port (pos 2) (pos 3) (pos 5) ∷ []) 0 0 [])
row117 = refl

row118 : HasStateLength (block Const (pos 7 ∷ []) [] [] ([]) (port (pos 2) (pos 3) (pos 5) ∷ []) 0 0 []) 0
row118 = refl

row119 : IsTyped (block Summation (pos 0 ∷ pos 1 ∷ negsuc 0 ∷ []) [] [] (port (pos 2) (pos 3) (pos 5) ∷ port (pos 2) (pos 3) (pos 5) ∷ []) (port (pos 2) (pos 3) (pos 5) ∷ []) 0 0 (true ∷ true ∷ []))
row119 = refl

row120 : HasStateLength (block Summation (pos 0 ∷ pos 1 ∷ negsuc 0 ∷ []) [] [] (port (pos 2) (pos 3) (pos 5) ∷ port (pos 2) (pos 3) (pos 5) ∷ []) (port (pos 2) (pos 3) (pos 5) ∷ []) 0 0 (true ∷ true ∷ [])) 0
row120 = refl

row121 : IsTyped (block GainBlk (pos 0 ∷ pos 3 ∷ []) [] [] (port (pos 2) (pos 3) (pos 5) ∷ []) (port (pos 2) (pos 3) (pos 5) ∷ []) 0 0 (true ∷ []))
row121 = refl

row122 : HasStateLength (block GainBlk (pos 0 ∷ pos 3 ∷ []) [] [] (port (pos 2) (pos 3) (pos 5) ∷ []) (port (pos 2) (pos 3) (pos 5) ∷ []) 0 0 (true ∷ [])) 0
row122 = refl

row123 : IsTyped (block Product (pos 0 ∷ pos 1 ∷ []) [] [] (port (pos 2) (pos 3) (pos 5) ∷ port (pos 2) (pos 3) (pos 5) ∷ []) (port (pos 2) (pos 3) (pos 5) ∷ []) 0 0 (true ∷ true ∷ []))
row123 = refl

row124 : HasStateLength (block Product (pos 0 ∷ pos 1 ∷ []) [] [] (port (pos 2) (pos 3) (pos 5) ∷ port (pos 2) (pos 3) (pos 5) ∷ []) (port (pos 2) (pos 3) (pos 5) ∷ []) 0 0 (true ∷ true ∷ [])) 0
row124 = refl

row125 : IsTyped (block AbsValue (pos 0 ∷ []) [] [] (port (pos 2) (pos 3) (pos 5) ∷ []) (port (pos 2) (pos 3) (pos 5) ∷ []) 0 0 (true ∷ []))
row125 = refl

row126 : HasStateLength (block AbsValue (pos 0 ∷ []) [] [] (port (pos 2) (pos 3) (pos 5) ∷ []) (port (pos 2) (pos 3) (pos 5) ∷ []) 0 0 (true ∷ [])) 0
row126 = refl

row127 : IsTyped (block Signum [] [] [] (port (pos 2) (pos 3) (pos 5) ∷ []) (port (pos 2) (pos 3) (pos 5) ∷ []) 0 0 (true ∷ []))
row127 = refl

row128 : HasStateLength (block Signum [] [] [] (port (pos 2) (pos 3) (pos 5) ∷ []) (port (pos 2) (pos 3) (pos 5) ∷ []) 0 0 (true ∷ [])) 0
row128 = refl

row129 : IsTyped (block MaxMin (pos 1 ∷ []) [] [] (port (pos 2) (pos 3) (pos 5) ∷ port (pos 2) (pos 3) (pos 5) ∷ []) (port (pos 2) (pos 3) (pos 5) ∷ []) 0 0 (true ∷ true ∷ []))
row129 = refl

row130 : HasStateLength (block MaxMin (pos 1 ∷ []) [] [] (port (pos 2) (pos 3) (pos 5) ∷ port (pos 2) (pos 3) (pos 5) ∷ []) (port (pos 2) (pos 3) (pos 5) ∷ []) 0 0 (true ∷ true ∷ [])) 0
row130 = refl

row131 : IsTyped (block Saturation (negsuc 4 ∷ pos 5 ∷ []) [] [] (port (pos 2) (pos 3) (pos 5) ∷ []) (port (pos 2) (pos 3) (pos 5) ∷ []) 0 0 (true ∷ []))
row131 = refl

row132 : HasStateLength (block Saturation (negsuc 4 ∷ pos 5 ∷ []) [] [] (port (pos 2) (pos 3) (pos 5) ∷ []) (port (pos 2) (pos 3) (pos 5) ∷ []) 0 0 (true ∷ [])) 0
row132 = refl

row133 : IsTyped (block DeadBand (pos 0 ∷ negsuc 4 ∷ pos 5 ∷ []) [] [] (port (pos 2) (pos 3) (pos 5) ∷ []) (port (pos 2) (pos 3) (pos 5) ∷ []) 0 0 (true ∷ []))
row133 = refl

row134 : HasStateLength (block DeadBand (pos 0 ∷ negsuc 4 ∷ pos 5 ∷ []) [] [] (port (pos 2) (pos 3) (pos 5) ∷ []) (port (pos 2) (pos 3) (pos 5) ∷ []) 0 0 (true ∷ [])) 0
row134 = refl

row135 : IsTyped (block Convert (pos 0 ∷ []) [] [] (port (pos 2) (pos 3) (pos 5) ∷ []) (port (pos 2) (pos 3) (pos 8) ∷ []) 0 0 (true ∷ []))
row135 = refl

row136 : HasStateLength (block Convert (pos 0 ∷ []) [] [] (port (pos 2) (pos 3) (pos 5) ∷ []) (port (pos 2) (pos 3) (pos 8) ∷ []) 0 0 (true ∷ [])) 0
row136 = refl

row137 : IsTyped (block Mux [] [] [] (port (pos 2) (pos 1) (pos 5) ∷ port (pos 1) (pos 1) (pos 5) ∷ []) (port (pos 3) (pos 1) (pos 5) ∷ []) 0 0 (true ∷ true ∷ []))
row137 = refl

row138 : HasStateLength (block Mux [] [] [] (port (pos 2) (pos 1) (pos 5) ∷ port (pos 1) (pos 1) (pos 5) ∷ []) (port (pos 3) (pos 1) (pos 5) ∷ []) 0 0 (true ∷ true ∷ [])) 0
row138 = refl

row139 : IsTyped (block Demux [] [] [] (port (pos 3) (pos 1) (pos 5) ∷ []) (port (pos 2) (pos 1) (pos 5) ∷ port (pos 1) (pos 1) (pos 5) ∷ []) 0 0 (true ∷ []))
row139 = refl

row140 : HasStateLength (block Demux [] [] [] (port (pos 3) (pos 1) (pos 5) ∷ []) (port (pos 2) (pos 1) (pos 5) ∷ port (pos 1) (pos 1) (pos 5) ∷ []) 0 0 (true ∷ [])) 0
row140 = refl

row141 : IsTyped (block Extractor (pos 6 ∷ pos 1 ∷ []) [] [] (port (pos 2) (pos 3) (pos 5) ∷ []) (port (pos 2) (pos 1) (pos 5) ∷ []) 0 0 (true ∷ []))
row141 = refl

row142 : HasStateLength (block Extractor (pos 6 ∷ pos 1 ∷ []) [] [] (port (pos 2) (pos 3) (pos 5) ∷ []) (port (pos 2) (pos 1) (pos 5) ∷ []) 0 0 (true ∷ [])) 0
row142 = refl

row143 : IsTyped (block LogicalOp (pos 0 ∷ pos 0 ∷ []) [] [] (port (pos 2) (pos 3) (pos 5) ∷ port (pos 2) (pos 3) (pos 5) ∷ []) (port (pos 2) (pos 3) (pos 5) ∷ []) 0 0 (true ∷ true ∷ []))
row143 = refl

row144 : HasStateLength (block LogicalOp (pos 0 ∷ pos 0 ∷ []) [] [] (port (pos 2) (pos 3) (pos 5) ∷ port (pos 2) (pos 3) (pos 5) ∷ []) (port (pos 2) (pos 3) (pos 5) ∷ []) 0 0 (true ∷ true ∷ [])) 0
row144 = refl

row145 : IsTyped (block RelationalOp (pos 0 ∷ []) [] [] (port (pos 2) (pos 3) (pos 5) ∷ port (pos 2) (pos 3) (pos 5) ∷ []) (port (pos 2) (pos 3) (pos 4) ∷ []) 0 0 (true ∷ true ∷ []))
row145 = refl

row146 : HasStateLength (block RelationalOp (pos 0 ∷ []) [] [] (port (pos 2) (pos 3) (pos 5) ∷ port (pos 2) (pos 3) (pos 5) ∷ []) (port (pos 2) (pos 3) (pos 4) ∷ []) 0 0 (true ∷ true ∷ [])) 0
row146 = refl

row147 : IsTyped (block Shift (pos 7 ∷ pos 0 ∷ []) [] [] (port (pos 2) (pos 3) (pos 5) ∷ []) (port (pos 2) (pos 3) (pos 5) ∷ []) 0 0 (true ∷ []))
row147 = refl

row148 : HasStateLength (block Shift (pos 7 ∷ pos 0 ∷ []) [] [] (port (pos 2) (pos 3) (pos 5) ∷ []) (port (pos 2) (pos 3) (pos 5) ∷ []) 0 0 (true ∷ [])) 0
row148 = refl

row149 : IsTyped (block BitSet (pos 7 ∷ []) [] [] (port (pos 2) (pos 3) (pos 5) ∷ []) (port (pos 2) (pos 3) (pos 5) ∷ []) 0 0 (true ∷ []))
row149 = refl

row150 : HasStateLength (block BitSet (pos 7 ∷ []) [] [] (port (pos 2) (pos 3) (pos 5) ∷ []) (port (pos 2) (pos 3) (pos 5) ∷ []) 0 0 (true ∷ [])) 0
row150 = refl

row151 : IsTyped (block BitClear (pos 7 ∷ []) [] [] (port (pos 2) (pos 3) (pos 5) ∷ []) (port (pos 2) (pos 3) (pos 5) ∷ []) 0 0 (true ∷ []))
row151 = refl

row152 : HasStateLength (block BitClear (pos 7 ∷ []) [] [] (port (pos 2) (pos 3) (pos 5) ∷ []) (port (pos 2) (pos 3) (pos 5) ∷ []) 0 0 (true ∷ [])) 0
row152 = refl

row153 : IsTyped (block ExtractBits (pos 1 ∷ pos 7 ∷ []) [] [] (port (pos 2) (pos 3) (pos 5) ∷ []) (port (pos 2) (pos 3) (pos 5) ∷ []) 0 0 (true ∷ []))
row153 = refl

row154 : HasStateLength (block ExtractBits (pos 1 ∷ pos 7 ∷ []) [] [] (port (pos 2) (pos 3) (pos 5) ∷ []) (port (pos 2) (pos 3) (pos 5) ∷ []) 0 0 (true ∷ [])) 0
row154 = refl

row155 : IsTyped (block Switch2 (pos 0 ∷ pos 0 ∷ []) [] [] (port (pos 2) (pos 3) (pos 5) ∷ port (pos 1) (pos 1) (pos 8) ∷ port (pos 2) (pos 3) (pos 5) ∷ []) (port (pos 2) (pos 3) (pos 5) ∷ []) 0 0 (true ∷ true ∷ true ∷ []))
row155 = refl

row156 : HasStateLength (block Switch2 (pos 0 ∷ pos 0 ∷ []) [] [] (port (pos 2) (pos 3) (pos 5) ∷ port (pos 1) (pos 1) (pos 8) ∷ port (pos 2) (pos 3) (pos 5) ∷ []) (port (pos 2) (pos 3) (pos 5) ∷ []) 0 0 (true ∷ true ∷ true ∷ [])) 0
row156 = refl

row157 : IsTyped (block Select [] [] [] (port (pos 2) (pos 3) (pos 5) ∷ port (pos 2) (pos 3) (pos 5) ∷ port (pos 2) (pos 3) (pos 5) ∷ []) (port (pos 2) (pos 3) (pos 5) ∷ []) 3 0 (true ∷ true ∷ true ∷ []))
row157 = refl

row158 : HasStateLength (block Select [] [] [] (port (pos 2) (pos 3) (pos 5) ∷ port (pos 2) (pos 3) (pos 5) ∷ port (pos 2) (pos 3) (pos 5) ∷ []) (port (pos 2) (pos 3) (pos 5) ∷ []) 3 0 (true ∷ true ∷ true ∷ [])) 0
row158 = refl

row159 : IsTyped (block Logic (pos 0 ∷ pos 0 ∷ pos 0 ∷ pos 1 ∷ []) [] [] (port (pos 1) (pos 1) (pos 5) ∷ port (pos 1) (pos 1) (pos 3) ∷ []) (port (pos 1) (pos 1) (pos 8) ∷ []) 0 0 (true ∷ true ∷ []))
row159 = refl

row160 : HasStateLength (block Logic (pos 0 ∷ pos 0 ∷ pos 0 ∷ pos 1 ∷ []) [] [] (port (pos 1) (pos 1) (pos 5) ∷ port (pos 1) (pos 1) (pos 3) ∷ []) (port (pos 1) (pos 1) (pos 8) ∷ []) 0 0 (true ∷ true ∷ [])) 0
row160 = refl

row161 : IsTyped (block AndLog [] [] [] ([]) (port (pos 1) (pos 1) (pos 3) ∷ []) 2 0 [])
row161 = refl

row162 : HasStateLength (block AndLog [] [] [] ([]) (port (pos 1) (pos 1) (pos 3) ∷ []) 2 0 []) 0
row162 = refl

row163 : IsTyped (block Dollar [] (pos 0 ∷ []) [] (port (pos 2) (pos 3) (pos 5) ∷ []) (port (pos 2) (pos 3) (pos 5) ∷ []) 0 0 (false ∷ []))
row163 = refl

row164 : HasStateLength (block Dollar [] (pos 0 ∷ []) [] (port (pos 2) (pos 3) (pos 5) ∷ []) (port (pos 2) (pos 3) (pos 5) ∷ []) 0 0 (false ∷ [])) 6
row164 = refl

row165 : IsTyped (block SampHold [] [] [] (port (pos 2) (pos 3) (pos 5) ∷ []) (port (pos 2) (pos 3) (pos 5) ∷ []) 0 0 (true ∷ []))
row165 = refl

row166 : HasStateLength (block SampHold [] [] [] (port (pos 2) (pos 3) (pos 5) ∷ []) (port (pos 2) (pos 3) (pos 5) ∷ []) 0 0 (true ∷ [])) 0
row166 = refl

row167 : IsTyped (block Register [] (pos 0 ∷ pos 1 ∷ pos 2 ∷ []) [] (port (pos 1) (pos 1) (pos 5) ∷ []) (port (pos 1) (pos 1) (pos 5) ∷ []) 0 0 (false ∷ []))
row167 = refl

row168 : HasStateLength (block Register [] (pos 0 ∷ pos 1 ∷ pos 2 ∷ []) [] (port (pos 1) (pos 1) (pos 5) ∷ []) (port (pos 1) (pos 1) (pos 5) ∷ []) 0 0 (false ∷ [])) 3
row168 = refl

row169 : IsTyped (block ModuloCount (pos 10 ∷ []) (pos 0 ∷ []) [] ([]) (port (pos 1) (pos 1) (pos 5) ∷ []) 1 0 [])
row169 = refl

row170 : HasStateLength (block ModuloCount (pos 10 ∷ []) (pos 0 ∷ []) [] ([]) (port (pos 1) (pos 1) (pos 5) ∷ []) 1 0 []) 1
row170 = refl

row171 : IsTyped (block GatedDelay [] (pos 1 ∷ pos 2 ∷ pos 3 ∷ pos 4 ∷ pos 5 ∷ pos 6 ∷ []) [] (port (pos 2) (pos 3) (pos 5) ∷ port (pos 1) (pos 1) (pos 3) ∷ []) (port (pos 2) (pos 3) (pos 5) ∷ []) 0 0 (false ∷ true ∷ []))
row171 = refl

row172 : HasStateLength (block GatedDelay [] (pos 1 ∷ pos 2 ∷ pos 3 ∷ pos 4 ∷ pos 5 ∷ pos 6 ∷ []) [] (port (pos 2) (pos 3) (pos 5) ∷ port (pos 1) (pos 1) (pos 3) ∷ []) (port (pos 2) (pos 3) (pos 5) ∷ []) 0 0 (false ∷ true ∷ [])) 6
row172 = refl

row173 : IsTyped (block Sensor (pos 1 ∷ []) [] [] ([]) (port (pos 1) (pos 1) (pos 5) ∷ []) 1 0 [])
row173 = refl

row174 : HasStateLength (block Sensor (pos 1 ∷ []) [] [] ([]) (port (pos 1) (pos 1) (pos 5) ∷ []) 1 0 []) 0
row174 = refl

row175 : IsTyped (block EvtDly (pos 5 ∷ []) [] (pos 0 ∷ []) ([]) ([]) 1 1 [])
row175 = refl

row176 : HasStateLength (block EvtDly (pos 5 ∷ []) [] (pos 0 ∷ []) ([]) ([]) 1 1 []) 0
row176 = refl

row177 : IsTyped (block EvtVarDly [] [] (negsuc 0 ∷ []) (port (pos 1) (pos 1) (pos 5) ∷ []) ([]) 1 1 (false ∷ []))
row177 = refl

row178 : HasStateLength (block EvtVarDly [] [] (negsuc 0 ∷ []) (port (pos 1) (pos 1) (pos 5) ∷ []) ([]) 1 1 (false ∷ [])) 0
row178 = refl

row179 : IsTyped (block IfThEl [] [] [] (port (pos 1) (pos 1) (pos 5) ∷ []) ([]) 0 2 (true ∷ []))
row179 = refl

row180 : HasStateLength (block IfThEl [] [] [] (port (pos 1) (pos 1) (pos 5) ∷ []) ([]) 0 2 (true ∷ [])) 0
row180 = refl

row181 : IsTyped (block ESelect [] [] [] (port (pos 1) (pos 1) (pos 5) ∷ []) ([]) 0 3 (true ∷ []))
row181 = refl

row182 : HasStateLength (block ESelect [] [] [] (port (pos 1) (pos 1) (pos 5) ∷ []) ([]) 0 3 (true ∷ [])) 0
row182 = refl

row183 : IsTyped (block Halt [] [] [] ([]) ([]) 1 0 [])
row183 = refl

row184 : HasStateLength (block Halt [] [] [] ([]) ([]) 1 0 []) 0
row184 = refl

row185 : IsTyped (block Const (pos 1 ∷ pos 2 ∷ pos 3 ∷ pos 4 ∷ pos 5 ∷ pos 6 ∷ []) [] [] ([]) (port (pos 2) (pos 3) (pos 5) ∷ []) 0 0 [])
row185 = refl

row186 : IsTyped (block GainBlk (pos 2 ∷ negsuc 127 ∷ []) [] [] (port (pos 2) (pos 3) (pos 5) ∷ []) (port (pos 2) (pos 3) (pos 5) ∷ []) 1 0 (true ∷ []))
row186 = refl

row187 : IsTyped (block Shift (negsuc 6 ∷ pos 1 ∷ []) [] [] (port (pos 2) (pos 3) (pos 5) ∷ []) (port (pos 2) (pos 3) (pos 5) ∷ []) 0 0 (true ∷ []))
row187 = refl

row188 : IsTyped (block ModuloCount (pos 128 ∷ []) (pos 0 ∷ []) [] ([]) (port (pos 1) (pos 1) (pos 5) ∷ []) 1 0 [])
row188 = refl

row189 : IsTyped (block ModuloCount (pos 256 ∷ []) (pos 0 ∷ []) [] ([]) (port (pos 1) (pos 1) (pos 8) ∷ []) 1 0 [])
row189 = refl

row190 : IsTyped (block Signum [] [] [] (port (pos 16) (pos 16) (pos 5) ∷ []) (port (pos 16) (pos 16) (pos 5) ∷ []) 0 0 (true ∷ []))
row190 = refl

row191 : IsTyped (block Extractor (pos 360000 ∷ pos 1 ∷ []) [] [] (port (pos 600) (pos 600) (pos 5) ∷ []) (port (pos 2) (pos 1) (pos 5) ∷ []) 0 0 (true ∷ []))
row191 = refl

row192 : IsTyped (block Dollar [] (pos 0 ∷ []) [] (port (pos 2) (pos 3) (pos 5) ∷ []) (port (pos 2) (pos 3) (pos 5) ∷ []) 0 0 (true ∷ []))
row192 = refl

row193 : IsTyped (block GatedDelay [] (pos 1 ∷ pos 2 ∷ pos 3 ∷ pos 4 ∷ pos 5 ∷ pos 6 ∷ []) [] (port (pos 2) (pos 3) (pos 5) ∷ port (pos 1) (pos 1) (pos 3) ∷ []) (port (pos 2) (pos 3) (pos 5) ∷ []) 0 0 (false ∷ true ∷ []))
row193 = refl

row194 : IsTyped (block GatedDelay [] (pos 1 ∷ pos 2 ∷ pos 3 ∷ pos 4 ∷ pos 5 ∷ pos 6 ∷ []) [] (port (pos 2) (pos 3) (pos 5) ∷ port (pos 1) (pos 1) (pos 3) ∷ []) (port (pos 2) (pos 3) (pos 5) ∷ []) 0 0 (true ∷ true ∷ []))
row194 = refl

row195 : IsNotTyped (block GatedDelay [] (pos 1 ∷ pos 2 ∷ pos 3 ∷ pos 4 ∷ pos 5 ∷ pos 6 ∷ []) [] (port (pos 2) (pos 3) (pos 5) ∷ port (pos 1) (pos 1) (pos 3) ∷ []) (port (pos 2) (pos 3) (pos 5) ∷ []) 0 0 (true ∷ false ∷ []))
row195 = refl

row196 : IsNotTyped (block GatedDelay [] (pos 1 ∷ pos 2 ∷ pos 3 ∷ pos 4 ∷ pos 5 ∷ pos 6 ∷ []) [] (port (pos 2) (pos 3) (pos 5) ∷ port (pos 1) (pos 1) (pos 3) ∷ []) (port (pos 2) (pos 3) (pos 5) ∷ []) 0 0 (false ∷ false ∷ []))
row196 = refl

row197 : IsNotTyped (block GatedDelay [] (pos 1 ∷ pos 2 ∷ pos 3 ∷ pos 4 ∷ pos 5 ∷ pos 6 ∷ []) [] (port (pos 2) (pos 3) (pos 5) ∷ port (pos 1) (pos 1) (pos 3) ∷ []) (port (pos 2) (pos 3) (pos 5) ∷ []) 0 0 (true ∷ []))
row197 = refl

row198 : IsNotTyped (block GatedDelay [] (pos 1 ∷ pos 2 ∷ pos 3 ∷ pos 4 ∷ pos 5 ∷ pos 6 ∷ []) [] (port (pos 2) (pos 3) (pos 5) ∷ port (pos 1) (pos 1) (pos 3) ∷ []) (port (pos 2) (pos 3) (pos 5) ∷ []) 0 0 (false ∷ true ∷ true ∷ []))
row198 = refl

row199 : IsNotTyped (block Switch2 (pos 0 ∷ pos 0 ∷ []) [] [] (port (pos 2) (pos 3) (pos 5) ∷ port (pos 1) (pos 1) (pos 8) ∷ port (pos 2) (pos 3) (pos 5) ∷ []) (port (pos 2) (pos 3) (pos 5) ∷ []) 0 0 (true ∷ true ∷ false ∷ []))
row199 = refl

row200 : IsNotTyped (block Switch2 (pos 0 ∷ pos 0 ∷ []) [] [] (port (pos 2) (pos 3) (pos 5) ∷ port (pos 1) (pos 1) (pos 8) ∷ port (pos 2) (pos 3) (pos 5) ∷ []) (port (pos 2) (pos 3) (pos 5) ∷ []) 0 0 (true ∷ true ∷ true ∷ true ∷ []))
row200 = refl

row201 : IsNotTyped (block Dollar [] (pos 0 ∷ []) [] (port (pos 2) (pos 3) (pos 5) ∷ []) (port (pos 2) (pos 3) (pos 5) ∷ []) 0 0 [])
row201 = refl

row202 : IsNotTyped (block Const (pos 7 ∷ []) [] [] ([]) (port (pos 2) (pos 3) (pos 5) ∷ []) 0 0 (false ∷ []))
row202 = refl

row203 : IsNotTyped (block Signum [] [] [] (port (pos 2) (pos 3) (pos 5) ∷ []) (port (pos 2) (pos 3) (pos 5) ∷ []) 0 0 [])
row203 = refl

row204 : IsNotTyped (block Signum [] [] [] (port (pos 257) (pos 1) (pos 5) ∷ []) (port (pos 257) (pos 1) (pos 5) ∷ []) 0 0 (true ∷ []))
row204 = refl

row205 : IsNotTyped (block Signum [] [] [] (port (pos 0) (pos 3) (pos 5) ∷ []) (port (pos 0) (pos 3) (pos 5) ∷ []) 0 0 (true ∷ []))
row205 = refl

row206 : IsNotTyped (block Signum [] [] [] (port (pos 2) (negsuc 0) (pos 5) ∷ []) (port (pos 2) (negsuc 0) (pos 5) ∷ []) 0 0 (true ∷ []))
row206 = refl

row207 : IsNotTyped (block Signum [] [] [] (port (pos 2) (pos 3) (pos 2) ∷ []) (port (pos 2) (pos 3) (pos 2) ∷ []) 0 0 (true ∷ []))
row207 = refl

row208 : IsNotTyped (block Signum [] [] [] (port (pos 2) (pos 3) (pos 9) ∷ []) (port (pos 2) (pos 3) (pos 9) ∷ []) 0 0 (true ∷ []))
row208 = refl

row209 : IsNotTyped (block Signum [] [] [] (port (pos 2) (pos 3) (pos 0) ∷ []) (port (pos 2) (pos 3) (pos 0) ∷ []) 0 0 (true ∷ []))
row209 = refl

row210 : IsNotTyped (block Signum [] [] [] (port (pos 2) (pos 3) (negsuc 0) ∷ []) (port (pos 2) (pos 3) (negsuc 0) ∷ []) 0 0 (true ∷ []))
row210 = refl

row211 : IsNotTyped (block Signum [] [] [] (port (pos 2) (pos 3) (pos 5) ∷ []) (port (pos 2) (pos 3) (pos 5) ∷ []) 0 0 (false ∷ []))
row211 = refl

row212 : IsNotTyped (block Signum [] (pos 0 ∷ []) [] (port (pos 2) (pos 3) (pos 5) ∷ []) (port (pos 2) (pos 3) (pos 5) ∷ []) 0 0 (true ∷ []))
row212 = refl

row213 : IsNotTyped (block Signum [] [] (pos 0 ∷ []) (port (pos 2) (pos 3) (pos 5) ∷ []) (port (pos 2) (pos 3) (pos 5) ∷ []) 0 0 (true ∷ []))
row213 = refl

row214 : IsNotTyped (block Signum (pos 0 ∷ []) [] [] (port (pos 2) (pos 3) (pos 5) ∷ []) (port (pos 2) (pos 3) (pos 5) ∷ []) 0 0 (true ∷ []))
row214 = refl

row215 : IsNotTyped (block Signum [] [] [] (port (pos 2) (pos 3) (pos 5) ∷ []) (port (pos 2) (pos 3) (pos 5) ∷ []) 2 0 (true ∷ []))
row215 = refl

row216 : IsNotTyped (block Signum [] [] [] (port (pos 2) (pos 3) (pos 5) ∷ []) (port (pos 2) (pos 3) (pos 5) ∷ []) 0 1 (true ∷ []))
row216 = refl

row217 : IsNotTyped (block GainBlk (pos 3 ∷ pos 1 ∷ []) [] [] (port (pos 2) (pos 3) (pos 5) ∷ []) (port (pos 2) (pos 3) (pos 5) ∷ []) 0 0 (true ∷ []))
row217 = refl

row218 : IsNotTyped (block GainBlk (pos 0 ∷ pos 128 ∷ []) [] [] (port (pos 2) (pos 3) (pos 5) ∷ []) (port (pos 2) (pos 3) (pos 5) ∷ []) 0 0 (true ∷ []))
row218 = refl

row219 : IsNotTyped (block EvtVarDly [] [] (pos 2147483648 ∷ []) (port (pos 1) (pos 1) (pos 5) ∷ []) ([]) 1 1 (false ∷ []))
row219 = refl

row220 : IsNotTyped (block ModuloCount (pos 10 ∷ []) (pos 10 ∷ []) [] ([]) (port (pos 1) (pos 1) (pos 5) ∷ []) 1 0 [])
row220 = refl

row221 : IsNotTyped (block Mux [] [] [] (port (pos 2) (pos 1) (pos 5) ∷ port (pos 1) (pos 1) (pos 5) ∷ []) (port (pos 4) (pos 1) (pos 5) ∷ []) 0 0 (true ∷ true ∷ []))
row221 = refl
