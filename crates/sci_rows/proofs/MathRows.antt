-- Rows of the table of the arithmetic kinds, 1 to 13, each of a typed spec. Written by tools/math_rows.py.
use Rattle.std.proofs.Common.{◌≡◌, ℕ, ℤ, pos, negsuc, List, [], ◌∷◌, length, true, refl}
use Rattle.sci_forms.specs.declared.Kind.{Kind}
use Rattle.sci_forms.specs.declared.Kind.TheVariants.{Const, Summation, GainBlk, Product, AbsValue, Signum, MaxMin, Saturation, DeadBand, Convert, Mux, Demux, Extractor}
use Rattle.sci_forms.specs.declared.ports.Port.{Port}
use Rattle.sci_forms.specs.declared.spec.Spec.{Spec}
use Rattle.sci_forms.specs.Forms.{own_feed}
use Rattle.sci_forms.specs.Typed.{typed}
use Rattle.sci_kinds.specs.Table.{Values, NoFit, NoQuotient, out}

abbrev port : ℕ → ℕ → ℕ → Port
port r c ty = record { rows = pos r; cols = pos c; ty = pos ty }

-- a block by its kind, parameters, inputs and outputs
abbrev block : Kind → List ℤ → List Port → List Port → Spec
block k ps is os = record { kind = k; params = ps; state = []; firing = []; ins = is; outs = os; evtin = 0; evtout = 0; feed = own_feed k (length is) }

-- on inputs a block gives these values
abbrev Gives : Spec → List ℤ → List ℤ → Type 0
Gives s u vs = (typed s ≡ true) × (out s [] 0 u ≡ Values vs)

-- it stops, since the first value that can't be given doesn't fit
abbrev NeverFits : Spec → List ℤ → Type 0
NeverFits s u = (typed s ≡ true) × (out s [] 0 u ≡ NoFit)

-- it stops, since the first value that can't be given has the divisor 0
abbrev HasNoQuotient : Spec → List ℤ → Type 0
HasNoQuotient s u = (typed s ≡ true) × (out s [] 0 u ≡ NoQuotient)

-- ---- rows

row1 : Gives (block Const (pos 7 ∷ negsuc 7 ∷ pos 9 ∷ negsuc 9 ∷ []) ([]) (port 2 2 4 ∷ [])) ([]) (pos 7 ∷ negsuc 7 ∷ pos 9 ∷ negsuc 9 ∷ [])
row1 = (refl, refl)

row2 : Gives (block Const (negsuc 4 ∷ []) ([]) (port 3 1 5 ∷ [])) ([]) (negsuc 4 ∷ negsuc 4 ∷ negsuc 4 ∷ [])
row2 = (refl, refl)

row3 : Gives (block Const (pos 4294967295 ∷ []) ([]) (port 1 1 6 ∷ [])) ([]) (pos 4294967295 ∷ [])
row3 = (refl, refl)

row4 : Gives (block Summation (pos 0 ∷ pos 1 ∷ negsuc 0 ∷ pos 1 ∷ []) (port 1 2 5 ∷ port 1 2 5 ∷ port 1 2 5 ∷ []) (port 1 2 5 ∷ [])) (pos 100 ∷ negsuc 99 ∷ negsuc 49 ∷ pos 100 ∷ negsuc 19 ∷ pos 7 ∷ []) (negsuc 125 ∷ pos 63 ∷ [])
row4 = (refl, refl)

row5 : Gives (block Summation (pos 0 ∷ pos 1 ∷ negsuc 0 ∷ []) (port 2 1 8 ∷ port 2 1 8 ∷ []) (port 2 1 8 ∷ [])) (pos 5 ∷ pos 200 ∷ pos 6 ∷ pos 1 ∷ []) (pos 255 ∷ pos 199 ∷ [])
row5 = (refl, refl)

row6 : Gives (block Summation (pos 1 ∷ pos 1 ∷ negsuc 0 ∷ pos 1 ∷ []) (port 1 2 5 ∷ port 1 2 5 ∷ port 1 2 5 ∷ []) (port 1 2 5 ∷ [])) (pos 100 ∷ negsuc 99 ∷ negsuc 49 ∷ pos 100 ∷ negsuc 19 ∷ pos 7 ∷ []) (pos 127 ∷ negsuc 127 ∷ [])
row6 = (refl, refl)

row7 : Gives (block Summation (pos 1 ∷ pos 1 ∷ negsuc 0 ∷ []) (port 2 1 8 ∷ port 2 1 8 ∷ []) (port 2 1 8 ∷ [])) (pos 5 ∷ pos 200 ∷ pos 6 ∷ pos 1 ∷ []) (pos 0 ∷ pos 199 ∷ [])
row7 = (refl, refl)

row8 : Gives (block Summation (pos 1 ∷ pos 1 ∷ pos 1 ∷ negsuc 0 ∷ []) (port 1 1 5 ∷ port 1 1 5 ∷ port 1 1 5 ∷ []) (port 1 1 5 ∷ [])) (pos 100 ∷ pos 100 ∷ pos 100 ∷ []) (pos 100 ∷ [])
row8 = (refl, refl)

row9 : Gives (block Summation (pos 1 ∷ negsuc 0 ∷ negsuc 0 ∷ []) (port 1 1 5 ∷ port 1 1 5 ∷ []) (port 1 1 5 ∷ [])) (negsuc 127 ∷ pos 1 ∷ []) (pos 127 ∷ [])
row9 = (refl, refl)

row10 : Gives (block Summation (pos 2 ∷ pos 1 ∷ pos 1 ∷ negsuc 0 ∷ []) (port 1 1 5 ∷ port 1 1 5 ∷ port 1 1 5 ∷ []) (port 1 1 5 ∷ [])) (pos 100 ∷ pos 100 ∷ pos 100 ∷ []) (pos 100 ∷ [])
row10 = (refl, refl)

row11 : Gives (block Summation (pos 2 ∷ negsuc 0 ∷ negsuc 0 ∷ []) (port 1 1 5 ∷ port 1 1 5 ∷ []) (port 1 1 5 ∷ [])) (negsuc 127 ∷ pos 1 ∷ []) (pos 127 ∷ [])
row11 = (refl, refl)

row12 : NeverFits (block Summation (pos 2 ∷ pos 1 ∷ pos 1 ∷ []) (port 2 1 5 ∷ port 2 1 5 ∷ []) (port 2 1 5 ∷ [])) (pos 1 ∷ pos 100 ∷ pos 2 ∷ pos 100 ∷ [])
row12 = (refl, refl)

row13 : Gives (block GainBlk (pos 0 ∷ negsuc 2 ∷ []) (port 1 3 5 ∷ []) (port 1 3 5 ∷ [])) (pos 50 ∷ negsuc 49 ∷ pos 1 ∷ []) (pos 106 ∷ negsuc 105 ∷ negsuc 2 ∷ [])
row13 = (refl, refl)

row14 : Gives (block GainBlk (pos 0 ∷ pos 2 ∷ []) (port 2 1 8 ∷ []) (port 2 1 8 ∷ [])) (pos 200 ∷ pos 3 ∷ []) (pos 144 ∷ pos 6 ∷ [])
row14 = (refl, refl)

row15 : Gives (block GainBlk (pos 1 ∷ negsuc 2 ∷ []) (port 1 3 5 ∷ []) (port 1 3 5 ∷ [])) (pos 50 ∷ negsuc 49 ∷ pos 1 ∷ []) (negsuc 127 ∷ pos 127 ∷ negsuc 2 ∷ [])
row15 = (refl, refl)

row16 : Gives (block GainBlk (pos 1 ∷ pos 2 ∷ []) (port 2 1 8 ∷ []) (port 2 1 8 ∷ [])) (pos 200 ∷ pos 3 ∷ []) (pos 255 ∷ pos 6 ∷ [])
row16 = (refl, refl)

row17 : Gives (block GainBlk (pos 2 ∷ negsuc 1 ∷ []) (port 2 1 5 ∷ []) (port 2 1 5 ∷ [])) (pos 64 ∷ negsuc 62 ∷ []) (negsuc 127 ∷ pos 126 ∷ [])
row17 = (refl, refl)

row18 : NeverFits (block GainBlk (pos 2 ∷ pos 2 ∷ []) (port 2 1 5 ∷ []) (port 2 1 5 ∷ [])) (pos 3 ∷ pos 64 ∷ [])
row18 = (refl, refl)

row19 : Gives (block Product (pos 0 ∷ pos 1 ∷ []) (port 3 1 5 ∷ port 3 1 5 ∷ []) (port 3 1 5 ∷ [])) (pos 100 ∷ negsuc 99 ∷ pos 7 ∷ pos 2 ∷ pos 2 ∷ negsuc 2 ∷ []) (negsuc 55 ∷ pos 56 ∷ negsuc 20 ∷ [])
row19 = (refl, refl)

row20 : Gives (block Product (pos 0 ∷ negsuc 0 ∷ []) (port 7 1 5 ∷ port 7 1 5 ∷ []) (port 7 1 5 ∷ [])) (pos 7 ∷ negsuc 6 ∷ pos 7 ∷ negsuc 6 ∷ negsuc 127 ∷ negsuc 127 ∷ pos 0 ∷ pos 2 ∷ pos 2 ∷ negsuc 1 ∷ negsuc 1 ∷ pos 3 ∷ negsuc 0 ∷ pos 4 ∷ []) (pos 3 ∷ negsuc 2 ∷ negsuc 2 ∷ pos 3 ∷ negsuc 41 ∷ negsuc 127 ∷ pos 0 ∷ [])
row20 = (refl, refl)

row21 : Gives (block Product (pos 1 ∷ pos 1 ∷ []) (port 3 1 5 ∷ port 3 1 5 ∷ []) (port 3 1 5 ∷ [])) (pos 100 ∷ negsuc 99 ∷ pos 7 ∷ pos 2 ∷ pos 2 ∷ negsuc 2 ∷ []) (pos 127 ∷ negsuc 127 ∷ negsuc 20 ∷ [])
row21 = (refl, refl)

row22 : Gives (block Product (pos 1 ∷ negsuc 0 ∷ []) (port 7 1 5 ∷ port 7 1 5 ∷ []) (port 7 1 5 ∷ [])) (pos 7 ∷ negsuc 6 ∷ pos 7 ∷ negsuc 6 ∷ negsuc 127 ∷ negsuc 127 ∷ pos 0 ∷ pos 2 ∷ pos 2 ∷ negsuc 1 ∷ negsuc 1 ∷ pos 3 ∷ negsuc 0 ∷ pos 4 ∷ []) (pos 3 ∷ negsuc 2 ∷ negsuc 2 ∷ pos 3 ∷ negsuc 41 ∷ pos 127 ∷ pos 0 ∷ [])
row22 = (refl, refl)

row23 : NeverFits (block Product (pos 2 ∷ pos 1 ∷ []) (port 2 1 5 ∷ port 2 1 5 ∷ []) (port 2 1 5 ∷ [])) (pos 5 ∷ pos 16 ∷ pos 0 ∷ pos 8 ∷ [])
row23 = (refl, refl)

row24 : NeverFits (block Product (pos 2 ∷ negsuc 0 ∷ []) (port 2 1 5 ∷ port 2 1 5 ∷ []) (port 2 1 5 ∷ [])) (pos 6 ∷ negsuc 127 ∷ pos 3 ∷ negsuc 0 ∷ [])
row24 = (refl, refl)

row25 : HasNoQuotient (block Product (pos 0 ∷ negsuc 0 ∷ []) (port 2 1 5 ∷ port 2 1 5 ∷ []) (port 2 1 5 ∷ [])) (pos 6 ∷ pos 0 ∷ pos 3 ∷ pos 0 ∷ [])
row25 = (refl, refl)

row26 : NeverFits (block Product (pos 2 ∷ negsuc 0 ∷ []) (port 2 1 5 ∷ port 2 1 5 ∷ []) (port 2 1 5 ∷ [])) (negsuc 127 ∷ pos 1 ∷ negsuc 0 ∷ pos 0 ∷ [])
row26 = (refl, refl)

row27 : HasNoQuotient (block Product (pos 2 ∷ negsuc 0 ∷ []) (port 2 1 5 ∷ port 2 1 5 ∷ []) (port 2 1 5 ∷ [])) (pos 1 ∷ negsuc 127 ∷ pos 0 ∷ negsuc 0 ∷ [])
row27 = (refl, refl)

row28 : Gives (block AbsValue (pos 0 ∷ []) (port 2 2 5 ∷ []) (port 2 2 5 ∷ [])) (negsuc 127 ∷ negsuc 4 ∷ pos 0 ∷ pos 7 ∷ []) (negsuc 127 ∷ pos 5 ∷ pos 0 ∷ pos 7 ∷ [])
row28 = (refl, refl)

row29 : Gives (block AbsValue (pos 1 ∷ []) (port 2 2 5 ∷ []) (port 2 2 5 ∷ [])) (negsuc 127 ∷ negsuc 4 ∷ pos 0 ∷ pos 7 ∷ []) (pos 127 ∷ pos 5 ∷ pos 0 ∷ pos 7 ∷ [])
row29 = (refl, refl)

row30 : Gives (block AbsValue (pos 2 ∷ []) (port 2 1 5 ∷ []) (port 2 1 5 ∷ [])) (negsuc 126 ∷ pos 7 ∷ []) (pos 127 ∷ pos 7 ∷ [])
row30 = (refl, refl)

row31 : NeverFits (block AbsValue (pos 2 ∷ []) (port 2 1 5 ∷ []) (port 2 1 5 ∷ [])) (pos 7 ∷ negsuc 127 ∷ [])
row31 = (refl, refl)

row32 : Gives (block AbsValue (pos 2 ∷ []) (port 2 1 8 ∷ []) (port 2 1 8 ∷ [])) (pos 200 ∷ pos 0 ∷ []) (pos 200 ∷ pos 0 ∷ [])
row32 = (refl, refl)

row33 : Gives (block Signum ([]) (port 5 1 4 ∷ []) (port 5 1 4 ∷ [])) (negsuc 299 ∷ negsuc 0 ∷ pos 0 ∷ pos 1 ∷ pos 300 ∷ []) (negsuc 0 ∷ negsuc 0 ∷ pos 0 ∷ pos 1 ∷ pos 1 ∷ [])
row33 = (refl, refl)

row34 : Gives (block Signum ([]) (port 3 1 8 ∷ []) (port 3 1 8 ∷ [])) (pos 0 ∷ pos 1 ∷ pos 255 ∷ []) (pos 0 ∷ pos 1 ∷ pos 1 ∷ [])
row34 = (refl, refl)

row35 : Gives (block MaxMin (pos 1 ∷ []) (port 2 3 5 ∷ port 2 3 5 ∷ port 2 3 5 ∷ []) (port 2 3 5 ∷ [])) (pos 3 ∷ negsuc 2 ∷ pos 9 ∷ negsuc 8 ∷ pos 1 ∷ pos 1 ∷ pos 5 ∷ negsuc 4 ∷ pos 1 ∷ negsuc 0 ∷ pos 2 ∷ pos 2 ∷ pos 4 ∷ negsuc 3 ∷ pos 2 ∷ negsuc 6 ∷ negsuc 6 ∷ pos 9 ∷ []) (pos 3 ∷ negsuc 4 ∷ pos 1 ∷ negsuc 8 ∷ negsuc 6 ∷ pos 1 ∷ [])
row35 = (refl, refl)

row36 : Gives (block MaxMin (pos 1 ∷ []) (port 2 1 8 ∷ port 2 1 8 ∷ []) (port 2 1 8 ∷ [])) (pos 255 ∷ pos 0 ∷ pos 1 ∷ pos 255 ∷ []) (pos 1 ∷ pos 0 ∷ [])
row36 = (refl, refl)

row37 : Gives (block MaxMin (pos 2 ∷ []) (port 2 3 5 ∷ port 2 3 5 ∷ port 2 3 5 ∷ []) (port 2 3 5 ∷ [])) (pos 3 ∷ negsuc 2 ∷ pos 9 ∷ negsuc 8 ∷ pos 1 ∷ pos 1 ∷ pos 5 ∷ negsuc 4 ∷ pos 1 ∷ negsuc 0 ∷ pos 2 ∷ pos 2 ∷ pos 4 ∷ negsuc 3 ∷ pos 2 ∷ negsuc 6 ∷ negsuc 6 ∷ pos 9 ∷ []) (pos 5 ∷ negsuc 2 ∷ pos 9 ∷ negsuc 0 ∷ pos 2 ∷ pos 9 ∷ [])
row37 = (refl, refl)

row38 : Gives (block MaxMin (pos 2 ∷ []) (port 2 1 8 ∷ port 2 1 8 ∷ []) (port 2 1 8 ∷ [])) (pos 255 ∷ pos 0 ∷ pos 1 ∷ pos 255 ∷ []) (pos 255 ∷ pos 255 ∷ [])
row38 = (refl, refl)

row39 : Gives (block Saturation (negsuc 4 ∷ pos 9 ∷ []) (port 7 1 5 ∷ []) (port 7 1 5 ∷ [])) (negsuc 127 ∷ negsuc 5 ∷ negsuc 4 ∷ pos 0 ∷ pos 9 ∷ pos 10 ∷ pos 127 ∷ []) (negsuc 4 ∷ negsuc 4 ∷ negsuc 4 ∷ pos 0 ∷ pos 9 ∷ pos 9 ∷ pos 9 ∷ [])
row39 = (refl, refl)

row40 : Gives (block Saturation (pos 10 ∷ pos 200 ∷ []) (port 3 1 8 ∷ []) (port 3 1 8 ∷ [])) (pos 0 ∷ pos 10 ∷ pos 201 ∷ []) (pos 10 ∷ pos 10 ∷ pos 200 ∷ [])
row40 = (refl, refl)

row41 : Gives (block DeadBand (pos 1 ∷ negsuc 4 ∷ pos 9 ∷ []) (port 2 4 5 ∷ []) (port 2 4 5 ∷ [])) (negsuc 127 ∷ negsuc 5 ∷ negsuc 4 ∷ pos 0 ∷ pos 3 ∷ pos 9 ∷ pos 10 ∷ pos 127 ∷ []) (negsuc 122 ∷ negsuc 0 ∷ pos 0 ∷ pos 0 ∷ pos 0 ∷ pos 0 ∷ pos 1 ∷ pos 118 ∷ [])
row41 = (refl, refl)

row42 : Gives (block DeadBand (pos 0 ∷ pos 5 ∷ pos 10 ∷ []) (port 5 1 8 ∷ []) (port 5 1 8 ∷ [])) (pos 0 ∷ pos 5 ∷ pos 7 ∷ pos 10 ∷ pos 12 ∷ []) (pos 251 ∷ pos 0 ∷ pos 0 ∷ pos 0 ∷ pos 2 ∷ [])
row42 = (refl, refl)

row43 : Gives (block DeadBand (pos 0 ∷ negsuc 99 ∷ negsuc 99 ∷ []) (port 1 1 5 ∷ []) (port 1 1 5 ∷ [])) (pos 127 ∷ []) (negsuc 28 ∷ [])
row43 = (refl, refl)

row44 : Gives (block DeadBand (pos 0 ∷ pos 100 ∷ pos 100 ∷ []) (port 1 1 5 ∷ []) (port 1 1 5 ∷ [])) (negsuc 127 ∷ []) (pos 28 ∷ [])
row44 = (refl, refl)

row45 : Gives (block DeadBand (pos 1 ∷ negsuc 99 ∷ negsuc 99 ∷ []) (port 1 1 5 ∷ []) (port 1 1 5 ∷ [])) (pos 127 ∷ []) (pos 127 ∷ [])
row45 = (refl, refl)

row46 : Gives (block DeadBand (pos 1 ∷ pos 100 ∷ pos 100 ∷ []) (port 1 1 5 ∷ []) (port 1 1 5 ∷ [])) (negsuc 127 ∷ []) (negsuc 127 ∷ [])
row46 = (refl, refl)

row47 : NeverFits (block DeadBand (pos 2 ∷ negsuc 99 ∷ negsuc 99 ∷ []) (port 1 1 5 ∷ []) (port 1 1 5 ∷ [])) (pos 127 ∷ [])
row47 = (refl, refl)

row48 : NeverFits (block DeadBand (pos 2 ∷ pos 100 ∷ pos 100 ∷ []) (port 1 1 5 ∷ []) (port 1 1 5 ∷ [])) (negsuc 127 ∷ [])
row48 = (refl, refl)

row49 : Gives (block Convert (pos 0 ∷ []) (port 2 2 4 ∷ []) (port 2 2 5 ∷ [])) (pos 300 ∷ negsuc 299 ∷ pos 127 ∷ negsuc 128 ∷ []) (pos 44 ∷ negsuc 43 ∷ pos 127 ∷ pos 127 ∷ [])
row49 = (refl, refl)

row50 : Gives (block Convert (pos 0 ∷ []) (port 2 1 5 ∷ []) (port 2 1 8 ∷ [])) (negsuc 0 ∷ pos 5 ∷ []) (pos 255 ∷ pos 5 ∷ [])
row50 = (refl, refl)

row51 : Gives (block Convert (pos 0 ∷ []) (port 1 1 6 ∷ []) (port 1 1 3 ∷ [])) (pos 4294967295 ∷ []) (negsuc 0 ∷ [])
row51 = (refl, refl)

row52 : Gives (block Convert (pos 1 ∷ []) (port 2 2 4 ∷ []) (port 2 2 5 ∷ [])) (pos 300 ∷ negsuc 299 ∷ pos 127 ∷ negsuc 128 ∷ []) (pos 127 ∷ negsuc 127 ∷ pos 127 ∷ negsuc 127 ∷ [])
row52 = (refl, refl)

row53 : Gives (block Convert (pos 1 ∷ []) (port 2 1 5 ∷ []) (port 2 1 8 ∷ [])) (negsuc 0 ∷ pos 5 ∷ []) (pos 0 ∷ pos 5 ∷ [])
row53 = (refl, refl)

row54 : Gives (block Convert (pos 1 ∷ []) (port 1 1 6 ∷ []) (port 1 1 3 ∷ [])) (pos 4294967295 ∷ []) (pos 2147483647 ∷ [])
row54 = (refl, refl)

row55 : Gives (block Convert (pos 2 ∷ []) (port 2 1 4 ∷ []) (port 2 1 5 ∷ [])) (pos 127 ∷ negsuc 127 ∷ []) (pos 127 ∷ negsuc 127 ∷ [])
row55 = (refl, refl)

row56 : NeverFits (block Convert (pos 2 ∷ []) (port 2 1 4 ∷ []) (port 2 1 5 ∷ [])) (negsuc 127 ∷ pos 128 ∷ [])
row56 = (refl, refl)

row57 : Gives (block Mux ([]) (port 1 1 4 ∷ port 3 1 4 ∷ port 2 1 4 ∷ []) (port 6 1 4 ∷ [])) (pos 9 ∷ pos 1 ∷ negsuc 1 ∷ pos 3 ∷ pos 4 ∷ negsuc 4 ∷ []) (pos 9 ∷ pos 1 ∷ negsuc 1 ∷ pos 3 ∷ pos 4 ∷ negsuc 4 ∷ [])
row57 = (refl, refl)

row58 : Gives (block Demux ([]) (port 6 1 4 ∷ []) (port 1 1 4 ∷ port 3 1 4 ∷ port 2 1 4 ∷ [])) (pos 9 ∷ pos 1 ∷ negsuc 1 ∷ pos 3 ∷ pos 4 ∷ negsuc 4 ∷ []) (pos 9 ∷ pos 1 ∷ negsuc 1 ∷ pos 3 ∷ pos 4 ∷ negsuc 4 ∷ [])
row58 = (refl, refl)

row59 : Gives (block Extractor (pos 4 ∷ pos 1 ∷ pos 1 ∷ pos 3 ∷ pos 2 ∷ []) (port 2 2 5 ∷ []) (port 5 1 5 ∷ [])) (pos 10 ∷ negsuc 19 ∷ pos 30 ∷ negsuc 39 ∷ []) (negsuc 39 ∷ pos 10 ∷ pos 10 ∷ pos 30 ∷ negsuc 19 ∷ [])
row59 = (refl, refl)

row60 : Gives (block Summation (pos 0 ∷ pos 1 ∷ pos 1 ∷ negsuc 0 ∷ []) (port 4 1 3 ∷ port 4 1 3 ∷ port 4 1 3 ∷ []) (port 4 1 3 ∷ [])) (pos 2147483647 ∷ pos 2147483647 ∷ negsuc 2147483647 ∷ negsuc 2147483647 ∷ pos 0 ∷ pos 1 ∷ pos 0 ∷ pos 0 ∷ pos 0 ∷ pos 0 ∷ pos 0 ∷ pos 1 ∷ []) (pos 2147483647 ∷ negsuc 2147483647 ∷ negsuc 2147483647 ∷ pos 2147483647 ∷ [])
row60 = (refl, refl)

row61 : Gives (block Summation (pos 1 ∷ pos 1 ∷ pos 1 ∷ negsuc 0 ∷ []) (port 4 1 3 ∷ port 4 1 3 ∷ port 4 1 3 ∷ []) (port 4 1 3 ∷ [])) (pos 2147483647 ∷ pos 2147483647 ∷ negsuc 2147483647 ∷ negsuc 2147483647 ∷ pos 0 ∷ pos 1 ∷ pos 0 ∷ pos 0 ∷ pos 0 ∷ pos 0 ∷ pos 0 ∷ pos 1 ∷ []) (pos 2147483647 ∷ pos 2147483647 ∷ negsuc 2147483647 ∷ negsuc 2147483647 ∷ [])
row61 = (refl, refl)

row62 : Gives (block Summation (pos 0 ∷ pos 1 ∷ pos 1 ∷ negsuc 0 ∷ []) (port 4 1 4 ∷ port 4 1 4 ∷ port 4 1 4 ∷ []) (port 4 1 4 ∷ [])) (pos 32767 ∷ pos 32767 ∷ negsuc 32767 ∷ negsuc 32767 ∷ pos 0 ∷ pos 1 ∷ pos 0 ∷ pos 0 ∷ pos 0 ∷ pos 0 ∷ pos 0 ∷ pos 1 ∷ []) (pos 32767 ∷ negsuc 32767 ∷ negsuc 32767 ∷ pos 32767 ∷ [])
row62 = (refl, refl)

row63 : Gives (block Summation (pos 1 ∷ pos 1 ∷ pos 1 ∷ negsuc 0 ∷ []) (port 4 1 4 ∷ port 4 1 4 ∷ port 4 1 4 ∷ []) (port 4 1 4 ∷ [])) (pos 32767 ∷ pos 32767 ∷ negsuc 32767 ∷ negsuc 32767 ∷ pos 0 ∷ pos 1 ∷ pos 0 ∷ pos 0 ∷ pos 0 ∷ pos 0 ∷ pos 0 ∷ pos 1 ∷ []) (pos 32767 ∷ pos 32767 ∷ negsuc 32767 ∷ negsuc 32767 ∷ [])
row63 = (refl, refl)

row64 : Gives (block Summation (pos 0 ∷ pos 1 ∷ pos 1 ∷ negsuc 0 ∷ []) (port 4 1 5 ∷ port 4 1 5 ∷ port 4 1 5 ∷ []) (port 4 1 5 ∷ [])) (pos 127 ∷ pos 127 ∷ negsuc 127 ∷ negsuc 127 ∷ pos 0 ∷ pos 1 ∷ pos 0 ∷ pos 0 ∷ pos 0 ∷ pos 0 ∷ pos 0 ∷ pos 1 ∷ []) (pos 127 ∷ negsuc 127 ∷ negsuc 127 ∷ pos 127 ∷ [])
row64 = (refl, refl)

row65 : Gives (block Summation (pos 1 ∷ pos 1 ∷ pos 1 ∷ negsuc 0 ∷ []) (port 4 1 5 ∷ port 4 1 5 ∷ port 4 1 5 ∷ []) (port 4 1 5 ∷ [])) (pos 127 ∷ pos 127 ∷ negsuc 127 ∷ negsuc 127 ∷ pos 0 ∷ pos 1 ∷ pos 0 ∷ pos 0 ∷ pos 0 ∷ pos 0 ∷ pos 0 ∷ pos 1 ∷ []) (pos 127 ∷ pos 127 ∷ negsuc 127 ∷ negsuc 127 ∷ [])
row65 = (refl, refl)

row66 : Gives (block Summation (pos 0 ∷ pos 1 ∷ pos 1 ∷ negsuc 0 ∷ []) (port 4 1 6 ∷ port 4 1 6 ∷ port 4 1 6 ∷ []) (port 4 1 6 ∷ [])) (pos 4294967295 ∷ pos 4294967295 ∷ pos 0 ∷ pos 0 ∷ pos 0 ∷ pos 1 ∷ pos 0 ∷ pos 0 ∷ pos 0 ∷ pos 0 ∷ pos 0 ∷ pos 1 ∷ []) (pos 4294967295 ∷ pos 0 ∷ pos 0 ∷ pos 4294967295 ∷ [])
row66 = (refl, refl)

row67 : Gives (block Summation (pos 1 ∷ pos 1 ∷ pos 1 ∷ negsuc 0 ∷ []) (port 4 1 6 ∷ port 4 1 6 ∷ port 4 1 6 ∷ []) (port 4 1 6 ∷ [])) (pos 4294967295 ∷ pos 4294967295 ∷ pos 0 ∷ pos 0 ∷ pos 0 ∷ pos 1 ∷ pos 0 ∷ pos 0 ∷ pos 0 ∷ pos 0 ∷ pos 0 ∷ pos 1 ∷ []) (pos 4294967295 ∷ pos 4294967295 ∷ pos 0 ∷ pos 0 ∷ [])
row67 = (refl, refl)

row68 : Gives (block Summation (pos 0 ∷ pos 1 ∷ pos 1 ∷ negsuc 0 ∷ []) (port 4 1 7 ∷ port 4 1 7 ∷ port 4 1 7 ∷ []) (port 4 1 7 ∷ [])) (pos 65535 ∷ pos 65535 ∷ pos 0 ∷ pos 0 ∷ pos 0 ∷ pos 1 ∷ pos 0 ∷ pos 0 ∷ pos 0 ∷ pos 0 ∷ pos 0 ∷ pos 1 ∷ []) (pos 65535 ∷ pos 0 ∷ pos 0 ∷ pos 65535 ∷ [])
row68 = (refl, refl)

row69 : Gives (block Summation (pos 1 ∷ pos 1 ∷ pos 1 ∷ negsuc 0 ∷ []) (port 4 1 7 ∷ port 4 1 7 ∷ port 4 1 7 ∷ []) (port 4 1 7 ∷ [])) (pos 65535 ∷ pos 65535 ∷ pos 0 ∷ pos 0 ∷ pos 0 ∷ pos 1 ∷ pos 0 ∷ pos 0 ∷ pos 0 ∷ pos 0 ∷ pos 0 ∷ pos 1 ∷ []) (pos 65535 ∷ pos 65535 ∷ pos 0 ∷ pos 0 ∷ [])
row69 = (refl, refl)

row70 : Gives (block Summation (pos 0 ∷ pos 1 ∷ pos 1 ∷ negsuc 0 ∷ []) (port 4 1 8 ∷ port 4 1 8 ∷ port 4 1 8 ∷ []) (port 4 1 8 ∷ [])) (pos 255 ∷ pos 255 ∷ pos 0 ∷ pos 0 ∷ pos 0 ∷ pos 1 ∷ pos 0 ∷ pos 0 ∷ pos 0 ∷ pos 0 ∷ pos 0 ∷ pos 1 ∷ []) (pos 255 ∷ pos 0 ∷ pos 0 ∷ pos 255 ∷ [])
row70 = (refl, refl)

row71 : Gives (block Summation (pos 1 ∷ pos 1 ∷ pos 1 ∷ negsuc 0 ∷ []) (port 4 1 8 ∷ port 4 1 8 ∷ port 4 1 8 ∷ []) (port 4 1 8 ∷ [])) (pos 255 ∷ pos 255 ∷ pos 0 ∷ pos 0 ∷ pos 0 ∷ pos 1 ∷ pos 0 ∷ pos 0 ∷ pos 0 ∷ pos 0 ∷ pos 0 ∷ pos 1 ∷ []) (pos 255 ∷ pos 255 ∷ pos 0 ∷ pos 0 ∷ [])
row71 = (refl, refl)
