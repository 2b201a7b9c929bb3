-- Rows of the kinds with states, sensors, delays and branches, each of a typed spec. Written by tools/time_rows.py.
use Rattle.std.proofs.Common.{◌≡◌, ℕ, ℤ, pos, negsuc, List, [], ◌∷◌, length, true, refl}
use Rattle.sci_forms.specs.declared.Kind.{Kind}
use Rattle.sci_forms.specs.declared.Kind.TheVariants.{Dollar, SampHold, Register, ModuloCount, GatedDelay, Sensor, EvtDly, EvtVarDly, IfThEl, ESelect, Halt}
use Rattle.sci_forms.specs.declared.ports.Port.{Port}
use Rattle.sci_forms.specs.declared.spec.Spec.{Spec}
use Rattle.sci_forms.specs.Forms.{own_feed}
use Rattle.sci_forms.specs.Typed.{typed}
use Rattle.sci_kinds.specs.Table.{Values, out, next, delay, branch, first_state, first_held}

abbrev port : ℕ → ℕ → ℕ → Port
port rows cols ty = record { rows = pos rows; cols = pos cols; ty = pos ty }

-- a block by its kind, parameters, state, first dates, inputs, outputs and counts of activation ports
abbrev block : Kind → List ℤ → List ℤ → List ℤ → List Port → List Port → ℕ → ℕ → Spec
block k ps xs fs is os a b = record { kind = k; params = ps; state = xs; firing = fs; ins = is; outs = os; evtin = a; evtout = b; feed = own_feed k (length is) }

-- the state after steps on these inputs, one after the other
abbrev after : Spec → ℕ → List ℤ → List (List ℤ) → List ℤ
after s m x [] = x
after s m x (u ∷ us) = after s m (next s x m u) us

-- a block begins in this state
abbrev Starts : Spec → List ℤ → Type 0
Starts s x = (typed s ≡ true) × (first_state s ≡ x)

-- before its first activation a block holds these values
abbrev Holds : Spec → List ℤ → Type 0
Holds s vs = (typed s ≡ true) × (first_held s ≡ vs)

-- from a state, a mask and inputs a block gives these values
abbrev Gives : Spec → List ℤ → ℕ → List ℤ → List ℤ → Type 0
Gives s x m u vs = (typed s ≡ true) × (out s x m u ≡ Values vs)

-- from its first state a block comes to this state by steps on these inputs
abbrev Reaches : Spec → ℕ → List (List ℤ) → List ℤ → Type 0
Reaches s m us y = (typed s ≡ true) × (after s m (first_state s) us ≡ y)

abbrev Delays : Spec → List ℤ → ℤ → Type 0
Delays s u d = (typed s ≡ true) × (delay s 1 u ≡ d)

abbrev Takes : Spec → List ℤ → ℕ → Type 0
Takes s u b = (typed s ≡ true) × (branch s u ≡ b)

-- ---- rows

row1 : Starts (block Dollar ([]) (pos 1 ∷ negsuc 1 ∷ pos 3 ∷ negsuc 3 ∷ []) ([]) (port 2 2 4 ∷ []) (port 2 2 4 ∷ []) 0 0) (pos 1 ∷ negsuc 1 ∷ pos 3 ∷ negsuc 3 ∷ [])
row1 = (refl, refl)

row2 : Holds (block Dollar ([]) (pos 1 ∷ negsuc 1 ∷ pos 3 ∷ negsuc 3 ∷ []) ([]) (port 2 2 4 ∷ []) (port 2 2 4 ∷ []) 0 0) (pos 1 ∷ negsuc 1 ∷ pos 3 ∷ negsuc 3 ∷ [])
row2 = (refl, refl)

row3 : Gives (block Dollar ([]) (pos 1 ∷ negsuc 1 ∷ pos 3 ∷ negsuc 3 ∷ []) ([]) (port 2 2 4 ∷ []) (port 2 2 4 ∷ []) 0 0) (pos 1 ∷ negsuc 1 ∷ pos 3 ∷ negsuc 3 ∷ []) 0 (pos 5 ∷ negsuc 5 ∷ pos 7 ∷ negsuc 7 ∷ []) (pos 1 ∷ negsuc 1 ∷ pos 3 ∷ negsuc 3 ∷ [])
row3 = (refl, refl)

row4 : Reaches (block Dollar ([]) (pos 1 ∷ negsuc 1 ∷ pos 3 ∷ negsuc 3 ∷ []) ([]) (port 2 2 4 ∷ []) (port 2 2 4 ∷ []) 0 0) 0 ((pos 5 ∷ negsuc 5 ∷ pos 7 ∷ negsuc 7 ∷ []) ∷ []) (pos 5 ∷ negsuc 5 ∷ pos 7 ∷ negsuc 7 ∷ [])
row4 = (refl, refl)

row5 : Gives (block Dollar ([]) (pos 1 ∷ negsuc 1 ∷ pos 3 ∷ negsuc 3 ∷ []) ([]) (port 2 2 4 ∷ []) (port 2 2 4 ∷ []) 0 0) (pos 5 ∷ negsuc 5 ∷ pos 7 ∷ negsuc 7 ∷ []) 0 (pos 32767 ∷ negsuc 32767 ∷ pos 0 ∷ pos 1 ∷ []) (pos 5 ∷ negsuc 5 ∷ pos 7 ∷ negsuc 7 ∷ [])
row5 = (refl, refl)

row6 : Reaches (block Dollar ([]) (pos 1 ∷ negsuc 1 ∷ pos 3 ∷ negsuc 3 ∷ []) ([]) (port 2 2 4 ∷ []) (port 2 2 4 ∷ []) 0 0) 0 ((pos 5 ∷ negsuc 5 ∷ pos 7 ∷ negsuc 7 ∷ []) ∷ (pos 32767 ∷ negsuc 32767 ∷ pos 0 ∷ pos 1 ∷ []) ∷ []) (pos 32767 ∷ negsuc 32767 ∷ pos 0 ∷ pos 1 ∷ [])
row6 = (refl, refl)

row7 : Gives (block Dollar ([]) (pos 1 ∷ negsuc 1 ∷ pos 3 ∷ negsuc 3 ∷ []) ([]) (port 2 2 4 ∷ []) (port 2 2 4 ∷ []) 0 0) (pos 32767 ∷ negsuc 32767 ∷ pos 0 ∷ pos 1 ∷ []) 0 (negsuc 0 ∷ negsuc 1 ∷ negsuc 2 ∷ negsuc 3 ∷ []) (pos 32767 ∷ negsuc 32767 ∷ pos 0 ∷ pos 1 ∷ [])
row7 = (refl, refl)

row8 : Reaches (block Dollar ([]) (pos 1 ∷ negsuc 1 ∷ pos 3 ∷ negsuc 3 ∷ []) ([]) (port 2 2 4 ∷ []) (port 2 2 4 ∷ []) 0 0) 0 ((pos 5 ∷ negsuc 5 ∷ pos 7 ∷ negsuc 7 ∷ []) ∷ (pos 32767 ∷ negsuc 32767 ∷ pos 0 ∷ pos 1 ∷ []) ∷ (negsuc 0 ∷ negsuc 1 ∷ negsuc 2 ∷ negsuc 3 ∷ []) ∷ []) (negsuc 0 ∷ negsuc 1 ∷ negsuc 2 ∷ negsuc 3 ∷ [])
row8 = (refl, refl)

row9 : Starts (block GatedDelay ([]) (pos 1 ∷ negsuc 1 ∷ pos 3 ∷ negsuc 3 ∷ []) ([]) (port 2 2 4 ∷ port 1 1 5 ∷ []) (port 2 2 4 ∷ []) 0 0) (pos 1 ∷ negsuc 1 ∷ pos 3 ∷ negsuc 3 ∷ [])
row9 = (refl, refl)

row10 : Holds (block GatedDelay ([]) (pos 1 ∷ negsuc 1 ∷ pos 3 ∷ negsuc 3 ∷ []) ([]) (port 2 2 4 ∷ port 1 1 5 ∷ []) (port 2 2 4 ∷ []) 0 0) (pos 0 ∷ pos 0 ∷ pos 0 ∷ pos 0 ∷ [])
row10 = (refl, refl)

row11 : Gives (block GatedDelay ([]) (pos 1 ∷ negsuc 1 ∷ pos 3 ∷ negsuc 3 ∷ []) ([]) (port 2 2 4 ∷ port 1 1 5 ∷ []) (port 2 2 4 ∷ []) 0 0) (pos 1 ∷ negsuc 1 ∷ pos 3 ∷ negsuc 3 ∷ []) 0 (pos 5 ∷ negsuc 5 ∷ pos 7 ∷ negsuc 7 ∷ negsuc 0 ∷ []) (pos 0 ∷ pos 0 ∷ pos 0 ∷ pos 0 ∷ [])
row11 = (refl, refl)

row12 : Reaches (block GatedDelay ([]) (pos 1 ∷ negsuc 1 ∷ pos 3 ∷ negsuc 3 ∷ []) ([]) (port 2 2 4 ∷ port 1 1 5 ∷ []) (port 2 2 4 ∷ []) 0 0) 0 ((pos 5 ∷ negsuc 5 ∷ pos 7 ∷ negsuc 7 ∷ negsuc 0 ∷ []) ∷ []) (pos 5 ∷ negsuc 5 ∷ pos 7 ∷ negsuc 7 ∷ [])
row12 = (refl, refl)

row13 : Gives (block GatedDelay ([]) (pos 1 ∷ negsuc 1 ∷ pos 3 ∷ negsuc 3 ∷ []) ([]) (port 2 2 4 ∷ port 1 1 5 ∷ []) (port 2 2 4 ∷ []) 0 0) (pos 5 ∷ negsuc 5 ∷ pos 7 ∷ negsuc 7 ∷ []) 0 (pos 32767 ∷ negsuc 32767 ∷ pos 0 ∷ pos 1 ∷ pos 0 ∷ []) (pos 0 ∷ pos 0 ∷ pos 0 ∷ pos 0 ∷ [])
row13 = (refl, refl)

row14 : Reaches (block GatedDelay ([]) (pos 1 ∷ negsuc 1 ∷ pos 3 ∷ negsuc 3 ∷ []) ([]) (port 2 2 4 ∷ port 1 1 5 ∷ []) (port 2 2 4 ∷ []) 0 0) 0 ((pos 5 ∷ negsuc 5 ∷ pos 7 ∷ negsuc 7 ∷ negsuc 0 ∷ []) ∷ (pos 32767 ∷ negsuc 32767 ∷ pos 0 ∷ pos 1 ∷ pos 0 ∷ []) ∷ []) (pos 32767 ∷ negsuc 32767 ∷ pos 0 ∷ pos 1 ∷ [])
row14 = (refl, refl)

row15 : Gives (block GatedDelay ([]) (pos 1 ∷ negsuc 1 ∷ pos 3 ∷ negsuc 3 ∷ []) ([]) (port 2 2 4 ∷ port 1 1 5 ∷ []) (port 2 2 4 ∷ []) 0 0) (pos 32767 ∷ negsuc 32767 ∷ pos 0 ∷ pos 1 ∷ []) 0 (negsuc 0 ∷ negsuc 1 ∷ negsuc 2 ∷ negsuc 3 ∷ pos 1 ∷ []) (pos 32767 ∷ negsuc 32767 ∷ pos 0 ∷ pos 1 ∷ [])
row15 = (refl, refl)

row16 : Reaches (block GatedDelay ([]) (pos 1 ∷ negsuc 1 ∷ pos 3 ∷ negsuc 3 ∷ []) ([]) (port 2 2 4 ∷ port 1 1 5 ∷ []) (port 2 2 4 ∷ []) 0 0) 0 ((pos 5 ∷ negsuc 5 ∷ pos 7 ∷ negsuc 7 ∷ negsuc 0 ∷ []) ∷ (pos 32767 ∷ negsuc 32767 ∷ pos 0 ∷ pos 1 ∷ pos 0 ∷ []) ∷ (negsuc 0 ∷ negsuc 1 ∷ negsuc 2 ∷ negsuc 3 ∷ pos 1 ∷ []) ∷ []) (negsuc 0 ∷ negsuc 1 ∷ negsuc 2 ∷ negsuc 3 ∷ [])
row16 = (refl, refl)

row17 : Starts (block Dollar ([]) (pos 9 ∷ []) ([]) (port 2 2 4 ∷ []) (port 2 2 4 ∷ []) 0 0) (pos 9 ∷ pos 9 ∷ pos 9 ∷ pos 9 ∷ [])
row17 = (refl, refl)

row18 : Holds (block Dollar ([]) (pos 9 ∷ []) ([]) (port 2 2 4 ∷ []) (port 2 2 4 ∷ []) 0 0) (pos 9 ∷ pos 9 ∷ pos 9 ∷ pos 9 ∷ [])
row18 = (refl, refl)

row19 : Gives (block Dollar ([]) (pos 9 ∷ []) ([]) (port 2 2 4 ∷ []) (port 2 2 4 ∷ []) 0 0) (pos 9 ∷ pos 9 ∷ pos 9 ∷ pos 9 ∷ []) 0 (pos 5 ∷ negsuc 5 ∷ pos 7 ∷ negsuc 7 ∷ []) (pos 9 ∷ pos 9 ∷ pos 9 ∷ pos 9 ∷ [])
row19 = (refl, refl)

row20 : Reaches (block Dollar ([]) (pos 9 ∷ []) ([]) (port 2 2 4 ∷ []) (port 2 2 4 ∷ []) 0 0) 0 ((pos 5 ∷ negsuc 5 ∷ pos 7 ∷ negsuc 7 ∷ []) ∷ []) (pos 5 ∷ negsuc 5 ∷ pos 7 ∷ negsuc 7 ∷ [])
row20 = (refl, refl)

row21 : Gives (block Dollar ([]) (pos 9 ∷ []) ([]) (port 2 2 4 ∷ []) (port 2 2 4 ∷ []) 0 0) (pos 5 ∷ negsuc 5 ∷ pos 7 ∷ negsuc 7 ∷ []) 0 (pos 32767 ∷ negsuc 32767 ∷ pos 0 ∷ pos 1 ∷ []) (pos 5 ∷ negsuc 5 ∷ pos 7 ∷ negsuc 7 ∷ [])
row21 = (refl, refl)

row22 : Reaches (block Dollar ([]) (pos 9 ∷ []) ([]) (port 2 2 4 ∷ []) (port 2 2 4 ∷ []) 0 0) 0 ((pos 5 ∷ negsuc 5 ∷ pos 7 ∷ negsuc 7 ∷ []) ∷ (pos 32767 ∷ negsuc 32767 ∷ pos 0 ∷ pos 1 ∷ []) ∷ []) (pos 32767 ∷ negsuc 32767 ∷ pos 0 ∷ pos 1 ∷ [])
row22 = (refl, refl)

row23 : Gives (block Dollar ([]) (pos 9 ∷ []) ([]) (port 2 2 4 ∷ []) (port 2 2 4 ∷ []) 0 0) (pos 32767 ∷ negsuc 32767 ∷ pos 0 ∷ pos 1 ∷ []) 0 (negsuc 0 ∷ negsuc 1 ∷ negsuc 2 ∷ negsuc 3 ∷ []) (pos 32767 ∷ negsuc 32767 ∷ pos 0 ∷ pos 1 ∷ [])
row23 = (refl, refl)

row24 : Reaches (block Dollar ([]) (pos 9 ∷ []) ([]) (port 2 2 4 ∷ []) (port 2 2 4 ∷ []) 0 0) 0 ((pos 5 ∷ negsuc 5 ∷ pos 7 ∷ negsuc 7 ∷ []) ∷ (pos 32767 ∷ negsuc 32767 ∷ pos 0 ∷ pos 1 ∷ []) ∷ (negsuc 0 ∷ negsuc 1 ∷ negsuc 2 ∷ negsuc 3 ∷ []) ∷ []) (negsuc 0 ∷ negsuc 1 ∷ negsuc 2 ∷ negsuc 3 ∷ [])
row24 = (refl, refl)

row25 : Starts (block GatedDelay ([]) (pos 9 ∷ []) ([]) (port 2 2 4 ∷ port 1 1 5 ∷ []) (port 2 2 4 ∷ []) 0 0) (pos 9 ∷ pos 9 ∷ pos 9 ∷ pos 9 ∷ [])
row25 = (refl, refl)

row26 : Holds (block GatedDelay ([]) (pos 9 ∷ []) ([]) (port 2 2 4 ∷ port 1 1 5 ∷ []) (port 2 2 4 ∷ []) 0 0) (pos 0 ∷ pos 0 ∷ pos 0 ∷ pos 0 ∷ [])
row26 = (refl, refl)

row27 : Gives (block GatedDelay ([]) (pos 9 ∷ []) ([]) (port 2 2 4 ∷ port 1 1 5 ∷ []) (port 2 2 4 ∷ []) 0 0) (pos 9 ∷ pos 9 ∷ pos 9 ∷ pos 9 ∷ []) 0 (pos 5 ∷ negsuc 5 ∷ pos 7 ∷ negsuc 7 ∷ negsuc 0 ∷ []) (pos 0 ∷ pos 0 ∷ pos 0 ∷ pos 0 ∷ [])
row27 = (refl, refl)

row28 : Reaches (block GatedDelay ([]) (pos 9 ∷ []) ([]) (port 2 2 4 ∷ port 1 1 5 ∷ []) (port 2 2 4 ∷ []) 0 0) 0 ((pos 5 ∷ negsuc 5 ∷ pos 7 ∷ negsuc 7 ∷ negsuc 0 ∷ []) ∷ []) (pos 5 ∷ negsuc 5 ∷ pos 7 ∷ negsuc 7 ∷ [])
row28 = (refl, refl)

row29 : Gives (block GatedDelay ([]) (pos 9 ∷ []) ([]) (port 2 2 4 ∷ port 1 1 5 ∷ []) (port 2 2 4 ∷ []) 0 0) (pos 5 ∷ negsuc 5 ∷ pos 7 ∷ negsuc 7 ∷ []) 0 (pos 32767 ∷ negsuc 32767 ∷ pos 0 ∷ pos 1 ∷ pos 0 ∷ []) (pos 0 ∷ pos 0 ∷ pos 0 ∷ pos 0 ∷ [])
row29 = (refl, refl)

row30 : Reaches (block GatedDelay ([]) (pos 9 ∷ []) ([]) (port 2 2 4 ∷ port 1 1 5 ∷ []) (port 2 2 4 ∷ []) 0 0) 0 ((pos 5 ∷ negsuc 5 ∷ pos 7 ∷ negsuc 7 ∷ negsuc 0 ∷ []) ∷ (pos 32767 ∷ negsuc 32767 ∷ pos 0 ∷ pos 1 ∷ pos 0 ∷ []) ∷ []) (pos 32767 ∷ negsuc 32767 ∷ pos 0 ∷ pos 1 ∷ [])
row30 = (refl, refl)

row31 : Gives (block GatedDelay ([]) (pos 9 ∷ []) ([]) (port 2 2 4 ∷ port 1 1 5 ∷ []) (port 2 2 4 ∷ []) 0 0) (pos 32767 ∷ negsuc 32767 ∷ pos 0 ∷ pos 1 ∷ []) 0 (negsuc 0 ∷ negsuc 1 ∷ negsuc 2 ∷ negsuc 3 ∷ pos 1 ∷ []) (pos 32767 ∷ negsuc 32767 ∷ pos 0 ∷ pos 1 ∷ [])
row31 = (refl, refl)

row32 : Reaches (block GatedDelay ([]) (pos 9 ∷ []) ([]) (port 2 2 4 ∷ port 1 1 5 ∷ []) (port 2 2 4 ∷ []) 0 0) 0 ((pos 5 ∷ negsuc 5 ∷ pos 7 ∷ negsuc 7 ∷ negsuc 0 ∷ []) ∷ (pos 32767 ∷ negsuc 32767 ∷ pos 0 ∷ pos 1 ∷ pos 0 ∷ []) ∷ (negsuc 0 ∷ negsuc 1 ∷ negsuc 2 ∷ negsuc 3 ∷ pos 1 ∷ []) ∷ []) (negsuc 0 ∷ negsuc 1 ∷ negsuc 2 ∷ negsuc 3 ∷ [])
row32 = (refl, refl)

row33 : Gives (block GatedDelay ([]) (pos 6 ∷ negsuc 6 ∷ []) ([]) (port 1 2 3 ∷ port 1 1 3 ∷ []) (port 1 2 3 ∷ []) 0 0) (pos 6 ∷ negsuc 6 ∷ []) 0 (pos 40 ∷ pos 50 ∷ negsuc 2147483647 ∷ []) (pos 0 ∷ pos 0 ∷ [])
row33 = (refl, refl)

row34 : Gives (block GatedDelay ([]) (pos 6 ∷ negsuc 6 ∷ []) ([]) (port 1 2 3 ∷ port 1 1 3 ∷ []) (port 1 2 3 ∷ []) 0 0) (pos 6 ∷ negsuc 6 ∷ []) 0 (pos 40 ∷ pos 50 ∷ negsuc 0 ∷ []) (pos 0 ∷ pos 0 ∷ [])
row34 = (refl, refl)

row35 : Gives (block GatedDelay ([]) (pos 6 ∷ negsuc 6 ∷ []) ([]) (port 1 2 3 ∷ port 1 1 3 ∷ []) (port 1 2 3 ∷ []) 0 0) (pos 6 ∷ negsuc 6 ∷ []) 0 (pos 40 ∷ pos 50 ∷ pos 0 ∷ []) (pos 0 ∷ pos 0 ∷ [])
row35 = (refl, refl)

row36 : Gives (block GatedDelay ([]) (pos 6 ∷ negsuc 6 ∷ []) ([]) (port 1 2 3 ∷ port 1 1 3 ∷ []) (port 1 2 3 ∷ []) 0 0) (pos 6 ∷ negsuc 6 ∷ []) 0 (pos 40 ∷ pos 50 ∷ pos 1 ∷ []) (pos 6 ∷ negsuc 6 ∷ [])
row36 = (refl, refl)

row37 : Gives (block GatedDelay ([]) (pos 6 ∷ negsuc 6 ∷ []) ([]) (port 1 2 3 ∷ port 1 1 3 ∷ []) (port 1 2 3 ∷ []) 0 0) (pos 6 ∷ negsuc 6 ∷ []) 0 (pos 40 ∷ pos 50 ∷ pos 2147483647 ∷ []) (pos 6 ∷ negsuc 6 ∷ [])
row37 = (refl, refl)

row38 : Gives (block GatedDelay ([]) (pos 6 ∷ negsuc 6 ∷ []) ([]) (port 1 2 3 ∷ port 1 1 8 ∷ []) (port 1 2 3 ∷ []) 0 0) (pos 6 ∷ negsuc 6 ∷ []) 0 (pos 40 ∷ pos 50 ∷ pos 0 ∷ []) (pos 0 ∷ pos 0 ∷ [])
row38 = (refl, refl)

row39 : Gives (block GatedDelay ([]) (pos 6 ∷ negsuc 6 ∷ []) ([]) (port 1 2 3 ∷ port 1 1 8 ∷ []) (port 1 2 3 ∷ []) 0 0) (pos 6 ∷ negsuc 6 ∷ []) 0 (pos 40 ∷ pos 50 ∷ pos 1 ∷ []) (pos 6 ∷ negsuc 6 ∷ [])
row39 = (refl, refl)

row40 : Gives (block GatedDelay ([]) (pos 6 ∷ negsuc 6 ∷ []) ([]) (port 1 2 3 ∷ port 1 1 8 ∷ []) (port 1 2 3 ∷ []) 0 0) (pos 6 ∷ negsuc 6 ∷ []) 0 (pos 40 ∷ pos 50 ∷ pos 255 ∷ []) (pos 6 ∷ negsuc 6 ∷ [])
row40 = (refl, refl)

row41 : Starts (block SampHold ([]) ([]) ([]) (port 2 2 4 ∷ []) (port 2 2 4 ∷ []) 0 0) ([])
row41 = (refl, refl)

row42 : Holds (block SampHold ([]) ([]) ([]) (port 2 2 4 ∷ []) (port 2 2 4 ∷ []) 0 0) (pos 0 ∷ pos 0 ∷ pos 0 ∷ pos 0 ∷ [])
row42 = (refl, refl)

row43 : Gives (block SampHold ([]) ([]) ([]) (port 2 2 4 ∷ []) (port 2 2 4 ∷ []) 0 0) ([]) 0 (pos 5 ∷ negsuc 5 ∷ pos 7 ∷ negsuc 7 ∷ []) (pos 5 ∷ negsuc 5 ∷ pos 7 ∷ negsuc 7 ∷ [])
row43 = (refl, refl)

row44 : Gives (block SampHold ([]) ([]) ([]) (port 2 2 4 ∷ []) (port 2 2 4 ∷ []) 0 0) ([]) 0 (pos 32767 ∷ negsuc 32767 ∷ pos 0 ∷ pos 1 ∷ []) (pos 32767 ∷ negsuc 32767 ∷ pos 0 ∷ pos 1 ∷ [])
row44 = (refl, refl)

row45 : Gives (block SampHold ([]) ([]) ([]) (port 2 2 4 ∷ []) (port 2 2 4 ∷ []) 0 0) ([]) 0 (negsuc 0 ∷ negsuc 1 ∷ negsuc 2 ∷ negsuc 3 ∷ []) (negsuc 0 ∷ negsuc 1 ∷ negsuc 2 ∷ negsuc 3 ∷ [])
row45 = (refl, refl)

row46 : Starts (block Register ([]) (pos 1 ∷ negsuc 1 ∷ pos 3 ∷ []) ([]) (port 1 1 5 ∷ []) (port 1 1 5 ∷ []) 0 0) (pos 1 ∷ negsuc 1 ∷ pos 3 ∷ [])
row46 = (refl, refl)

row47 : Holds (block Register ([]) (pos 1 ∷ negsuc 1 ∷ pos 3 ∷ []) ([]) (port 1 1 5 ∷ []) (port 1 1 5 ∷ []) 0 0) (pos 1 ∷ [])
row47 = (refl, refl)

row48 : Gives (block Register ([]) (pos 1 ∷ negsuc 1 ∷ pos 3 ∷ []) ([]) (port 1 1 5 ∷ []) (port 1 1 5 ∷ []) 0 0) (pos 1 ∷ negsuc 1 ∷ pos 3 ∷ []) 0 (pos 4 ∷ []) (pos 1 ∷ [])
row48 = (refl, refl)

row49 : Reaches (block Register ([]) (pos 1 ∷ negsuc 1 ∷ pos 3 ∷ []) ([]) (port 1 1 5 ∷ []) (port 1 1 5 ∷ []) 0 0) 0 ((pos 4 ∷ []) ∷ []) (negsuc 1 ∷ pos 3 ∷ pos 4 ∷ [])
row49 = (refl, refl)

row50 : Gives (block Register ([]) (pos 1 ∷ negsuc 1 ∷ pos 3 ∷ []) ([]) (port 1 1 5 ∷ []) (port 1 1 5 ∷ []) 0 0) (negsuc 1 ∷ pos 3 ∷ pos 4 ∷ []) 0 (negsuc 4 ∷ []) (negsuc 1 ∷ [])
row50 = (refl, refl)

row51 : Reaches (block Register ([]) (pos 1 ∷ negsuc 1 ∷ pos 3 ∷ []) ([]) (port 1 1 5 ∷ []) (port 1 1 5 ∷ []) 0 0) 0 ((pos 4 ∷ []) ∷ (negsuc 4 ∷ []) ∷ []) (pos 3 ∷ pos 4 ∷ negsuc 4 ∷ [])
row51 = (refl, refl)

row52 : Gives (block Register ([]) (pos 1 ∷ negsuc 1 ∷ pos 3 ∷ []) ([]) (port 1 1 5 ∷ []) (port 1 1 5 ∷ []) 0 0) (pos 3 ∷ pos 4 ∷ negsuc 4 ∷ []) 0 (pos 6 ∷ []) (pos 3 ∷ [])
row52 = (refl, refl)

row53 : Reaches (block Register ([]) (pos 1 ∷ negsuc 1 ∷ pos 3 ∷ []) ([]) (port 1 1 5 ∷ []) (port 1 1 5 ∷ []) 0 0) 0 ((pos 4 ∷ []) ∷ (negsuc 4 ∷ []) ∷ (pos 6 ∷ []) ∷ []) (pos 4 ∷ negsuc 4 ∷ pos 6 ∷ [])
row53 = (refl, refl)

row54 : Gives (block Register ([]) (pos 1 ∷ negsuc 1 ∷ pos 3 ∷ []) ([]) (port 1 1 5 ∷ []) (port 1 1 5 ∷ []) 0 0) (pos 4 ∷ negsuc 4 ∷ pos 6 ∷ []) 0 (pos 127 ∷ []) (pos 4 ∷ [])
row54 = (refl, refl)

row55 : Reaches (block Register ([]) (pos 1 ∷ negsuc 1 ∷ pos 3 ∷ []) ([]) (port 1 1 5 ∷ []) (port 1 1 5 ∷ []) 0 0) 0 ((pos 4 ∷ []) ∷ (negsuc 4 ∷ []) ∷ (pos 6 ∷ []) ∷ (pos 127 ∷ []) ∷ []) (negsuc 4 ∷ pos 6 ∷ pos 127 ∷ [])
row55 = (refl, refl)

row56 : Starts (block Register ([]) (pos 7 ∷ []) ([]) (port 1 1 5 ∷ []) (port 1 1 5 ∷ []) 0 0) (pos 7 ∷ [])
row56 = (refl, refl)

row57 : Holds (block Register ([]) (pos 7 ∷ []) ([]) (port 1 1 5 ∷ []) (port 1 1 5 ∷ []) 0 0) (pos 7 ∷ [])
row57 = (refl, refl)

row58 : Gives (block Register ([]) (pos 7 ∷ []) ([]) (port 1 1 5 ∷ []) (port 1 1 5 ∷ []) 0 0) (pos 7 ∷ []) 0 (pos 4 ∷ []) (pos 7 ∷ [])
row58 = (refl, refl)

row59 : Reaches (block Register ([]) (pos 7 ∷ []) ([]) (port 1 1 5 ∷ []) (port 1 1 5 ∷ []) 0 0) 0 ((pos 4 ∷ []) ∷ []) (pos 4 ∷ [])
row59 = (refl, refl)

row60 : Gives (block Register ([]) (pos 7 ∷ []) ([]) (port 1 1 5 ∷ []) (port 1 1 5 ∷ []) 0 0) (pos 4 ∷ []) 0 (negsuc 4 ∷ []) (pos 4 ∷ [])
row60 = (refl, refl)

row61 : Reaches (block Register ([]) (pos 7 ∷ []) ([]) (port 1 1 5 ∷ []) (port 1 1 5 ∷ []) 0 0) 0 ((pos 4 ∷ []) ∷ (negsuc 4 ∷ []) ∷ []) (negsuc 4 ∷ [])
row61 = (refl, refl)

row62 : Gives (block Register ([]) (pos 7 ∷ []) ([]) (port 1 1 5 ∷ []) (port 1 1 5 ∷ []) 0 0) (negsuc 4 ∷ []) 0 (pos 6 ∷ []) (negsuc 4 ∷ [])
row62 = (refl, refl)

row63 : Reaches (block Register ([]) (pos 7 ∷ []) ([]) (port 1 1 5 ∷ []) (port 1 1 5 ∷ []) 0 0) 0 ((pos 4 ∷ []) ∷ (negsuc 4 ∷ []) ∷ (pos 6 ∷ []) ∷ []) (pos 6 ∷ [])
row63 = (refl, refl)

row64 : Gives (block Register ([]) (pos 7 ∷ []) ([]) (port 1 1 5 ∷ []) (port 1 1 5 ∷ []) 0 0) (pos 6 ∷ []) 0 (pos 127 ∷ []) (pos 6 ∷ [])
row64 = (refl, refl)

row65 : Reaches (block Register ([]) (pos 7 ∷ []) ([]) (port 1 1 5 ∷ []) (port 1 1 5 ∷ []) 0 0) 0 ((pos 4 ∷ []) ∷ (negsuc 4 ∷ []) ∷ (pos 6 ∷ []) ∷ (pos 127 ∷ []) ∷ []) (pos 127 ∷ [])
row65 = (refl, refl)

row66 : Starts (block ModuloCount (pos 3 ∷ []) (pos 1 ∷ []) ([]) ([]) (port 1 1 5 ∷ []) 1 0) (pos 1 ∷ [])
row66 = (refl, refl)

row67 : Holds (block ModuloCount (pos 3 ∷ []) (pos 1 ∷ []) ([]) ([]) (port 1 1 5 ∷ []) 1 0) (pos 1 ∷ [])
row67 = (refl, refl)

row68 : Gives (block ModuloCount (pos 3 ∷ []) (pos 1 ∷ []) ([]) ([]) (port 1 1 5 ∷ []) 1 0) (pos 1 ∷ []) 1 ([]) (pos 1 ∷ [])
row68 = (refl, refl)

row69 : Reaches (block ModuloCount (pos 3 ∷ []) (pos 1 ∷ []) ([]) ([]) (port 1 1 5 ∷ []) 1 0) 1 (([]) ∷ []) (pos 2 ∷ [])
row69 = (refl, refl)

row70 : Gives (block ModuloCount (pos 3 ∷ []) (pos 1 ∷ []) ([]) ([]) (port 1 1 5 ∷ []) 1 0) (pos 2 ∷ []) 1 ([]) (pos 2 ∷ [])
row70 = (refl, refl)

row71 : Reaches (block ModuloCount (pos 3 ∷ []) (pos 1 ∷ []) ([]) ([]) (port 1 1 5 ∷ []) 1 0) 1 (([]) ∷ ([]) ∷ []) (pos 0 ∷ [])
row71 = (refl, refl)

row72 : Gives (block ModuloCount (pos 3 ∷ []) (pos 1 ∷ []) ([]) ([]) (port 1 1 5 ∷ []) 1 0) (pos 0 ∷ []) 1 ([]) (pos 0 ∷ [])
row72 = (refl, refl)

row73 : Reaches (block ModuloCount (pos 3 ∷ []) (pos 1 ∷ []) ([]) ([]) (port 1 1 5 ∷ []) 1 0) 1 (([]) ∷ ([]) ∷ ([]) ∷ []) (pos 1 ∷ [])
row73 = (refl, refl)

row74 : Starts (block ModuloCount (pos 1 ∷ []) (pos 0 ∷ []) ([]) ([]) (port 1 1 5 ∷ []) 1 0) (pos 0 ∷ [])
row74 = (refl, refl)

row75 : Holds (block ModuloCount (pos 1 ∷ []) (pos 0 ∷ []) ([]) ([]) (port 1 1 5 ∷ []) 1 0) (pos 0 ∷ [])
row75 = (refl, refl)

row76 : Gives (block ModuloCount (pos 1 ∷ []) (pos 0 ∷ []) ([]) ([]) (port 1 1 5 ∷ []) 1 0) (pos 0 ∷ []) 1 ([]) (pos 0 ∷ [])
row76 = (refl, refl)

row77 : Reaches (block ModuloCount (pos 1 ∷ []) (pos 0 ∷ []) ([]) ([]) (port 1 1 5 ∷ []) 1 0) 1 (([]) ∷ []) (pos 0 ∷ [])
row77 = (refl, refl)

row78 : Gives (block ModuloCount (pos 1 ∷ []) (pos 0 ∷ []) ([]) ([]) (port 1 1 5 ∷ []) 1 0) (pos 0 ∷ []) 1 ([]) (pos 0 ∷ [])
row78 = (refl, refl)

row79 : Reaches (block ModuloCount (pos 1 ∷ []) (pos 0 ∷ []) ([]) ([]) (port 1 1 5 ∷ []) 1 0) 1 (([]) ∷ ([]) ∷ []) (pos 0 ∷ [])
row79 = (refl, refl)

row80 : Gives (block ModuloCount (pos 1 ∷ []) (pos 0 ∷ []) ([]) ([]) (port 1 1 5 ∷ []) 1 0) (pos 0 ∷ []) 1 ([]) (pos 0 ∷ [])
row80 = (refl, refl)

row81 : Reaches (block ModuloCount (pos 1 ∷ []) (pos 0 ∷ []) ([]) ([]) (port 1 1 5 ∷ []) 1 0) 1 (([]) ∷ ([]) ∷ ([]) ∷ []) (pos 0 ∷ [])
row81 = (refl, refl)

row82 : Starts (block ModuloCount (pos 128 ∷ []) (pos 126 ∷ []) ([]) ([]) (port 1 1 5 ∷ []) 1 0) (pos 126 ∷ [])
row82 = (refl, refl)

row83 : Holds (block ModuloCount (pos 128 ∷ []) (pos 126 ∷ []) ([]) ([]) (port 1 1 5 ∷ []) 1 0) (pos 126 ∷ [])
row83 = (refl, refl)

row84 : Gives (block ModuloCount (pos 128 ∷ []) (pos 126 ∷ []) ([]) ([]) (port 1 1 5 ∷ []) 1 0) (pos 126 ∷ []) 1 ([]) (pos 126 ∷ [])
row84 = (refl, refl)

row85 : Reaches (block ModuloCount (pos 128 ∷ []) (pos 126 ∷ []) ([]) ([]) (port 1 1 5 ∷ []) 1 0) 1 (([]) ∷ []) (pos 127 ∷ [])
row85 = (refl, refl)

row86 : Gives (block ModuloCount (pos 128 ∷ []) (pos 126 ∷ []) ([]) ([]) (port 1 1 5 ∷ []) 1 0) (pos 127 ∷ []) 1 ([]) (pos 127 ∷ [])
row86 = (refl, refl)

row87 : Reaches (block ModuloCount (pos 128 ∷ []) (pos 126 ∷ []) ([]) ([]) (port 1 1 5 ∷ []) 1 0) 1 (([]) ∷ ([]) ∷ []) (pos 0 ∷ [])
row87 = (refl, refl)

row88 : Gives (block ModuloCount (pos 128 ∷ []) (pos 126 ∷ []) ([]) ([]) (port 1 1 5 ∷ []) 1 0) (pos 0 ∷ []) 1 ([]) (pos 0 ∷ [])
row88 = (refl, refl)

row89 : Reaches (block ModuloCount (pos 128 ∷ []) (pos 126 ∷ []) ([]) ([]) (port 1 1 5 ∷ []) 1 0) 1 (([]) ∷ ([]) ∷ ([]) ∷ []) (pos 1 ∷ [])
row89 = (refl, refl)

row90 : Holds (block Sensor (pos 7 ∷ []) ([]) ([]) ([]) (port 1 1 5 ∷ []) 1 0) (pos 0 ∷ [])
row90 = (refl, refl)

row91 : Gives (block Sensor (pos 7 ∷ []) ([]) ([]) ([]) (port 1 1 5 ∷ []) 1 0) ([]) 1 (negsuc 127 ∷ []) (negsuc 127 ∷ [])
row91 = (refl, refl)

row92 : Gives (block Sensor (pos 7 ∷ []) ([]) ([]) ([]) (port 1 1 5 ∷ []) 1 0) ([]) 1 (negsuc 2 ∷ []) (negsuc 2 ∷ [])
row92 = (refl, refl)

row93 : Gives (block Sensor (pos 7 ∷ []) ([]) ([]) ([]) (port 1 1 5 ∷ []) 1 0) ([]) 1 (pos 0 ∷ []) (pos 0 ∷ [])
row93 = (refl, refl)

row94 : Gives (block Sensor (pos 7 ∷ []) ([]) ([]) ([]) (port 1 1 5 ∷ []) 1 0) ([]) 1 (pos 9 ∷ []) (pos 9 ∷ [])
row94 = (refl, refl)

row95 : Gives (block Sensor (pos 7 ∷ []) ([]) ([]) ([]) (port 1 1 5 ∷ []) 1 0) ([]) 1 (pos 127 ∷ []) (pos 127 ∷ [])
row95 = (refl, refl)

row96 : Holds (block Sensor (pos 7 ∷ []) ([]) ([]) ([]) (port 1 1 8 ∷ []) 1 0) (pos 0 ∷ [])
row96 = (refl, refl)

row97 : Gives (block Sensor (pos 7 ∷ []) ([]) ([]) ([]) (port 1 1 8 ∷ []) 1 0) ([]) 1 (pos 0 ∷ []) (pos 0 ∷ [])
row97 = (refl, refl)

row98 : Gives (block Sensor (pos 7 ∷ []) ([]) ([]) ([]) (port 1 1 8 ∷ []) 1 0) ([]) 1 (pos 200 ∷ []) (pos 200 ∷ [])
row98 = (refl, refl)

row99 : Delays (block EvtDly (negsuc 0 ∷ []) ([]) (pos 3 ∷ []) ([]) ([]) 1 1) ([]) (negsuc 0)
row99 = (refl, refl)

row100 : Delays (block EvtDly (pos 0 ∷ []) ([]) (pos 3 ∷ []) ([]) ([]) 1 1) ([]) (pos 0)
row100 = (refl, refl)

row101 : Delays (block EvtDly (pos 7 ∷ []) ([]) (pos 3 ∷ []) ([]) ([]) 1 1) ([]) (pos 7)
row101 = (refl, refl)

row102 : Delays (block EvtDly (pos 2147483647 ∷ []) ([]) (pos 3 ∷ []) ([]) ([]) 1 1) ([]) (pos 2147483647)
row102 = (refl, refl)

row103 : Delays (block EvtVarDly ([]) ([]) (pos 3 ∷ []) (port 1 1 3 ∷ []) ([]) 1 1) (negsuc 2147483647 ∷ []) (negsuc 0)
row103 = (refl, refl)

row104 : Delays (block EvtVarDly ([]) ([]) (pos 3 ∷ []) (port 1 1 3 ∷ []) ([]) 1 1) (negsuc 1 ∷ []) (negsuc 0)
row104 = (refl, refl)

row105 : Delays (block EvtVarDly ([]) ([]) (pos 3 ∷ []) (port 1 1 3 ∷ []) ([]) 1 1) (negsuc 0 ∷ []) (negsuc 0)
row105 = (refl, refl)

row106 : Delays (block EvtVarDly ([]) ([]) (pos 3 ∷ []) (port 1 1 3 ∷ []) ([]) 1 1) (pos 0 ∷ []) (pos 0)
row106 = (refl, refl)

row107 : Delays (block EvtVarDly ([]) ([]) (pos 3 ∷ []) (port 1 1 3 ∷ []) ([]) 1 1) (pos 1 ∷ []) (pos 1)
row107 = (refl, refl)

row108 : Delays (block EvtVarDly ([]) ([]) (pos 3 ∷ []) (port 1 1 3 ∷ []) ([]) 1 1) (pos 2147483647 ∷ []) (pos 2147483647)
row108 = (refl, refl)

row109 : Delays (block EvtVarDly ([]) ([]) (pos 3 ∷ []) (port 1 1 6 ∷ []) ([]) 1 1) (pos 0 ∷ []) (pos 0)
row109 = (refl, refl)

row110 : Delays (block EvtVarDly ([]) ([]) (pos 3 ∷ []) (port 1 1 6 ∷ []) ([]) 1 1) (pos 2147483646 ∷ []) (pos 2147483646)
row110 = (refl, refl)

row111 : Delays (block EvtVarDly ([]) ([]) (pos 3 ∷ []) (port 1 1 6 ∷ []) ([]) 1 1) (pos 2147483647 ∷ []) (pos 2147483647)
row111 = (refl, refl)

row112 : Delays (block EvtVarDly ([]) ([]) (pos 3 ∷ []) (port 1 1 6 ∷ []) ([]) 1 1) (pos 2147483648 ∷ []) (pos 2147483647)
row112 = (refl, refl)

row113 : Delays (block EvtVarDly ([]) ([]) (pos 3 ∷ []) (port 1 1 6 ∷ []) ([]) 1 1) (pos 4294967295 ∷ []) (pos 2147483647)
row113 = (refl, refl)

row114 : Takes (block IfThEl ([]) ([]) ([]) (port 1 1 5 ∷ []) ([]) 0 2) (negsuc 0 ∷ []) 2
row114 = (refl, refl)

row115 : Takes (block IfThEl ([]) ([]) ([]) (port 1 1 5 ∷ []) ([]) 0 2) (pos 0 ∷ []) 2
row115 = (refl, refl)

row116 : Takes (block IfThEl ([]) ([]) ([]) (port 1 1 5 ∷ []) ([]) 0 2) (pos 1 ∷ []) 1
row116 = (refl, refl)

row117 : Takes (block ESelect ([]) ([]) ([]) (port 1 1 5 ∷ []) ([]) 0 2) (pos 0 ∷ []) 1
row117 = (refl, refl)

row118 : Takes (block ESelect ([]) ([]) ([]) (port 1 1 5 ∷ []) ([]) 0 2) (pos 1 ∷ []) 1
row118 = (refl, refl)

row119 : Takes (block ESelect ([]) ([]) ([]) (port 1 1 5 ∷ []) ([]) 0 2) (pos 2 ∷ []) 2
row119 = (refl, refl)

row120 : Takes (block ESelect ([]) ([]) ([]) (port 1 1 5 ∷ []) ([]) 0 2) (pos 3 ∷ []) 2
row120 = (refl, refl)

row121 : Takes (block ESelect ([]) ([]) ([]) (port 1 1 5 ∷ []) ([]) 0 4) (negsuc 0 ∷ []) 1
row121 = (refl, refl)

row122 : Takes (block ESelect ([]) ([]) ([]) (port 1 1 5 ∷ []) ([]) 0 4) (pos 0 ∷ []) 1
row122 = (refl, refl)

row123 : Takes (block ESelect ([]) ([]) ([]) (port 1 1 5 ∷ []) ([]) 0 4) (pos 1 ∷ []) 1
row123 = (refl, refl)

row124 : Takes (block ESelect ([]) ([]) ([]) (port 1 1 5 ∷ []) ([]) 0 4) (pos 2 ∷ []) 2
row124 = (refl, refl)

row125 : Takes (block ESelect ([]) ([]) ([]) (port 1 1 5 ∷ []) ([]) 0 4) (pos 3 ∷ []) 3
row125 = (refl, refl)

row126 : Takes (block ESelect ([]) ([]) ([]) (port 1 1 5 ∷ []) ([]) 0 4) (pos 4 ∷ []) 4
row126 = (refl, refl)

row127 : Takes (block ESelect ([]) ([]) ([]) (port 1 1 5 ∷ []) ([]) 0 4) (pos 5 ∷ []) 4
row127 = (refl, refl)

row128 : Takes (block ESelect ([]) ([]) ([]) (port 1 1 5 ∷ []) ([]) 0 64) (pos 63 ∷ []) 63
row128 = (refl, refl)

row129 : Takes (block ESelect ([]) ([]) ([]) (port 1 1 5 ∷ []) ([]) 0 64) (pos 64 ∷ []) 64
row129 = (refl, refl)

row130 : Takes (block ESelect ([]) ([]) ([]) (port 1 1 5 ∷ []) ([]) 0 64) (pos 65 ∷ []) 64
row130 = (refl, refl)

row131 : Gives (block GatedDelay ([]) (pos 6 ∷ negsuc 6 ∷ []) ([]) (port 1 2 5 ∷ port 1 1 3 ∷ []) (port 1 2 5 ∷ []) 0 0) (pos 6 ∷ negsuc 6 ∷ []) 0 (pos 40 ∷ pos 50 ∷ pos 256 ∷ []) (pos 6 ∷ negsuc 6 ∷ [])
row131 = (refl, refl)

row132 : Starts (block Halt ([]) ([]) ([]) ([]) ([]) 1 0) ([])
row132 = (refl, refl)

row133 : Holds (block Halt ([]) ([]) ([]) ([]) ([]) 1 0) ([])
row133 = (refl, refl)

row134 : Reaches (block Halt ([]) ([]) ([]) ([]) ([]) 1 0) 1 (([]) ∷ []) ([])
row134 = (refl, refl)
