-- Blocks that the check refuses, with the rule and its numbers, and blocks that pass. Written by tools/refusal_rows.py.
use Rattle.std.proofs.Common.{◌≡◌, ℕ, zero, suc, ℤ, pos, negsuc, List, [], ◌∷◌, Bool, true, false, Option, Some, None, Ok, Err, refl}
use Rattle.std.specs.Prelude.{codes}
use Rattle.sci_base.specs.declared.refusal.Rule.{Rule}
use Rattle.sci_base.specs.declared.refusal.Rule.TheVariants.{UnknownBlock, BadParameter, PortShape, NotInteger, AlwaysActive}
use Rattle.sci_base.specs.Plain.{Fields, Dependence, all_inputs, each_input}
use Rattle.sci_forms.specs.declared.Kind.{Kind}
use Rattle.sci_forms.specs.declared.Kind.TheVariants.{Const, Summation, GainBlk, Product, AbsValue, Signum, MaxMin, Saturation, DeadBand, Convert, Mux, Demux, Extractor, LogicalOp, RelationalOp, Shift, BitSet, BitClear, ExtractBits, Switch2, Select, Logic, AndLog, Dollar, SampHold, Register, ModuloCount, GatedDelay, Sensor, EvtDly, EvtVarDly, IfThEl, ESelect, Halt}
use Rattle.sci_forms.specs.declared.ports.Port.{Port}
use Rattle.sci_forms.specs.declared.spec.Spec.{Spec}
use Rattle.sci_check.specs.Check.{checked}

abbrev fields : List ℤ → List ℤ → List ℤ → List ℤ → List ℤ → List ℤ → ℕ → ℕ → List ℤ → List ℤ → List ℤ → Option Dependence → Fields
fields a b c d e f g h i j k l =
    record { ins = a; in2 = b; intyp = c; outs = d; out2 = e; outtyp = f; evtin = g; evtout = h; dstate = i; ipar = j; firing = k; dep = l }

-- what is declared of all inputs, or of each, and whether the block is always active
abbrev all : Bool → Bool → Option Dependence
all b a = Some (record { part = all_inputs b; always = a })

abbrev each : List Bool → Bool → Option Dependence
each ts a = Some (record { part = each_input ts; always = a })

abbrev many : {A : Type 0} → ℕ → A → List A
many zero v = []
many (suc n) v = v ∷ many n v

abbrev place : List ℕ
place = 2 ∷ 1 ∷ []

-- the block of this name with these fields breaks this rule, with these numbers
abbrev Refuses : List ℕ → Fields → Rule → List ℤ → Type 0
Refuses gui f r d = checked place gui f ≡ Err (record { rule = r; place = place; detail = d })

abbrev port : ℤ → ℤ → ℤ → Port
port r c t = record { rows = r; cols = c; ty = t }

-- a spec by its kind, parameters, state, first dates, inputs, outputs, counts of activation ports and feedthrough
abbrev block : Kind → List ℤ → List ℤ → List ℤ → List Port → List Port → ℕ → ℕ → List Bool → Spec
block k ps xs fs is os a b d = record { kind = k; params = ps; state = xs; firing = fs; ins = is; outs = os; evtin = a; evtout = b; feed = d }

-- it passes, with this spec
abbrev Passes : List ℕ → Fields → Spec → Type 0
Passes gui f s = checked place gui f ≡ Ok s

unknown1 : Refuses (codes "") (fields (negsuc 0 ∷ []) [] (pos 5 ∷ []) (negsuc 0 ∷ []) [] (pos 5 ∷ []) 0 0 [] (pos 0 ∷ pos 3 ∷ []) [] (all true true)) UnknownBlock []
unknown1 = refl

unknown2 : Refuses (codes "GAINBLK ") (fields (negsuc 0 ∷ []) [] (pos 5 ∷ []) (negsuc 0 ∷ []) [] (pos 5 ∷ []) 0 0 [] (pos 0 ∷ pos 3 ∷ []) [] (all true true)) UnknownBlock []
unknown2 = refl

unknown3 : Refuses (codes "gainblk") (fields (negsuc 0 ∷ []) [] (pos 5 ∷ []) (negsuc 0 ∷ []) [] (pos 5 ∷ []) 0 0 [] (pos 0 ∷ pos 3 ∷ []) [] (all true true)) UnknownBlock []
unknown3 = refl

unknown4 : Refuses (codes "CONST") (fields (negsuc 0 ∷ []) [] (pos 5 ∷ []) (negsuc 0 ∷ []) [] (pos 5 ∷ []) 0 0 [] (pos 0 ∷ pos 3 ∷ []) [] (all true true)) UnknownBlock []
unknown4 = refl

unknown5 : Refuses (codes "SPLIT_f") (fields (negsuc 0 ∷ []) [] (pos 5 ∷ []) (negsuc 0 ∷ []) [] (pos 5 ∷ []) 0 0 [] (pos 0 ∷ pos 3 ∷ []) [] (all true true)) UnknownBlock []
unknown5 = refl

unknown6 : Refuses (codes "SUMMATIONS") (fields (negsuc 0 ∷ []) [] (pos 5 ∷ []) (negsuc 0 ∷ []) [] (pos 5 ∷ []) 0 0 [] (pos 0 ∷ pos 3 ∷ []) [] (all true true)) UnknownBlock []
unknown6 = refl

refused1 : Refuses (codes "CONST_m") (fields (negsuc 0 ∷ []) [] (pos 5 ∷ []) (negsuc 0 ∷ []) [] (pos 5 ∷ []) 0 0 [] (pos 7 ∷ []) [] None) PortShape (pos 1 ∷ pos 1 ∷ [])
refused1 = refl

refused2 : Refuses (codes "CONST_m") (fields [] [] [] [] [] [] 0 0 [] (pos 7 ∷ []) [] None) PortShape (pos 2 ∷ pos 0 ∷ [])
refused2 = refl

refused3 : Refuses (codes "CONST_m") (fields [] [] [] (negsuc 0 ∷ negsuc 0 ∷ []) [] (pos 5 ∷ pos 5 ∷ []) 0 0 [] (pos 7 ∷ []) [] None) PortShape (pos 2 ∷ pos 2 ∷ [])
refused3 = refl

refused4 : Refuses (codes "CONST_m") (fields [] [] [] (negsuc 0 ∷ []) [] (pos 5 ∷ []) 1 0 [] (pos 7 ∷ []) [] None) PortShape (pos 3 ∷ pos 1 ∷ [])
refused4 = refl

refused5 : Refuses (codes "CONST_m") (fields [] [] [] (negsuc 0 ∷ []) [] (pos 5 ∷ []) 0 1 [] (pos 7 ∷ []) [] None) PortShape (pos 4 ∷ pos 1 ∷ [])
refused5 = refl

refused6 : Refuses (codes "SUMMATION") (fields (negsuc 0 ∷ []) [] (pos 5 ∷ []) (negsuc 0 ∷ []) [] (pos 5 ∷ []) 0 0 [] (pos 0 ∷ pos 1 ∷ negsuc 0 ∷ []) [] None) PortShape (pos 1 ∷ pos 1 ∷ [])
refused6 = refl

refused7 : Refuses (codes "SUMMATION") (fields (many 65 (negsuc 0)) [] (many 65 (pos 5)) (negsuc 0 ∷ []) [] (pos 5 ∷ []) 0 0 [] (pos 0 ∷ pos 1 ∷ negsuc 0 ∷ []) [] None) PortShape (pos 1 ∷ pos 65 ∷ [])
refused7 = refl

refused8 : Refuses (codes "SUMMATION") (fields (negsuc 0 ∷ negsuc 0 ∷ []) [] (pos 5 ∷ pos 5 ∷ []) [] [] [] 0 0 [] (pos 0 ∷ pos 1 ∷ negsuc 0 ∷ []) [] None) PortShape (pos 2 ∷ pos 0 ∷ [])
refused8 = refl

refused9 : Refuses (codes "SUMMATION") (fields (negsuc 0 ∷ negsuc 0 ∷ []) [] (pos 5 ∷ pos 5 ∷ []) (negsuc 0 ∷ negsuc 0 ∷ []) [] (pos 5 ∷ pos 5 ∷ []) 0 0 [] (pos 0 ∷ pos 1 ∷ negsuc 0 ∷ []) [] None) PortShape (pos 2 ∷ pos 2 ∷ [])
refused9 = refl

refused10 : Refuses (codes "SUMMATION") (fields (negsuc 0 ∷ negsuc 0 ∷ []) [] (pos 5 ∷ pos 5 ∷ []) (negsuc 0 ∷ []) [] (pos 5 ∷ []) 2 0 [] (pos 0 ∷ pos 1 ∷ negsuc 0 ∷ []) [] None) PortShape (pos 3 ∷ pos 2 ∷ [])
refused10 = refl

refused11 : Refuses (codes "SUMMATION") (fields (negsuc 0 ∷ negsuc 0 ∷ []) [] (pos 5 ∷ pos 5 ∷ []) (negsuc 0 ∷ []) [] (pos 5 ∷ []) 0 1 [] (pos 0 ∷ pos 1 ∷ negsuc 0 ∷ []) [] None) PortShape (pos 4 ∷ pos 1 ∷ [])
refused11 = refl

refused12 : Refuses (codes "GAINBLK") (fields [] [] [] (negsuc 0 ∷ []) [] (pos 5 ∷ []) 0 0 [] (pos 0 ∷ pos 3 ∷ []) [] None) PortShape (pos 1 ∷ pos 0 ∷ [])
refused12 = refl

refused13 : Refuses (codes "GAINBLK") (fields (negsuc 0 ∷ negsuc 0 ∷ []) [] (pos 5 ∷ pos 5 ∷ []) (negsuc 0 ∷ []) [] (pos 5 ∷ []) 0 0 [] (pos 0 ∷ pos 3 ∷ []) [] None) PortShape (pos 1 ∷ pos 2 ∷ [])
refused13 = refl

refused14 : Refuses (codes "GAINBLK") (fields (negsuc 0 ∷ []) [] (pos 5 ∷ []) [] [] [] 0 0 [] (pos 0 ∷ pos 3 ∷ []) [] None) PortShape (pos 2 ∷ pos 0 ∷ [])
refused14 = refl

refused15 : Refuses (codes "GAINBLK") (fields (negsuc 0 ∷ []) [] (pos 5 ∷ []) (negsuc 0 ∷ negsuc 0 ∷ []) [] (pos 5 ∷ pos 5 ∷ []) 0 0 [] (pos 0 ∷ pos 3 ∷ []) [] None) PortShape (pos 2 ∷ pos 2 ∷ [])
refused15 = refl

refused16 : Refuses (codes "GAINBLK") (fields (negsuc 0 ∷ []) [] (pos 5 ∷ []) (negsuc 0 ∷ []) [] (pos 5 ∷ []) 2 0 [] (pos 0 ∷ pos 3 ∷ []) [] None) PortShape (pos 3 ∷ pos 2 ∷ [])
refused16 = refl

refused17 : Refuses (codes "GAINBLK") (fields (negsuc 0 ∷ []) [] (pos 5 ∷ []) (negsuc 0 ∷ []) [] (pos 5 ∷ []) 0 1 [] (pos 0 ∷ pos 3 ∷ []) [] None) PortShape (pos 4 ∷ pos 1 ∷ [])
refused17 = refl

refused18 : Refuses (codes "PRODUCT") (fields (negsuc 0 ∷ []) [] (pos 5 ∷ []) (negsuc 0 ∷ []) [] (pos 5 ∷ []) 0 0 [] (pos 0 ∷ pos 1 ∷ []) [] None) PortShape (pos 1 ∷ pos 1 ∷ [])
refused18 = refl

refused19 : Refuses (codes "PRODUCT") (fields (negsuc 0 ∷ negsuc 0 ∷ negsuc 0 ∷ []) [] (pos 5 ∷ pos 5 ∷ pos 5 ∷ []) (negsuc 0 ∷ []) [] (pos 5 ∷ []) 0 0 [] (pos 0 ∷ pos 1 ∷ []) [] None) PortShape (pos 1 ∷ pos 3 ∷ [])
refused19 = refl

refused20 : Refuses (codes "PRODUCT") (fields (negsuc 0 ∷ negsuc 0 ∷ []) [] (pos 5 ∷ pos 5 ∷ []) [] [] [] 0 0 [] (pos 0 ∷ pos 1 ∷ []) [] None) PortShape (pos 2 ∷ pos 0 ∷ [])
refused20 = refl

refused21 : Refuses (codes "PRODUCT") (fields (negsuc 0 ∷ negsuc 0 ∷ []) [] (pos 5 ∷ pos 5 ∷ []) (negsuc 0 ∷ negsuc 0 ∷ []) [] (pos 5 ∷ pos 5 ∷ []) 0 0 [] (pos 0 ∷ pos 1 ∷ []) [] None) PortShape (pos 2 ∷ pos 2 ∷ [])
refused21 = refl

refused22 : Refuses (codes "PRODUCT") (fields (negsuc 0 ∷ negsuc 0 ∷ []) [] (pos 5 ∷ pos 5 ∷ []) (negsuc 0 ∷ []) [] (pos 5 ∷ []) 2 0 [] (pos 0 ∷ pos 1 ∷ []) [] None) PortShape (pos 3 ∷ pos 2 ∷ [])
refused22 = refl

refused23 : Refuses (codes "PRODUCT") (fields (negsuc 0 ∷ negsuc 0 ∷ []) [] (pos 5 ∷ pos 5 ∷ []) (negsuc 0 ∷ []) [] (pos 5 ∷ []) 0 1 [] (pos 0 ∷ pos 1 ∷ []) [] None) PortShape (pos 4 ∷ pos 1 ∷ [])
refused23 = refl

refused24 : Refuses (codes "ABS_VALUE") (fields [] [] [] (negsuc 0 ∷ []) [] (pos 5 ∷ []) 0 0 [] (pos 0 ∷ []) [] None) PortShape (pos 1 ∷ pos 0 ∷ [])
refused24 = refl

refused25 : Refuses (codes "ABS_VALUE") (fields (negsuc 0 ∷ negsuc 0 ∷ []) [] (pos 5 ∷ pos 5 ∷ []) (negsuc 0 ∷ []) [] (pos 5 ∷ []) 0 0 [] (pos 0 ∷ []) [] None) PortShape (pos 1 ∷ pos 2 ∷ [])
refused25 = refl

refused26 : Refuses (codes "ABS_VALUE") (fields (negsuc 0 ∷ []) [] (pos 5 ∷ []) [] [] [] 0 0 [] (pos 0 ∷ []) [] None) PortShape (pos 2 ∷ pos 0 ∷ [])
refused26 = refl

refused27 : Refuses (codes "ABS_VALUE") (fields (negsuc 0 ∷ []) [] (pos 5 ∷ []) (negsuc 0 ∷ negsuc 0 ∷ []) [] (pos 5 ∷ pos 5 ∷ []) 0 0 [] (pos 0 ∷ []) [] None) PortShape (pos 2 ∷ pos 2 ∷ [])
refused27 = refl

refused28 : Refuses (codes "ABS_VALUE") (fields (negsuc 0 ∷ []) [] (pos 5 ∷ []) (negsuc 0 ∷ []) [] (pos 5 ∷ []) 2 0 [] (pos 0 ∷ []) [] None) PortShape (pos 3 ∷ pos 2 ∷ [])
refused28 = refl

refused29 : Refuses (codes "ABS_VALUE") (fields (negsuc 0 ∷ []) [] (pos 5 ∷ []) (negsuc 0 ∷ []) [] (pos 5 ∷ []) 0 1 [] (pos 0 ∷ []) [] None) PortShape (pos 4 ∷ pos 1 ∷ [])
refused29 = refl

refused30 : Refuses (codes "SIGNUM") (fields [] [] [] (negsuc 0 ∷ []) [] (pos 5 ∷ []) 0 0 [] [] [] None) PortShape (pos 1 ∷ pos 0 ∷ [])
refused30 = refl

refused31 : Refuses (codes "SIGNUM") (fields (negsuc 0 ∷ negsuc 0 ∷ []) [] (pos 5 ∷ pos 5 ∷ []) (negsuc 0 ∷ []) [] (pos 5 ∷ []) 0 0 [] [] [] None) PortShape (pos 1 ∷ pos 2 ∷ [])
refused31 = refl

refused32 : Refuses (codes "SIGNUM") (fields (negsuc 0 ∷ []) [] (pos 5 ∷ []) [] [] [] 0 0 [] [] [] None) PortShape (pos 2 ∷ pos 0 ∷ [])
refused32 = refl

refused33 : Refuses (codes "SIGNUM") (fields (negsuc 0 ∷ []) [] (pos 5 ∷ []) (negsuc 0 ∷ negsuc 0 ∷ []) [] (pos 5 ∷ pos 5 ∷ []) 0 0 [] [] [] None) PortShape (pos 2 ∷ pos 2 ∷ [])
refused33 = refl

refused34 : Refuses (codes "SIGNUM") (fields (negsuc 0 ∷ []) [] (pos 5 ∷ []) (negsuc 0 ∷ []) [] (pos 5 ∷ []) 2 0 [] [] [] None) PortShape (pos 3 ∷ pos 2 ∷ [])
refused34 = refl

refused35 : Refuses (codes "SIGNUM") (fields (negsuc 0 ∷ []) [] (pos 5 ∷ []) (negsuc 0 ∷ []) [] (pos 5 ∷ []) 0 1 [] [] [] None) PortShape (pos 4 ∷ pos 1 ∷ [])
refused35 = refl

refused36 : Refuses (codes "MAXMIN") (fields (negsuc 0 ∷ []) [] (pos 5 ∷ []) (negsuc 0 ∷ []) [] (pos 5 ∷ []) 0 0 [] (pos 1 ∷ []) [] None) PortShape (pos 1 ∷ pos 1 ∷ [])
refused36 = refl

refused37 : Refuses (codes "MAXMIN") (fields (many 65 (negsuc 0)) [] (many 65 (pos 5)) (negsuc 0 ∷ []) [] (pos 5 ∷ []) 0 0 [] (pos 1 ∷ []) [] None) PortShape (pos 1 ∷ pos 65 ∷ [])
refused37 = refl

refused38 : Refuses (codes "MAXMIN") (fields (negsuc 0 ∷ negsuc 0 ∷ []) [] (pos 5 ∷ pos 5 ∷ []) [] [] [] 0 0 [] (pos 1 ∷ []) [] None) PortShape (pos 2 ∷ pos 0 ∷ [])
refused38 = refl

refused39 : Refuses (codes "MAXMIN") (fields (negsuc 0 ∷ negsuc 0 ∷ []) [] (pos 5 ∷ pos 5 ∷ []) (negsuc 0 ∷ negsuc 0 ∷ []) [] (pos 5 ∷ pos 5 ∷ []) 0 0 [] (pos 1 ∷ []) [] None) PortShape (pos 2 ∷ pos 2 ∷ [])
refused39 = refl

refused40 : Refuses (codes "MAXMIN") (fields (negsuc 0 ∷ negsuc 0 ∷ []) [] (pos 5 ∷ pos 5 ∷ []) (negsuc 0 ∷ []) [] (pos 5 ∷ []) 2 0 [] (pos 1 ∷ []) [] None) PortShape (pos 3 ∷ pos 2 ∷ [])
refused40 = refl

refused41 : Refuses (codes "MAXMIN") (fields (negsuc 0 ∷ negsuc 0 ∷ []) [] (pos 5 ∷ pos 5 ∷ []) (negsuc 0 ∷ []) [] (pos 5 ∷ []) 0 1 [] (pos 1 ∷ []) [] None) PortShape (pos 4 ∷ pos 1 ∷ [])
refused41 = refl

refused42 : Refuses (codes "SATURATION") (fields [] [] [] (negsuc 0 ∷ []) [] (pos 5 ∷ []) 0 0 [] (negsuc 4 ∷ pos 5 ∷ []) [] None) PortShape (pos 1 ∷ pos 0 ∷ [])
refused42 = refl

refused43 : Refuses (codes "SATURATION") (fields (negsuc 0 ∷ negsuc 0 ∷ []) [] (pos 5 ∷ pos 5 ∷ []) (negsuc 0 ∷ []) [] (pos 5 ∷ []) 0 0 [] (negsuc 4 ∷ pos 5 ∷ []) [] None) PortShape (pos 1 ∷ pos 2 ∷ [])
refused43 = refl

refused44 : Refuses (codes "SATURATION") (fields (negsuc 0 ∷ []) [] (pos 5 ∷ []) [] [] [] 0 0 [] (negsuc 4 ∷ pos 5 ∷ []) [] None) PortShape (pos 2 ∷ pos 0 ∷ [])
refused44 = refl

refused45 : Refuses (codes "SATURATION") (fields (negsuc 0 ∷ []) [] (pos 5 ∷ []) (negsuc 0 ∷ negsuc 0 ∷ []) [] (pos 5 ∷ pos 5 ∷ []) 0 0 [] (negsuc 4 ∷ pos 5 ∷ []) [] None) PortShape (pos 2 ∷ pos 2 ∷ [])
refused45 = refl

refused46 : Refuses (codes "SATURATION") (fields (negsuc 0 ∷ []) [] (pos 5 ∷ []) (negsuc 0 ∷ []) [] (pos 5 ∷ []) 2 0 [] (negsuc 4 ∷ pos 5 ∷ []) [] None) PortShape (pos 3 ∷ pos 2 ∷ [])
refused46 = refl

refused47 : Refuses (codes "SATURATION") (fields (negsuc 0 ∷ []) [] (pos 5 ∷ []) (negsuc 0 ∷ []) [] (pos 5 ∷ []) 0 1 [] (negsuc 4 ∷ pos 5 ∷ []) [] None) PortShape (pos 4 ∷ pos 1 ∷ [])
refused47 = refl

refused48 : Refuses (codes "DEADBAND") (fields [] [] [] (negsuc 0 ∷ []) [] (pos 5 ∷ []) 0 0 [] (pos 0 ∷ negsuc 4 ∷ pos 5 ∷ []) [] None) PortShape (pos 1 ∷ pos 0 ∷ [])
refused48 = refl

refused49 : Refuses (codes "DEADBAND") (fields (negsuc 0 ∷ negsuc 0 ∷ []) [] (pos 5 ∷ pos 5 ∷ []) (negsuc 0 ∷ []) [] (pos 5 ∷ []) 0 0 [] (pos 0 ∷ negsuc 4 ∷ pos 5 ∷ []) [] None) PortShape (pos 1 ∷ pos 2 ∷ [])
refused49 = refl

refused50 : Refuses (codes "DEADBAND") (fields (negsuc 0 ∷ []) [] (pos 5 ∷ []) [] [] [] 0 0 [] (pos 0 ∷ negsuc 4 ∷ pos 5 ∷ []) [] None) PortShape (pos 2 ∷ pos 0 ∷ [])
refused50 = refl

refused51 : Refuses (codes "DEADBAND") (fields (negsuc 0 ∷ []) [] (pos 5 ∷ []) (negsuc 0 ∷ negsuc 0 ∷ []) [] (pos 5 ∷ pos 5 ∷ []) 0 0 [] (pos 0 ∷ negsuc 4 ∷ pos 5 ∷ []) [] None) PortShape (pos 2 ∷ pos 2 ∷ [])
refused51 = refl

refused52 : Refuses (codes "DEADBAND") (fields (negsuc 0 ∷ []) [] (pos 5 ∷ []) (negsuc 0 ∷ []) [] (pos 5 ∷ []) 2 0 [] (pos 0 ∷ negsuc 4 ∷ pos 5 ∷ []) [] None) PortShape (pos 3 ∷ pos 2 ∷ [])
refused52 = refl

refused53 : Refuses (codes "DEADBAND") (fields (negsuc 0 ∷ []) [] (pos 5 ∷ []) (negsuc 0 ∷ []) [] (pos 5 ∷ []) 0 1 [] (pos 0 ∷ negsuc 4 ∷ pos 5 ∷ []) [] None) PortShape (pos 4 ∷ pos 1 ∷ [])
refused53 = refl

refused54 : Refuses (codes "CONVERT") (fields [] [] [] (negsuc 0 ∷ []) [] (pos 5 ∷ []) 0 0 [] (pos 0 ∷ []) [] None) PortShape (pos 1 ∷ pos 0 ∷ [])
refused54 = refl

refused55 : Refuses (codes "CONVERT") (fields (negsuc 0 ∷ negsuc 0 ∷ []) [] (pos 5 ∷ pos 5 ∷ []) (negsuc 0 ∷ []) [] (pos 5 ∷ []) 0 0 [] (pos 0 ∷ []) [] None) PortShape (pos 1 ∷ pos 2 ∷ [])
refused55 = refl

refused56 : Refuses (codes "CONVERT") (fields (negsuc 0 ∷ []) [] (pos 5 ∷ []) [] [] [] 0 0 [] (pos 0 ∷ []) [] None) PortShape (pos 2 ∷ pos 0 ∷ [])
refused56 = refl

refused57 : Refuses (codes "CONVERT") (fields (negsuc 0 ∷ []) [] (pos 5 ∷ []) (negsuc 0 ∷ negsuc 0 ∷ []) [] (pos 5 ∷ pos 5 ∷ []) 0 0 [] (pos 0 ∷ []) [] None) PortShape (pos 2 ∷ pos 2 ∷ [])
refused57 = refl

refused58 : Refuses (codes "CONVERT") (fields (negsuc 0 ∷ []) [] (pos 5 ∷ []) (negsuc 0 ∷ []) [] (pos 5 ∷ []) 2 0 [] (pos 0 ∷ []) [] None) PortShape (pos 3 ∷ pos 2 ∷ [])
refused58 = refl

refused59 : Refuses (codes "CONVERT") (fields (negsuc 0 ∷ []) [] (pos 5 ∷ []) (negsuc 0 ∷ []) [] (pos 5 ∷ []) 0 1 [] (pos 0 ∷ []) [] None) PortShape (pos 4 ∷ pos 1 ∷ [])
refused59 = refl

refused60 : Refuses (codes "MUX") (fields (negsuc 0 ∷ []) [] (pos 5 ∷ []) (negsuc 0 ∷ []) [] (pos 5 ∷ []) 0 0 [] [] [] None) PortShape (pos 1 ∷ pos 1 ∷ [])
refused60 = refl

refused61 : Refuses (codes "MUX") (fields (many 65 (negsuc 0)) [] (many 65 (pos 5)) (negsuc 0 ∷ []) [] (pos 5 ∷ []) 0 0 [] [] [] None) PortShape (pos 1 ∷ pos 65 ∷ [])
refused61 = refl

refused62 : Refuses (codes "MUX") (fields (negsuc 0 ∷ negsuc 0 ∷ []) [] (pos 5 ∷ pos 5 ∷ []) [] [] [] 0 0 [] [] [] None) PortShape (pos 2 ∷ pos 0 ∷ [])
refused62 = refl

refused63 : Refuses (codes "MUX") (fields (negsuc 0 ∷ negsuc 0 ∷ []) [] (pos 5 ∷ pos 5 ∷ []) (negsuc 0 ∷ negsuc 0 ∷ []) [] (pos 5 ∷ pos 5 ∷ []) 0 0 [] [] [] None) PortShape (pos 2 ∷ pos 2 ∷ [])
refused63 = refl

refused64 : Refuses (codes "MUX") (fields (negsuc 0 ∷ negsuc 0 ∷ []) [] (pos 5 ∷ pos 5 ∷ []) (negsuc 0 ∷ []) [] (pos 5 ∷ []) 2 0 [] [] [] None) PortShape (pos 3 ∷ pos 2 ∷ [])
refused64 = refl

refused65 : Refuses (codes "MUX") (fields (negsuc 0 ∷ negsuc 0 ∷ []) [] (pos 5 ∷ pos 5 ∷ []) (negsuc 0 ∷ []) [] (pos 5 ∷ []) 0 1 [] [] [] None) PortShape (pos 4 ∷ pos 1 ∷ [])
refused65 = refl

refused66 : Refuses (codes "DEMUX") (fields [] [] [] (negsuc 0 ∷ negsuc 0 ∷ []) [] (pos 5 ∷ pos 5 ∷ []) 0 0 [] [] [] None) PortShape (pos 1 ∷ pos 0 ∷ [])
refused66 = refl

refused67 : Refuses (codes "DEMUX") (fields (negsuc 0 ∷ negsuc 0 ∷ []) [] (pos 5 ∷ pos 5 ∷ []) (negsuc 0 ∷ negsuc 0 ∷ []) [] (pos 5 ∷ pos 5 ∷ []) 0 0 [] [] [] None) PortShape (pos 1 ∷ pos 2 ∷ [])
refused67 = refl

refused68 : Refuses (codes "DEMUX") (fields (negsuc 0 ∷ []) [] (pos 5 ∷ []) (negsuc 0 ∷ []) [] (pos 5 ∷ []) 0 0 [] [] [] None) PortShape (pos 2 ∷ pos 1 ∷ [])
refused68 = refl

refused69 : Refuses (codes "DEMUX") (fields (negsuc 0 ∷ []) [] (pos 5 ∷ []) (many 65 (negsuc 0)) [] (many 65 (pos 5)) 0 0 [] [] [] None) PortShape (pos 2 ∷ pos 65 ∷ [])
refused69 = refl

refused70 : Refuses (codes "DEMUX") (fields (negsuc 0 ∷ []) [] (pos 5 ∷ []) (negsuc 0 ∷ negsuc 0 ∷ []) [] (pos 5 ∷ pos 5 ∷ []) 2 0 [] [] [] None) PortShape (pos 3 ∷ pos 2 ∷ [])
refused70 = refl

refused71 : Refuses (codes "DEMUX") (fields (negsuc 0 ∷ []) [] (pos 5 ∷ []) (negsuc 0 ∷ negsuc 0 ∷ []) [] (pos 5 ∷ pos 5 ∷ []) 0 1 [] [] [] None) PortShape (pos 4 ∷ pos 1 ∷ [])
refused71 = refl

refused72 : Refuses (codes "EXTRACTOR") (fields [] [] [] (negsuc 0 ∷ []) [] (pos 5 ∷ []) 0 0 [] (pos 2 ∷ pos 1 ∷ []) [] None) PortShape (pos 1 ∷ pos 0 ∷ [])
refused72 = refl

refused73 : Refuses (codes "EXTRACTOR") (fields (negsuc 0 ∷ negsuc 0 ∷ []) [] (pos 5 ∷ pos 5 ∷ []) (negsuc 0 ∷ []) [] (pos 5 ∷ []) 0 0 [] (pos 2 ∷ pos 1 ∷ []) [] None) PortShape (pos 1 ∷ pos 2 ∷ [])
refused73 = refl

refused74 : Refuses (codes "EXTRACTOR") (fields (negsuc 0 ∷ []) [] (pos 5 ∷ []) [] [] [] 0 0 [] (pos 2 ∷ pos 1 ∷ []) [] None) PortShape (pos 2 ∷ pos 0 ∷ [])
refused74 = refl

refused75 : Refuses (codes "EXTRACTOR") (fields (negsuc 0 ∷ []) [] (pos 5 ∷ []) (negsuc 0 ∷ negsuc 0 ∷ []) [] (pos 5 ∷ pos 5 ∷ []) 0 0 [] (pos 2 ∷ pos 1 ∷ []) [] None) PortShape (pos 2 ∷ pos 2 ∷ [])
refused75 = refl

refused76 : Refuses (codes "EXTRACTOR") (fields (negsuc 0 ∷ []) [] (pos 5 ∷ []) (negsuc 0 ∷ []) [] (pos 5 ∷ []) 2 0 [] (pos 2 ∷ pos 1 ∷ []) [] None) PortShape (pos 3 ∷ pos 2 ∷ [])
refused76 = refl

refused77 : Refuses (codes "EXTRACTOR") (fields (negsuc 0 ∷ []) [] (pos 5 ∷ []) (negsuc 0 ∷ []) [] (pos 5 ∷ []) 0 1 [] (pos 2 ∷ pos 1 ∷ []) [] None) PortShape (pos 4 ∷ pos 1 ∷ [])
refused77 = refl

refused78 : Refuses (codes "LOGICAL_OP") (fields [] [] [] (negsuc 0 ∷ []) [] (pos 5 ∷ []) 0 0 [] (pos 0 ∷ pos 0 ∷ []) [] None) PortShape (pos 1 ∷ pos 0 ∷ [])
refused78 = refl

refused79 : Refuses (codes "LOGICAL_OP") (fields (many 65 (negsuc 0)) [] (many 65 (pos 5)) (negsuc 0 ∷ []) [] (pos 5 ∷ []) 0 0 [] (pos 0 ∷ pos 0 ∷ []) [] None) PortShape (pos 1 ∷ pos 65 ∷ [])
refused79 = refl

refused80 : Refuses (codes "LOGICAL_OP") (fields (negsuc 0 ∷ negsuc 0 ∷ []) [] (pos 5 ∷ pos 5 ∷ []) [] [] [] 0 0 [] (pos 0 ∷ pos 0 ∷ []) [] None) PortShape (pos 2 ∷ pos 0 ∷ [])
refused80 = refl

refused81 : Refuses (codes "LOGICAL_OP") (fields (negsuc 0 ∷ negsuc 0 ∷ []) [] (pos 5 ∷ pos 5 ∷ []) (negsuc 0 ∷ negsuc 0 ∷ []) [] (pos 5 ∷ pos 5 ∷ []) 0 0 [] (pos 0 ∷ pos 0 ∷ []) [] None) PortShape (pos 2 ∷ pos 2 ∷ [])
refused81 = refl

refused82 : Refuses (codes "LOGICAL_OP") (fields (negsuc 0 ∷ negsuc 0 ∷ []) [] (pos 5 ∷ pos 5 ∷ []) (negsuc 0 ∷ []) [] (pos 5 ∷ []) 2 0 [] (pos 0 ∷ pos 0 ∷ []) [] None) PortShape (pos 3 ∷ pos 2 ∷ [])
refused82 = refl

refused83 : Refuses (codes "LOGICAL_OP") (fields (negsuc 0 ∷ negsuc 0 ∷ []) [] (pos 5 ∷ pos 5 ∷ []) (negsuc 0 ∷ []) [] (pos 5 ∷ []) 0 1 [] (pos 0 ∷ pos 0 ∷ []) [] None) PortShape (pos 4 ∷ pos 1 ∷ [])
refused83 = refl

refused84 : Refuses (codes "RELATIONALOP") (fields (negsuc 0 ∷ []) [] (pos 5 ∷ []) (negsuc 0 ∷ []) [] (pos 5 ∷ []) 0 0 [] (pos 0 ∷ []) [] None) PortShape (pos 1 ∷ pos 1 ∷ [])
refused84 = refl

refused85 : Refuses (codes "RELATIONALOP") (fields (negsuc 0 ∷ negsuc 0 ∷ negsuc 0 ∷ []) [] (pos 5 ∷ pos 5 ∷ pos 5 ∷ []) (negsuc 0 ∷ []) [] (pos 5 ∷ []) 0 0 [] (pos 0 ∷ []) [] None) PortShape (pos 1 ∷ pos 3 ∷ [])
refused85 = refl

refused86 : Refuses (codes "RELATIONALOP") (fields (negsuc 0 ∷ negsuc 0 ∷ []) [] (pos 5 ∷ pos 5 ∷ []) [] [] [] 0 0 [] (pos 0 ∷ []) [] None) PortShape (pos 2 ∷ pos 0 ∷ [])
refused86 = refl

refused87 : Refuses (codes "RELATIONALOP") (fields (negsuc 0 ∷ negsuc 0 ∷ []) [] (pos 5 ∷ pos 5 ∷ []) (negsuc 0 ∷ negsuc 0 ∷ []) [] (pos 5 ∷ pos 5 ∷ []) 0 0 [] (pos 0 ∷ []) [] None) PortShape (pos 2 ∷ pos 2 ∷ [])
refused87 = refl

refused88 : Refuses (codes "RELATIONALOP") (fields (negsuc 0 ∷ negsuc 0 ∷ []) [] (pos 5 ∷ pos 5 ∷ []) (negsuc 0 ∷ []) [] (pos 5 ∷ []) 2 0 [] (pos 0 ∷ []) [] None) PortShape (pos 3 ∷ pos 2 ∷ [])
refused88 = refl

refused89 : Refuses (codes "RELATIONALOP") (fields (negsuc 0 ∷ negsuc 0 ∷ []) [] (pos 5 ∷ pos 5 ∷ []) (negsuc 0 ∷ []) [] (pos 5 ∷ []) 0 1 [] (pos 0 ∷ []) [] None) PortShape (pos 4 ∷ pos 1 ∷ [])
refused89 = refl

refused90 : Refuses (codes "SHIFT") (fields [] [] [] (negsuc 0 ∷ []) [] (pos 5 ∷ []) 0 0 [] (pos 3 ∷ pos 0 ∷ []) [] None) PortShape (pos 1 ∷ pos 0 ∷ [])
refused90 = refl

refused91 : Refuses (codes "SHIFT") (fields (negsuc 0 ∷ negsuc 0 ∷ []) [] (pos 5 ∷ pos 5 ∷ []) (negsuc 0 ∷ []) [] (pos 5 ∷ []) 0 0 [] (pos 3 ∷ pos 0 ∷ []) [] None) PortShape (pos 1 ∷ pos 2 ∷ [])
refused91 = refl

refused92 : Refuses (codes "SHIFT") (fields (negsuc 0 ∷ []) [] (pos 5 ∷ []) [] [] [] 0 0 [] (pos 3 ∷ pos 0 ∷ []) [] None) PortShape (pos 2 ∷ pos 0 ∷ [])
refused92 = refl

refused93 : Refuses (codes "SHIFT") (fields (negsuc 0 ∷ []) [] (pos 5 ∷ []) (negsuc 0 ∷ negsuc 0 ∷ []) [] (pos 5 ∷ pos 5 ∷ []) 0 0 [] (pos 3 ∷ pos 0 ∷ []) [] None) PortShape (pos 2 ∷ pos 2 ∷ [])
refused93 = refl

refused94 : Refuses (codes "SHIFT") (fields (negsuc 0 ∷ []) [] (pos 5 ∷ []) (negsuc 0 ∷ []) [] (pos 5 ∷ []) 2 0 [] (pos 3 ∷ pos 0 ∷ []) [] None) PortShape (pos 3 ∷ pos 2 ∷ [])
refused94 = refl

refused95 : Refuses (codes "SHIFT") (fields (negsuc 0 ∷ []) [] (pos 5 ∷ []) (negsuc 0 ∷ []) [] (pos 5 ∷ []) 0 1 [] (pos 3 ∷ pos 0 ∷ []) [] None) PortShape (pos 4 ∷ pos 1 ∷ [])
refused95 = refl

refused96 : Refuses (codes "BITSET") (fields [] [] [] (negsuc 0 ∷ []) [] (pos 5 ∷ []) 0 0 [] (pos 3 ∷ []) [] None) PortShape (pos 1 ∷ pos 0 ∷ [])
refused96 = refl

refused97 : Refuses (codes "BITSET") (fields (negsuc 0 ∷ negsuc 0 ∷ []) [] (pos 5 ∷ pos 5 ∷ []) (negsuc 0 ∷ []) [] (pos 5 ∷ []) 0 0 [] (pos 3 ∷ []) [] None) PortShape (pos 1 ∷ pos 2 ∷ [])
refused97 = refl

refused98 : Refuses (codes "BITSET") (fields (negsuc 0 ∷ []) [] (pos 5 ∷ []) [] [] [] 0 0 [] (pos 3 ∷ []) [] None) PortShape (pos 2 ∷ pos 0 ∷ [])
refused98 = refl

refused99 : Refuses (codes "BITSET") (fields (negsuc 0 ∷ []) [] (pos 5 ∷ []) (negsuc 0 ∷ negsuc 0 ∷ []) [] (pos 5 ∷ pos 5 ∷ []) 0 0 [] (pos 3 ∷ []) [] None) PortShape (pos 2 ∷ pos 2 ∷ [])
refused99 = refl

refused100 : Refuses (codes "BITSET") (fields (negsuc 0 ∷ []) [] (pos 5 ∷ []) (negsuc 0 ∷ []) [] (pos 5 ∷ []) 2 0 [] (pos 3 ∷ []) [] None) PortShape (pos 3 ∷ pos 2 ∷ [])
refused100 = refl

refused101 : Refuses (codes "BITSET") (fields (negsuc 0 ∷ []) [] (pos 5 ∷ []) (negsuc 0 ∷ []) [] (pos 5 ∷ []) 0 1 [] (pos 3 ∷ []) [] None) PortShape (pos 4 ∷ pos 1 ∷ [])
refused101 = refl

refused102 : Refuses (codes "BITCLEAR") (fields [] [] [] (negsuc 0 ∷ []) [] (pos 5 ∷ []) 0 0 [] (pos 3 ∷ []) [] None) PortShape (pos 1 ∷ pos 0 ∷ [])
refused102 = refl

refused103 : Refuses (codes "BITCLEAR") (fields (negsuc 0 ∷ negsuc 0 ∷ []) [] (pos 5 ∷ pos 5 ∷ []) (negsuc 0 ∷ []) [] (pos 5 ∷ []) 0 0 [] (pos 3 ∷ []) [] None) PortShape (pos 1 ∷ pos 2 ∷ [])
refused103 = refl

refused104 : Refuses (codes "BITCLEAR") (fields (negsuc 0 ∷ []) [] (pos 5 ∷ []) [] [] [] 0 0 [] (pos 3 ∷ []) [] None) PortShape (pos 2 ∷ pos 0 ∷ [])
refused104 = refl

refused105 : Refuses (codes "BITCLEAR") (fields (negsuc 0 ∷ []) [] (pos 5 ∷ []) (negsuc 0 ∷ negsuc 0 ∷ []) [] (pos 5 ∷ pos 5 ∷ []) 0 0 [] (pos 3 ∷ []) [] None) PortShape (pos 2 ∷ pos 2 ∷ [])
refused105 = refl

refused106 : Refuses (codes "BITCLEAR") (fields (negsuc 0 ∷ []) [] (pos 5 ∷ []) (negsuc 0 ∷ []) [] (pos 5 ∷ []) 2 0 [] (pos 3 ∷ []) [] None) PortShape (pos 3 ∷ pos 2 ∷ [])
refused106 = refl

refused107 : Refuses (codes "BITCLEAR") (fields (negsuc 0 ∷ []) [] (pos 5 ∷ []) (negsuc 0 ∷ []) [] (pos 5 ∷ []) 0 1 [] (pos 3 ∷ []) [] None) PortShape (pos 4 ∷ pos 1 ∷ [])
refused107 = refl

refused108 : Refuses (codes "EXTRACTBITS") (fields [] [] [] (negsuc 0 ∷ []) [] (pos 5 ∷ []) 0 0 [] (pos 1 ∷ pos 3 ∷ []) [] None) PortShape (pos 1 ∷ pos 0 ∷ [])
refused108 = refl

refused109 : Refuses (codes "EXTRACTBITS") (fields (negsuc 0 ∷ negsuc 0 ∷ []) [] (pos 5 ∷ pos 5 ∷ []) (negsuc 0 ∷ []) [] (pos 5 ∷ []) 0 0 [] (pos 1 ∷ pos 3 ∷ []) [] None) PortShape (pos 1 ∷ pos 2 ∷ [])
refused109 = refl

refused110 : Refuses (codes "EXTRACTBITS") (fields (negsuc 0 ∷ []) [] (pos 5 ∷ []) [] [] [] 0 0 [] (pos 1 ∷ pos 3 ∷ []) [] None) PortShape (pos 2 ∷ pos 0 ∷ [])
refused110 = refl

refused111 : Refuses (codes "EXTRACTBITS") (fields (negsuc 0 ∷ []) [] (pos 5 ∷ []) (negsuc 0 ∷ negsuc 0 ∷ []) [] (pos 5 ∷ pos 5 ∷ []) 0 0 [] (pos 1 ∷ pos 3 ∷ []) [] None) PortShape (pos 2 ∷ pos 2 ∷ [])
refused111 = refl

refused112 : Refuses (codes "EXTRACTBITS") (fields (negsuc 0 ∷ []) [] (pos 5 ∷ []) (negsuc 0 ∷ []) [] (pos 5 ∷ []) 2 0 [] (pos 1 ∷ pos 3 ∷ []) [] None) PortShape (pos 3 ∷ pos 2 ∷ [])
refused112 = refl

refused113 : Refuses (codes "EXTRACTBITS") (fields (negsuc 0 ∷ []) [] (pos 5 ∷ []) (negsuc 0 ∷ []) [] (pos 5 ∷ []) 0 1 [] (pos 1 ∷ pos 3 ∷ []) [] None) PortShape (pos 4 ∷ pos 1 ∷ [])
refused113 = refl

refused114 : Refuses (codes "SWITCH2_m") (fields (negsuc 0 ∷ negsuc 0 ∷ []) [] (pos 5 ∷ pos 5 ∷ []) (negsuc 0 ∷ []) [] (pos 5 ∷ []) 0 0 [] (pos 0 ∷ pos 0 ∷ []) [] None) PortShape (pos 1 ∷ pos 2 ∷ [])
refused114 = refl

refused115 : Refuses (codes "SWITCH2_m") (fields (negsuc 0 ∷ negsuc 0 ∷ negsuc 0 ∷ negsuc 0 ∷ []) [] (pos 5 ∷ pos 5 ∷ pos 5 ∷ pos 5 ∷ []) (negsuc 0 ∷ []) [] (pos 5 ∷ []) 0 0 [] (pos 0 ∷ pos 0 ∷ []) [] None) PortShape (pos 1 ∷ pos 4 ∷ [])
refused115 = refl

refused116 : Refuses (codes "SWITCH2_m") (fields (negsuc 0 ∷ negsuc 0 ∷ negsuc 0 ∷ []) [] (pos 5 ∷ pos 5 ∷ pos 5 ∷ []) [] [] [] 0 0 [] (pos 0 ∷ pos 0 ∷ []) [] None) PortShape (pos 2 ∷ pos 0 ∷ [])
refused116 = refl

refused117 : Refuses (codes "SWITCH2_m") (fields (negsuc 0 ∷ negsuc 0 ∷ negsuc 0 ∷ []) [] (pos 5 ∷ pos 5 ∷ pos 5 ∷ []) (negsuc 0 ∷ negsuc 0 ∷ []) [] (pos 5 ∷ pos 5 ∷ []) 0 0 [] (pos 0 ∷ pos 0 ∷ []) [] None) PortShape (pos 2 ∷ pos 2 ∷ [])
refused117 = refl

refused118 : Refuses (codes "SWITCH2_m") (fields (negsuc 0 ∷ negsuc 0 ∷ negsuc 0 ∷ []) [] (pos 5 ∷ pos 5 ∷ pos 5 ∷ []) (negsuc 0 ∷ []) [] (pos 5 ∷ []) 2 0 [] (pos 0 ∷ pos 0 ∷ []) [] None) PortShape (pos 3 ∷ pos 2 ∷ [])
refused118 = refl

refused119 : Refuses (codes "SWITCH2_m") (fields (negsuc 0 ∷ negsuc 0 ∷ negsuc 0 ∷ []) [] (pos 5 ∷ pos 5 ∷ pos 5 ∷ []) (negsuc 0 ∷ []) [] (pos 5 ∷ []) 0 1 [] (pos 0 ∷ pos 0 ∷ []) [] None) PortShape (pos 4 ∷ pos 1 ∷ [])
refused119 = refl

refused120 : Refuses (codes "SELECT_m") (fields (negsuc 0 ∷ []) [] (pos 5 ∷ []) (negsuc 0 ∷ []) [] (pos 5 ∷ []) 3 0 [] [] [] None) PortShape (pos 1 ∷ pos 1 ∷ [])
refused120 = refl

refused121 : Refuses (codes "SELECT_m") (fields (many 9 (negsuc 0)) [] (many 9 (pos 5)) (negsuc 0 ∷ []) [] (pos 5 ∷ []) 3 0 [] [] [] None) PortShape (pos 1 ∷ pos 9 ∷ [])
refused121 = refl

refused122 : Refuses (codes "SELECT_m") (fields (negsuc 0 ∷ negsuc 0 ∷ negsuc 0 ∷ []) [] (pos 5 ∷ pos 5 ∷ pos 5 ∷ []) [] [] [] 3 0 [] [] [] None) PortShape (pos 2 ∷ pos 0 ∷ [])
refused122 = refl

refused123 : Refuses (codes "SELECT_m") (fields (negsuc 0 ∷ negsuc 0 ∷ negsuc 0 ∷ []) [] (pos 5 ∷ pos 5 ∷ pos 5 ∷ []) (negsuc 0 ∷ negsuc 0 ∷ []) [] (pos 5 ∷ pos 5 ∷ []) 3 0 [] [] [] None) PortShape (pos 2 ∷ pos 2 ∷ [])
refused123 = refl

refused124 : Refuses (codes "SELECT_m") (fields (negsuc 0 ∷ negsuc 0 ∷ negsuc 0 ∷ []) [] (pos 5 ∷ pos 5 ∷ pos 5 ∷ []) (negsuc 0 ∷ []) [] (pos 5 ∷ []) 2 0 [] [] [] None) PortShape (pos 3 ∷ pos 2 ∷ [])
refused124 = refl

refused125 : Refuses (codes "SELECT_m") (fields (negsuc 0 ∷ negsuc 0 ∷ negsuc 0 ∷ []) [] (pos 5 ∷ pos 5 ∷ pos 5 ∷ []) (negsuc 0 ∷ []) [] (pos 5 ∷ []) 4 0 [] [] [] None) PortShape (pos 3 ∷ pos 4 ∷ [])
refused125 = refl

refused126 : Refuses (codes "SELECT_m") (fields (negsuc 0 ∷ negsuc 0 ∷ negsuc 0 ∷ []) [] (pos 5 ∷ pos 5 ∷ pos 5 ∷ []) (negsuc 0 ∷ []) [] (pos 5 ∷ []) 3 1 [] [] [] None) PortShape (pos 4 ∷ pos 1 ∷ [])
refused126 = refl

refused127 : Refuses (codes "LOGIC") (fields [] [] [] (negsuc 0 ∷ []) [] (pos 5 ∷ []) 0 0 [] (pos 0 ∷ pos 0 ∷ pos 0 ∷ pos 1 ∷ []) [] None) PortShape (pos 1 ∷ pos 0 ∷ [])
refused127 = refl

refused128 : Refuses (codes "LOGIC") (fields (many 9 (negsuc 0)) [] (many 9 (pos 5)) (negsuc 0 ∷ []) [] (pos 5 ∷ []) 0 0 [] (pos 0 ∷ pos 0 ∷ pos 0 ∷ pos 1 ∷ []) [] None) PortShape (pos 1 ∷ pos 9 ∷ [])
refused128 = refl

refused129 : Refuses (codes "LOGIC") (fields (negsuc 0 ∷ negsuc 0 ∷ []) [] (pos 5 ∷ pos 5 ∷ []) [] [] [] 0 0 [] (pos 0 ∷ pos 0 ∷ pos 0 ∷ pos 1 ∷ []) [] None) PortShape (pos 2 ∷ pos 0 ∷ [])
refused129 = refl

refused130 : Refuses (codes "LOGIC") (fields (negsuc 0 ∷ negsuc 0 ∷ []) [] (pos 5 ∷ pos 5 ∷ []) (many 9 (negsuc 0)) [] (many 9 (pos 5)) 0 0 [] (pos 0 ∷ pos 0 ∷ pos 0 ∷ pos 1 ∷ []) [] None) PortShape (pos 2 ∷ pos 9 ∷ [])
refused130 = refl

refused131 : Refuses (codes "LOGIC") (fields (negsuc 0 ∷ negsuc 0 ∷ []) [] (pos 5 ∷ pos 5 ∷ []) (negsuc 0 ∷ []) [] (pos 5 ∷ []) 2 0 [] (pos 0 ∷ pos 0 ∷ pos 0 ∷ pos 1 ∷ []) [] None) PortShape (pos 3 ∷ pos 2 ∷ [])
refused131 = refl

refused132 : Refuses (codes "LOGIC") (fields (negsuc 0 ∷ negsuc 0 ∷ []) [] (pos 5 ∷ pos 5 ∷ []) (negsuc 0 ∷ []) [] (pos 5 ∷ []) 0 1 [] (pos 0 ∷ pos 0 ∷ pos 0 ∷ pos 1 ∷ []) [] None) PortShape (pos 4 ∷ pos 1 ∷ [])
refused132 = refl

refused133 : Refuses (codes "ANDLOG_f") (fields (negsuc 0 ∷ []) [] (pos 5 ∷ []) (negsuc 0 ∷ []) [] (pos 5 ∷ []) 2 0 [] [] [] None) PortShape (pos 1 ∷ pos 1 ∷ [])
refused133 = refl

refused134 : Refuses (codes "ANDLOG_f") (fields [] [] [] [] [] [] 2 0 [] [] [] None) PortShape (pos 2 ∷ pos 0 ∷ [])
refused134 = refl

refused135 : Refuses (codes "ANDLOG_f") (fields [] [] [] (negsuc 0 ∷ negsuc 0 ∷ []) [] (pos 5 ∷ pos 5 ∷ []) 2 0 [] [] [] None) PortShape (pos 2 ∷ pos 2 ∷ [])
refused135 = refl

refused136 : Refuses (codes "ANDLOG_f") (fields [] [] [] (negsuc 0 ∷ []) [] (pos 5 ∷ []) 1 0 [] [] [] None) PortShape (pos 3 ∷ pos 1 ∷ [])
refused136 = refl

refused137 : Refuses (codes "ANDLOG_f") (fields [] [] [] (negsuc 0 ∷ []) [] (pos 5 ∷ []) 3 0 [] [] [] None) PortShape (pos 3 ∷ pos 3 ∷ [])
refused137 = refl

refused138 : Refuses (codes "ANDLOG_f") (fields [] [] [] (negsuc 0 ∷ []) [] (pos 5 ∷ []) 2 1 [] [] [] None) PortShape (pos 4 ∷ pos 1 ∷ [])
refused138 = refl

refused139 : Refuses (codes "DOLLAR_m") (fields [] [] [] (negsuc 0 ∷ []) [] (pos 5 ∷ []) 1 0 (pos 0 ∷ []) [] [] None) PortShape (pos 1 ∷ pos 0 ∷ [])
refused139 = refl

refused140 : Refuses (codes "DOLLAR_m") (fields (negsuc 0 ∷ negsuc 0 ∷ []) [] (pos 5 ∷ pos 5 ∷ []) (negsuc 0 ∷ []) [] (pos 5 ∷ []) 1 0 (pos 0 ∷ []) [] [] None) PortShape (pos 1 ∷ pos 2 ∷ [])
refused140 = refl

refused141 : Refuses (codes "DOLLAR_m") (fields (negsuc 0 ∷ []) [] (pos 5 ∷ []) [] [] [] 1 0 (pos 0 ∷ []) [] [] None) PortShape (pos 2 ∷ pos 0 ∷ [])
refused141 = refl

refused142 : Refuses (codes "DOLLAR_m") (fields (negsuc 0 ∷ []) [] (pos 5 ∷ []) (negsuc 0 ∷ negsuc 0 ∷ []) [] (pos 5 ∷ pos 5 ∷ []) 1 0 (pos 0 ∷ []) [] [] None) PortShape (pos 2 ∷ pos 2 ∷ [])
refused142 = refl

refused143 : Refuses (codes "DOLLAR_m") (fields (negsuc 0 ∷ []) [] (pos 5 ∷ []) (negsuc 0 ∷ []) [] (pos 5 ∷ []) 2 0 (pos 0 ∷ []) [] [] None) PortShape (pos 3 ∷ pos 2 ∷ [])
refused143 = refl

refused144 : Refuses (codes "DOLLAR_m") (fields (negsuc 0 ∷ []) [] (pos 5 ∷ []) (negsuc 0 ∷ []) [] (pos 5 ∷ []) 1 1 (pos 0 ∷ []) [] [] None) PortShape (pos 4 ∷ pos 1 ∷ [])
refused144 = refl

refused145 : Refuses (codes "SAMPHOLD_m") (fields [] [] [] (negsuc 0 ∷ []) [] (pos 5 ∷ []) 1 0 [] [] [] None) PortShape (pos 1 ∷ pos 0 ∷ [])
refused145 = refl

refused146 : Refuses (codes "SAMPHOLD_m") (fields (negsuc 0 ∷ negsuc 0 ∷ []) [] (pos 5 ∷ pos 5 ∷ []) (negsuc 0 ∷ []) [] (pos 5 ∷ []) 1 0 [] [] [] None) PortShape (pos 1 ∷ pos 2 ∷ [])
refused146 = refl

refused147 : Refuses (codes "SAMPHOLD_m") (fields (negsuc 0 ∷ []) [] (pos 5 ∷ []) [] [] [] 1 0 [] [] [] None) PortShape (pos 2 ∷ pos 0 ∷ [])
refused147 = refl

refused148 : Refuses (codes "SAMPHOLD_m") (fields (negsuc 0 ∷ []) [] (pos 5 ∷ []) (negsuc 0 ∷ negsuc 0 ∷ []) [] (pos 5 ∷ pos 5 ∷ []) 1 0 [] [] [] None) PortShape (pos 2 ∷ pos 2 ∷ [])
refused148 = refl

refused149 : Refuses (codes "SAMPHOLD_m") (fields (negsuc 0 ∷ []) [] (pos 5 ∷ []) (negsuc 0 ∷ []) [] (pos 5 ∷ []) 2 0 [] [] [] None) PortShape (pos 3 ∷ pos 2 ∷ [])
refused149 = refl

refused150 : Refuses (codes "SAMPHOLD_m") (fields (negsuc 0 ∷ []) [] (pos 5 ∷ []) (negsuc 0 ∷ []) [] (pos 5 ∷ []) 1 1 [] [] [] None) PortShape (pos 4 ∷ pos 1 ∷ [])
refused150 = refl

refused151 : Refuses (codes "REGISTER") (fields [] [] [] (negsuc 0 ∷ []) [] (pos 5 ∷ []) 1 0 (pos 0 ∷ pos 0 ∷ []) [] [] None) PortShape (pos 1 ∷ pos 0 ∷ [])
refused151 = refl

refused152 : Refuses (codes "REGISTER") (fields (negsuc 0 ∷ negsuc 0 ∷ []) [] (pos 5 ∷ pos 5 ∷ []) (negsuc 0 ∷ []) [] (pos 5 ∷ []) 1 0 (pos 0 ∷ pos 0 ∷ []) [] [] None) PortShape (pos 1 ∷ pos 2 ∷ [])
refused152 = refl

refused153 : Refuses (codes "REGISTER") (fields (negsuc 0 ∷ []) [] (pos 5 ∷ []) [] [] [] 1 0 (pos 0 ∷ pos 0 ∷ []) [] [] None) PortShape (pos 2 ∷ pos 0 ∷ [])
refused153 = refl

refused154 : Refuses (codes "REGISTER") (fields (negsuc 0 ∷ []) [] (pos 5 ∷ []) (negsuc 0 ∷ negsuc 0 ∷ []) [] (pos 5 ∷ pos 5 ∷ []) 1 0 (pos 0 ∷ pos 0 ∷ []) [] [] None) PortShape (pos 2 ∷ pos 2 ∷ [])
refused154 = refl

refused155 : Refuses (codes "REGISTER") (fields (negsuc 0 ∷ []) [] (pos 5 ∷ []) (negsuc 0 ∷ []) [] (pos 5 ∷ []) 2 0 (pos 0 ∷ pos 0 ∷ []) [] [] None) PortShape (pos 3 ∷ pos 2 ∷ [])
refused155 = refl

refused156 : Refuses (codes "REGISTER") (fields (negsuc 0 ∷ []) [] (pos 5 ∷ []) (negsuc 0 ∷ []) [] (pos 5 ∷ []) 1 1 (pos 0 ∷ pos 0 ∷ []) [] [] None) PortShape (pos 4 ∷ pos 1 ∷ [])
refused156 = refl

refused157 : Refuses (codes "Modulo_Count") (fields (negsuc 0 ∷ []) [] (pos 5 ∷ []) (negsuc 0 ∷ []) [] (pos 5 ∷ []) 1 0 (pos 0 ∷ []) (pos 10 ∷ []) [] None) PortShape (pos 1 ∷ pos 1 ∷ [])
refused157 = refl

refused158 : Refuses (codes "Modulo_Count") (fields [] [] [] [] [] [] 1 0 (pos 0 ∷ []) (pos 10 ∷ []) [] None) PortShape (pos 2 ∷ pos 0 ∷ [])
refused158 = refl

refused159 : Refuses (codes "Modulo_Count") (fields [] [] [] (negsuc 0 ∷ negsuc 0 ∷ []) [] (pos 5 ∷ pos 5 ∷ []) 1 0 (pos 0 ∷ []) (pos 10 ∷ []) [] None) PortShape (pos 2 ∷ pos 2 ∷ [])
refused159 = refl

refused160 : Refuses (codes "Modulo_Count") (fields [] [] [] (negsuc 0 ∷ []) [] (pos 5 ∷ []) 0 0 (pos 0 ∷ []) (pos 10 ∷ []) [] None) PortShape (pos 3 ∷ pos 0 ∷ [])
refused160 = refl

refused161 : Refuses (codes "Modulo_Count") (fields [] [] [] (negsuc 0 ∷ []) [] (pos 5 ∷ []) 2 0 (pos 0 ∷ []) (pos 10 ∷ []) [] None) PortShape (pos 3 ∷ pos 2 ∷ [])
refused161 = refl

refused162 : Refuses (codes "Modulo_Count") (fields [] [] [] (negsuc 0 ∷ []) [] (pos 5 ∷ []) 1 1 (pos 0 ∷ []) (pos 10 ∷ []) [] None) PortShape (pos 4 ∷ pos 1 ∷ [])
refused162 = refl

refused163 : Refuses (codes "GATED_DELAY") (fields (negsuc 0 ∷ []) [] (pos 5 ∷ []) (negsuc 0 ∷ []) [] (pos 5 ∷ []) 1 0 (pos 0 ∷ []) [] [] None) PortShape (pos 1 ∷ pos 1 ∷ [])
refused163 = refl

refused164 : Refuses (codes "GATED_DELAY") (fields (negsuc 0 ∷ negsuc 0 ∷ negsuc 0 ∷ []) [] (pos 5 ∷ pos 5 ∷ pos 5 ∷ []) (negsuc 0 ∷ []) [] (pos 5 ∷ []) 1 0 (pos 0 ∷ []) [] [] None) PortShape (pos 1 ∷ pos 3 ∷ [])
refused164 = refl

refused165 : Refuses (codes "GATED_DELAY") (fields (negsuc 0 ∷ negsuc 0 ∷ []) [] (pos 5 ∷ pos 5 ∷ []) [] [] [] 1 0 (pos 0 ∷ []) [] [] None) PortShape (pos 2 ∷ pos 0 ∷ [])
refused165 = refl

refused166 : Refuses (codes "GATED_DELAY") (fields (negsuc 0 ∷ negsuc 0 ∷ []) [] (pos 5 ∷ pos 5 ∷ []) (negsuc 0 ∷ negsuc 0 ∷ []) [] (pos 5 ∷ pos 5 ∷ []) 1 0 (pos 0 ∷ []) [] [] None) PortShape (pos 2 ∷ pos 2 ∷ [])
refused166 = refl

refused167 : Refuses (codes "GATED_DELAY") (fields (negsuc 0 ∷ negsuc 0 ∷ []) [] (pos 5 ∷ pos 5 ∷ []) (negsuc 0 ∷ []) [] (pos 5 ∷ []) 2 0 (pos 0 ∷ []) [] [] None) PortShape (pos 3 ∷ pos 2 ∷ [])
refused167 = refl

refused168 : Refuses (codes "GATED_DELAY") (fields (negsuc 0 ∷ negsuc 0 ∷ []) [] (pos 5 ∷ pos 5 ∷ []) (negsuc 0 ∷ []) [] (pos 5 ∷ []) 1 1 (pos 0 ∷ []) [] [] None) PortShape (pos 4 ∷ pos 1 ∷ [])
refused168 = refl

refused169 : Refuses (codes "SENSOR") (fields (negsuc 0 ∷ []) [] (pos 5 ∷ []) (negsuc 0 ∷ []) [] (pos 5 ∷ []) 1 0 [] (pos 1 ∷ []) [] None) PortShape (pos 1 ∷ pos 1 ∷ [])
refused169 = refl

refused170 : Refuses (codes "SENSOR") (fields [] [] [] [] [] [] 1 0 [] (pos 1 ∷ []) [] None) PortShape (pos 2 ∷ pos 0 ∷ [])
refused170 = refl

refused171 : Refuses (codes "SENSOR") (fields [] [] [] (negsuc 0 ∷ negsuc 0 ∷ []) [] (pos 5 ∷ pos 5 ∷ []) 1 0 [] (pos 1 ∷ []) [] None) PortShape (pos 2 ∷ pos 2 ∷ [])
refused171 = refl

refused172 : Refuses (codes "SENSOR") (fields [] [] [] (negsuc 0 ∷ []) [] (pos 5 ∷ []) 0 0 [] (pos 1 ∷ []) [] None) PortShape (pos 3 ∷ pos 0 ∷ [])
refused172 = refl

refused173 : Refuses (codes "SENSOR") (fields [] [] [] (negsuc 0 ∷ []) [] (pos 5 ∷ []) 2 0 [] (pos 1 ∷ []) [] None) PortShape (pos 3 ∷ pos 2 ∷ [])
refused173 = refl

refused174 : Refuses (codes "SENSOR") (fields [] [] [] (negsuc 0 ∷ []) [] (pos 5 ∷ []) 1 1 [] (pos 1 ∷ []) [] None) PortShape (pos 4 ∷ pos 1 ∷ [])
refused174 = refl

refused175 : Refuses (codes "EVTDLY_c") (fields (negsuc 0 ∷ []) [] (pos 5 ∷ []) [] [] [] 1 1 [] (pos 5 ∷ []) (pos 0 ∷ []) None) PortShape (pos 1 ∷ pos 1 ∷ [])
refused175 = refl

refused176 : Refuses (codes "EVTDLY_c") (fields [] [] [] (negsuc 0 ∷ []) [] (pos 5 ∷ []) 1 1 [] (pos 5 ∷ []) (pos 0 ∷ []) None) PortShape (pos 2 ∷ pos 1 ∷ [])
refused176 = refl

refused177 : Refuses (codes "EVTDLY_c") (fields [] [] [] [] [] [] 0 1 [] (pos 5 ∷ []) (pos 0 ∷ []) None) PortShape (pos 3 ∷ pos 0 ∷ [])
refused177 = refl

refused178 : Refuses (codes "EVTDLY_c") (fields [] [] [] [] [] [] 2 1 [] (pos 5 ∷ []) (pos 0 ∷ []) None) PortShape (pos 3 ∷ pos 2 ∷ [])
refused178 = refl

refused179 : Refuses (codes "EVTDLY_c") (fields [] [] [] [] [] [] 1 0 [] (pos 5 ∷ []) (pos 0 ∷ []) None) PortShape (pos 4 ∷ pos 0 ∷ [])
refused179 = refl

refused180 : Refuses (codes "EVTDLY_c") (fields [] [] [] [] [] [] 1 2 [] (pos 5 ∷ []) (pos 0 ∷ []) None) PortShape (pos 4 ∷ pos 2 ∷ [])
refused180 = refl

refused181 : Refuses (codes "EVTVARDLY") (fields [] [] [] [] [] [] 1 1 [] [] (negsuc 0 ∷ []) None) PortShape (pos 1 ∷ pos 0 ∷ [])
refused181 = refl

refused182 : Refuses (codes "EVTVARDLY") (fields (negsuc 0 ∷ negsuc 0 ∷ []) [] (pos 5 ∷ pos 5 ∷ []) [] [] [] 1 1 [] [] (negsuc 0 ∷ []) None) PortShape (pos 1 ∷ pos 2 ∷ [])
refused182 = refl

refused183 : Refuses (codes "EVTVARDLY") (fields (negsuc 0 ∷ []) [] (pos 5 ∷ []) (negsuc 0 ∷ []) [] (pos 5 ∷ []) 1 1 [] [] (negsuc 0 ∷ []) None) PortShape (pos 2 ∷ pos 1 ∷ [])
refused183 = refl

refused184 : Refuses (codes "EVTVARDLY") (fields (negsuc 0 ∷ []) [] (pos 5 ∷ []) [] [] [] 0 1 [] [] (negsuc 0 ∷ []) None) PortShape (pos 3 ∷ pos 0 ∷ [])
refused184 = refl

refused185 : Refuses (codes "EVTVARDLY") (fields (negsuc 0 ∷ []) [] (pos 5 ∷ []) [] [] [] 2 1 [] [] (negsuc 0 ∷ []) None) PortShape (pos 3 ∷ pos 2 ∷ [])
refused185 = refl

refused186 : Refuses (codes "EVTVARDLY") (fields (negsuc 0 ∷ []) [] (pos 5 ∷ []) [] [] [] 1 0 [] [] (negsuc 0 ∷ []) None) PortShape (pos 4 ∷ pos 0 ∷ [])
refused186 = refl

refused187 : Refuses (codes "EVTVARDLY") (fields (negsuc 0 ∷ []) [] (pos 5 ∷ []) [] [] [] 1 2 [] [] (negsuc 0 ∷ []) None) PortShape (pos 4 ∷ pos 2 ∷ [])
refused187 = refl

refused188 : Refuses (codes "IFTHEL_f") (fields [] [] [] [] [] [] 0 2 [] [] [] None) PortShape (pos 1 ∷ pos 0 ∷ [])
refused188 = refl

refused189 : Refuses (codes "IFTHEL_f") (fields (negsuc 0 ∷ negsuc 0 ∷ []) [] (pos 5 ∷ pos 5 ∷ []) [] [] [] 0 2 [] [] [] None) PortShape (pos 1 ∷ pos 2 ∷ [])
refused189 = refl

refused190 : Refuses (codes "IFTHEL_f") (fields (negsuc 0 ∷ []) [] (pos 5 ∷ []) (negsuc 0 ∷ []) [] (pos 5 ∷ []) 0 2 [] [] [] None) PortShape (pos 2 ∷ pos 1 ∷ [])
refused190 = refl

refused191 : Refuses (codes "IFTHEL_f") (fields (negsuc 0 ∷ []) [] (pos 5 ∷ []) [] [] [] 2 2 [] [] [] None) PortShape (pos 3 ∷ pos 2 ∷ [])
refused191 = refl

refused192 : Refuses (codes "IFTHEL_f") (fields (negsuc 0 ∷ []) [] (pos 5 ∷ []) [] [] [] 0 1 [] [] [] None) PortShape (pos 4 ∷ pos 1 ∷ [])
refused192 = refl

refused193 : Refuses (codes "IFTHEL_f") (fields (negsuc 0 ∷ []) [] (pos 5 ∷ []) [] [] [] 0 3 [] [] [] None) PortShape (pos 4 ∷ pos 3 ∷ [])
refused193 = refl

refused194 : Refuses (codes "ESELECT_f") (fields [] [] [] [] [] [] 0 3 [] [] [] None) PortShape (pos 1 ∷ pos 0 ∷ [])
refused194 = refl

refused195 : Refuses (codes "ESELECT_f") (fields (negsuc 0 ∷ negsuc 0 ∷ []) [] (pos 5 ∷ pos 5 ∷ []) [] [] [] 0 3 [] [] [] None) PortShape (pos 1 ∷ pos 2 ∷ [])
refused195 = refl

refused196 : Refuses (codes "ESELECT_f") (fields (negsuc 0 ∷ []) [] (pos 5 ∷ []) (negsuc 0 ∷ []) [] (pos 5 ∷ []) 0 3 [] [] [] None) PortShape (pos 2 ∷ pos 1 ∷ [])
refused196 = refl

refused197 : Refuses (codes "ESELECT_f") (fields (negsuc 0 ∷ []) [] (pos 5 ∷ []) [] [] [] 2 3 [] [] [] None) PortShape (pos 3 ∷ pos 2 ∷ [])
refused197 = refl

refused198 : Refuses (codes "ESELECT_f") (fields (negsuc 0 ∷ []) [] (pos 5 ∷ []) [] [] [] 0 1 [] [] [] None) PortShape (pos 4 ∷ pos 1 ∷ [])
refused198 = refl

refused199 : Refuses (codes "ESELECT_f") (fields (negsuc 0 ∷ []) [] (pos 5 ∷ []) [] [] [] 0 65 [] [] [] None) PortShape (pos 4 ∷ pos 65 ∷ [])
refused199 = refl

refused200 : Refuses (codes "HALT_f") (fields (negsuc 0 ∷ []) [] (pos 5 ∷ []) [] [] [] 1 0 [] [] [] None) PortShape (pos 1 ∷ pos 1 ∷ [])
refused200 = refl

refused201 : Refuses (codes "HALT_f") (fields [] [] [] (negsuc 0 ∷ []) [] (pos 5 ∷ []) 1 0 [] [] [] None) PortShape (pos 2 ∷ pos 1 ∷ [])
refused201 = refl

refused202 : Refuses (codes "HALT_f") (fields [] [] [] [] [] [] 0 0 [] [] [] None) PortShape (pos 3 ∷ pos 0 ∷ [])
refused202 = refl

refused203 : Refuses (codes "HALT_f") (fields [] [] [] [] [] [] 2 0 [] [] [] None) PortShape (pos 3 ∷ pos 2 ∷ [])
refused203 = refl

refused204 : Refuses (codes "HALT_f") (fields [] [] [] [] [] [] 1 1 [] [] [] None) PortShape (pos 4 ∷ pos 1 ∷ [])
refused204 = refl

refused205 : Refuses (codes "SUMMATION") (fields (negsuc 0 ∷ negsuc 0 ∷ []) (pos 1 ∷ []) (pos 5 ∷ pos 5 ∷ []) (negsuc 0 ∷ []) [] (pos 5 ∷ []) 0 0 [] (pos 0 ∷ pos 1 ∷ negsuc 0 ∷ []) [] None) PortShape (pos 5 ∷ pos 1 ∷ [])
refused205 = refl

refused206 : Refuses (codes "SUMMATION") (fields (negsuc 0 ∷ negsuc 0 ∷ []) (pos 1 ∷ pos 1 ∷ pos 1 ∷ []) (pos 5 ∷ pos 5 ∷ []) (negsuc 0 ∷ []) [] (pos 5 ∷ []) 0 0 [] (pos 0 ∷ pos 1 ∷ negsuc 0 ∷ []) [] None) PortShape (pos 5 ∷ pos 3 ∷ [])
refused206 = refl

refused207 : Refuses (codes "CONST_m") (fields [] (pos 1 ∷ []) [] (negsuc 0 ∷ []) [] (pos 5 ∷ []) 0 0 [] (pos 7 ∷ []) [] None) PortShape (pos 5 ∷ pos 1 ∷ [])
refused207 = refl

refused208 : Refuses (codes "SUMMATION") (fields (negsuc 0 ∷ negsuc 0 ∷ []) [] (pos 5 ∷ []) (negsuc 0 ∷ []) [] (pos 5 ∷ []) 0 0 [] (pos 0 ∷ pos 1 ∷ negsuc 0 ∷ []) [] None) PortShape (pos 6 ∷ pos 1 ∷ [])
refused208 = refl

refused209 : Refuses (codes "SUMMATION") (fields (negsuc 0 ∷ negsuc 0 ∷ []) [] [] (negsuc 0 ∷ []) [] (pos 5 ∷ []) 0 0 [] (pos 0 ∷ pos 1 ∷ negsuc 0 ∷ []) [] None) PortShape (pos 6 ∷ pos 0 ∷ [])
refused209 = refl

refused210 : Refuses (codes "SUMMATION") (fields (negsuc 0 ∷ negsuc 0 ∷ []) [] (pos 5 ∷ pos 5 ∷ pos 5 ∷ []) (negsuc 0 ∷ []) [] (pos 5 ∷ []) 0 0 [] (pos 0 ∷ pos 1 ∷ negsuc 0 ∷ []) [] None) PortShape (pos 6 ∷ pos 3 ∷ [])
refused210 = refl

refused211 : Refuses (codes "GAINBLK") (fields (negsuc 0 ∷ []) [] (pos 5 ∷ []) (negsuc 0 ∷ []) (pos 1 ∷ pos 1 ∷ []) (pos 5 ∷ []) 0 0 [] (pos 0 ∷ pos 3 ∷ []) [] None) PortShape (pos 7 ∷ pos 2 ∷ [])
refused211 = refl

refused212 : Refuses (codes "HALT_f") (fields [] [] [] [] (pos 1 ∷ []) [] 1 0 [] [] [] None) PortShape (pos 7 ∷ pos 1 ∷ [])
refused212 = refl

refused213 : Refuses (codes "GAINBLK") (fields (negsuc 0 ∷ []) [] (pos 5 ∷ []) (negsuc 0 ∷ []) [] [] 0 0 [] (pos 0 ∷ pos 3 ∷ []) [] None) PortShape (pos 8 ∷ pos 0 ∷ [])
refused213 = refl

refused214 : Refuses (codes "GAINBLK") (fields (negsuc 0 ∷ []) [] (pos 5 ∷ []) (negsuc 0 ∷ []) [] (pos 5 ∷ pos 5 ∷ []) 0 0 [] (pos 0 ∷ pos 3 ∷ []) [] None) PortShape (pos 8 ∷ pos 2 ∷ [])
refused214 = refl

refused215 : Refuses (codes "EVTDLY_c") (fields [] [] [] [] [] [] 1 1 [] (pos 5 ∷ []) [] None) PortShape (pos 9 ∷ pos 0 ∷ [])
refused215 = refl

refused216 : Refuses (codes "EVTDLY_c") (fields [] [] [] [] [] [] 1 1 [] (pos 5 ∷ []) (pos 0 ∷ pos 0 ∷ []) None) PortShape (pos 9 ∷ pos 2 ∷ [])
refused216 = refl

refused217 : Refuses (codes "EVTVARDLY") (fields (negsuc 0 ∷ []) [] (pos 5 ∷ []) [] [] [] 1 1 [] [] (pos 1 ∷ pos 1 ∷ []) None) PortShape (pos 9 ∷ pos 2 ∷ [])
refused217 = refl

refused218 : Refuses (codes "SUMMATION") (fields (pos 1 ∷ []) (pos 1 ∷ pos 1 ∷ []) [] [] (pos 1 ∷ []) (pos 5 ∷ []) 2 1 [] (pos 0 ∷ pos 1 ∷ negsuc 0 ∷ []) [] None) PortShape (pos 1 ∷ pos 1 ∷ [])
refused218 = refl

refused219 : Refuses (codes "SUMMATION") (fields (negsuc 0 ∷ negsuc 0 ∷ []) (pos 1 ∷ []) [] [] (pos 1 ∷ []) (pos 5 ∷ []) 2 1 [] (pos 0 ∷ pos 1 ∷ negsuc 0 ∷ []) [] None) PortShape (pos 2 ∷ pos 0 ∷ [])
refused219 = refl

refused220 : Refuses (codes "SUMMATION") (fields (negsuc 0 ∷ negsuc 0 ∷ []) (pos 1 ∷ []) [] (negsuc 0 ∷ []) (pos 1 ∷ pos 1 ∷ []) [] 2 1 [] (pos 0 ∷ pos 1 ∷ negsuc 0 ∷ []) [] None) PortShape (pos 3 ∷ pos 2 ∷ [])
refused220 = refl

refused221 : Refuses (codes "SUMMATION") (fields (negsuc 0 ∷ negsuc 0 ∷ []) (pos 1 ∷ []) [] (negsuc 0 ∷ []) (pos 1 ∷ pos 1 ∷ []) [] 0 1 [] (pos 0 ∷ pos 1 ∷ negsuc 0 ∷ []) [] None) PortShape (pos 4 ∷ pos 1 ∷ [])
refused221 = refl

refused222 : Refuses (codes "SUMMATION") (fields (negsuc 0 ∷ negsuc 0 ∷ []) (pos 1 ∷ []) [] (negsuc 0 ∷ []) (pos 1 ∷ pos 1 ∷ []) [] 0 0 [] (pos 0 ∷ pos 1 ∷ negsuc 0 ∷ []) [] None) PortShape (pos 5 ∷ pos 1 ∷ [])
refused222 = refl

refused223 : Refuses (codes "SUMMATION") (fields (negsuc 0 ∷ negsuc 0 ∷ []) [] [] (negsuc 0 ∷ []) (pos 1 ∷ pos 1 ∷ []) [] 0 0 [] (pos 0 ∷ pos 1 ∷ negsuc 0 ∷ []) [] None) PortShape (pos 6 ∷ pos 0 ∷ [])
refused223 = refl

refused224 : Refuses (codes "SUMMATION") (fields (negsuc 0 ∷ negsuc 0 ∷ []) [] (pos 5 ∷ pos 5 ∷ []) (negsuc 0 ∷ []) (pos 1 ∷ pos 1 ∷ []) [] 0 0 [] (pos 0 ∷ pos 1 ∷ negsuc 0 ∷ []) [] None) PortShape (pos 7 ∷ pos 2 ∷ [])
refused224 = refl

refused225 : Refuses (codes "EVTVARDLY") (fields (negsuc 0 ∷ []) [] [] [] [] [] 1 1 [] [] [] None) PortShape (pos 6 ∷ pos 0 ∷ [])
refused225 = refl

refused226 : Refuses (codes "SELECT_m") (fields (many 9 (negsuc 0)) [] (many 9 (pos 5)) (negsuc 0 ∷ []) [] (pos 5 ∷ []) 3 0 [] [] [] None) PortShape (pos 1 ∷ pos 9 ∷ [])
refused226 = refl

refused227 : Refuses (codes "SELECT_m") (fields (negsuc 0 ∷ negsuc 0 ∷ negsuc 0 ∷ []) [] (pos 5 ∷ pos 5 ∷ pos 5 ∷ []) (negsuc 0 ∷ []) [] (pos 5 ∷ []) 2 0 [] [] [] None) PortShape (pos 3 ∷ pos 2 ∷ [])
refused227 = refl

refused228 : Refuses (codes "SELECT_m") (fields (negsuc 0 ∷ negsuc 0 ∷ negsuc 0 ∷ []) [] (pos 5 ∷ pos 5 ∷ pos 5 ∷ []) (negsuc 0 ∷ []) [] (pos 5 ∷ []) 4 0 [] [] [] None) PortShape (pos 3 ∷ pos 4 ∷ [])
refused228 = refl

refused229 : Refuses (codes "SUMMATION") (fields (negsuc 0 ∷ negsuc 0 ∷ []) [] (pos 5 ∷ pos 0 ∷ []) (negsuc 0 ∷ []) [] (pos 5 ∷ []) 0 0 [] (pos 0 ∷ pos 1 ∷ negsuc 0 ∷ []) [] None) NotInteger (pos 1 ∷ pos 2 ∷ pos 0 ∷ [])
refused229 = refl

refused230 : Refuses (codes "GAINBLK") (fields (negsuc 0 ∷ []) [] (pos 5 ∷ []) (negsuc 0 ∷ []) [] (pos 0 ∷ []) 0 0 [] (pos 0 ∷ pos 3 ∷ []) [] None) NotInteger (pos 2 ∷ pos 1 ∷ pos 0 ∷ [])
refused230 = refl

refused231 : Refuses (codes "SUMMATION") (fields (negsuc 0 ∷ negsuc 0 ∷ []) [] (pos 5 ∷ pos 1 ∷ []) (negsuc 0 ∷ []) [] (pos 5 ∷ []) 0 0 [] (pos 0 ∷ pos 1 ∷ negsuc 0 ∷ []) [] None) NotInteger (pos 1 ∷ pos 2 ∷ pos 1 ∷ [])
refused231 = refl

refused232 : Refuses (codes "GAINBLK") (fields (negsuc 0 ∷ []) [] (pos 5 ∷ []) (negsuc 0 ∷ []) [] (pos 1 ∷ []) 0 0 [] (pos 0 ∷ pos 3 ∷ []) [] None) NotInteger (pos 2 ∷ pos 1 ∷ pos 1 ∷ [])
refused232 = refl

refused233 : Refuses (codes "SUMMATION") (fields (negsuc 0 ∷ negsuc 0 ∷ []) [] (pos 5 ∷ pos 2 ∷ []) (negsuc 0 ∷ []) [] (pos 5 ∷ []) 0 0 [] (pos 0 ∷ pos 1 ∷ negsuc 0 ∷ []) [] None) NotInteger (pos 1 ∷ pos 2 ∷ pos 2 ∷ [])
refused233 = refl

refused234 : Refuses (codes "GAINBLK") (fields (negsuc 0 ∷ []) [] (pos 5 ∷ []) (negsuc 0 ∷ []) [] (pos 2 ∷ []) 0 0 [] (pos 0 ∷ pos 3 ∷ []) [] None) NotInteger (pos 2 ∷ pos 1 ∷ pos 2 ∷ [])
refused234 = refl

refused235 : Refuses (codes "SUMMATION") (fields (negsuc 0 ∷ negsuc 0 ∷ []) [] (pos 5 ∷ pos 9 ∷ []) (negsuc 0 ∷ []) [] (pos 5 ∷ []) 0 0 [] (pos 0 ∷ pos 1 ∷ negsuc 0 ∷ []) [] None) NotInteger (pos 1 ∷ pos 2 ∷ pos 9 ∷ [])
refused235 = refl

refused236 : Refuses (codes "GAINBLK") (fields (negsuc 0 ∷ []) [] (pos 5 ∷ []) (negsuc 0 ∷ []) [] (pos 9 ∷ []) 0 0 [] (pos 0 ∷ pos 3 ∷ []) [] None) NotInteger (pos 2 ∷ pos 1 ∷ pos 9 ∷ [])
refused236 = refl

refused237 : Refuses (codes "SUMMATION") (fields (negsuc 0 ∷ negsuc 0 ∷ []) [] (pos 5 ∷ pos 100 ∷ []) (negsuc 0 ∷ []) [] (pos 5 ∷ []) 0 0 [] (pos 0 ∷ pos 1 ∷ negsuc 0 ∷ []) [] None) NotInteger (pos 1 ∷ pos 2 ∷ pos 100 ∷ [])
refused237 = refl

refused238 : Refuses (codes "GAINBLK") (fields (negsuc 0 ∷ []) [] (pos 5 ∷ []) (negsuc 0 ∷ []) [] (pos 100 ∷ []) 0 0 [] (pos 0 ∷ pos 3 ∷ []) [] None) NotInteger (pos 2 ∷ pos 1 ∷ pos 100 ∷ [])
refused238 = refl

refused239 : Refuses (codes "DEMUX") (fields (negsuc 0 ∷ []) [] (pos 5 ∷ []) (negsuc 0 ∷ negsuc 0 ∷ []) [] (pos 3 ∷ pos 9 ∷ []) 0 0 [] [] [] None) NotInteger (pos 2 ∷ pos 2 ∷ pos 9 ∷ [])
refused239 = refl

refused240 : Refuses (codes "SUMMATION") (fields (negsuc 0 ∷ negsuc 0 ∷ []) [] (pos 0 ∷ pos 9 ∷ []) (negsuc 0 ∷ []) [] (pos 1 ∷ []) 0 0 [] (pos 0 ∷ pos 1 ∷ negsuc 0 ∷ []) [] None) NotInteger (pos 1 ∷ pos 1 ∷ pos 0 ∷ [])
refused240 = refl

refused241 : Refuses (codes "SUMMATION") (fields (negsuc 0 ∷ negsuc 0 ∷ []) [] (pos 3 ∷ pos 2 ∷ []) (negsuc 0 ∷ []) [] (pos 1 ∷ []) 0 0 [] (pos 0 ∷ pos 1 ∷ negsuc 0 ∷ []) [] None) NotInteger (pos 1 ∷ pos 2 ∷ pos 2 ∷ [])
refused241 = refl

refused242 : Refuses (codes "GAINBLK") (fields (negsuc 0 ∷ []) [] (pos 5 ∷ []) (negsuc 0 ∷ []) [] (pos 5 ∷ []) 0 0 [] (pos 0 ∷ pos 3 ∷ []) [] (all true true)) AlwaysActive []
refused242 = refl

refused243 : Refuses (codes "DOLLAR_m") (fields (negsuc 0 ∷ []) [] (pos 5 ∷ []) (negsuc 0 ∷ []) [] (pos 5 ∷ []) 1 0 (pos 0 ∷ []) [] [] (all false true)) AlwaysActive []
refused243 = refl

refused244 : Refuses (codes "GATED_DELAY") (fields (negsuc 0 ∷ negsuc 0 ∷ []) [] (pos 5 ∷ pos 5 ∷ []) (negsuc 0 ∷ []) [] (pos 5 ∷ []) 1 0 (pos 0 ∷ []) [] [] (each (true ∷ []) true)) AlwaysActive []
refused244 = refl

refused245 : Refuses (codes "SUMMATION") (fields (negsuc 0 ∷ negsuc 0 ∷ []) [] (pos 5 ∷ pos 5 ∷ []) (negsuc 0 ∷ []) [] (pos 5 ∷ []) 0 0 [] (pos 0 ∷ pos 1 ∷ negsuc 0 ∷ []) [] (all false false)) BadParameter (pos 4 ∷ pos 1 ∷ pos 0 ∷ [])
refused245 = refl

refused246 : Refuses (codes "GAINBLK") (fields (negsuc 0 ∷ []) [] (pos 5 ∷ []) (negsuc 0 ∷ []) [] (pos 5 ∷ []) 0 0 [] (pos 0 ∷ pos 3 ∷ []) [] (all false false)) BadParameter (pos 4 ∷ pos 1 ∷ pos 0 ∷ [])
refused246 = refl

refused247 : Refuses (codes "PRODUCT") (fields (negsuc 0 ∷ negsuc 0 ∷ []) [] (pos 5 ∷ pos 5 ∷ []) (negsuc 0 ∷ []) [] (pos 5 ∷ []) 0 0 [] (pos 0 ∷ pos 1 ∷ []) [] (all false false)) BadParameter (pos 4 ∷ pos 1 ∷ pos 0 ∷ [])
refused247 = refl

refused248 : Refuses (codes "ABS_VALUE") (fields (negsuc 0 ∷ []) [] (pos 5 ∷ []) (negsuc 0 ∷ []) [] (pos 5 ∷ []) 0 0 [] (pos 0 ∷ []) [] (all false false)) BadParameter (pos 4 ∷ pos 1 ∷ pos 0 ∷ [])
refused248 = refl

refused249 : Refuses (codes "SIGNUM") (fields (negsuc 0 ∷ []) [] (pos 5 ∷ []) (negsuc 0 ∷ []) [] (pos 5 ∷ []) 0 0 [] [] [] (all false false)) BadParameter (pos 4 ∷ pos 1 ∷ pos 0 ∷ [])
refused249 = refl

refused250 : Refuses (codes "MAXMIN") (fields (negsuc 0 ∷ negsuc 0 ∷ []) [] (pos 5 ∷ pos 5 ∷ []) (negsuc 0 ∷ []) [] (pos 5 ∷ []) 0 0 [] (pos 1 ∷ []) [] (all false false)) BadParameter (pos 4 ∷ pos 1 ∷ pos 0 ∷ [])
refused250 = refl

refused251 : Refuses (codes "SATURATION") (fields (negsuc 0 ∷ []) [] (pos 5 ∷ []) (negsuc 0 ∷ []) [] (pos 5 ∷ []) 0 0 [] (negsuc 4 ∷ pos 5 ∷ []) [] (all false false)) BadParameter (pos 4 ∷ pos 1 ∷ pos 0 ∷ [])
refused251 = refl

refused252 : Refuses (codes "DEADBAND") (fields (negsuc 0 ∷ []) [] (pos 5 ∷ []) (negsuc 0 ∷ []) [] (pos 5 ∷ []) 0 0 [] (pos 0 ∷ negsuc 4 ∷ pos 5 ∷ []) [] (all false false)) BadParameter (pos 4 ∷ pos 1 ∷ pos 0 ∷ [])
refused252 = refl

refused253 : Refuses (codes "CONVERT") (fields (negsuc 0 ∷ []) [] (pos 5 ∷ []) (negsuc 0 ∷ []) [] (pos 5 ∷ []) 0 0 [] (pos 0 ∷ []) [] (all false false)) BadParameter (pos 4 ∷ pos 1 ∷ pos 0 ∷ [])
refused253 = refl

refused254 : Refuses (codes "MUX") (fields (negsuc 0 ∷ negsuc 0 ∷ []) [] (pos 5 ∷ pos 5 ∷ []) (negsuc 0 ∷ []) [] (pos 5 ∷ []) 0 0 [] [] [] (all false false)) BadParameter (pos 4 ∷ pos 1 ∷ pos 0 ∷ [])
refused254 = refl

refused255 : Refuses (codes "DEMUX") (fields (negsuc 0 ∷ []) [] (pos 5 ∷ []) (negsuc 0 ∷ negsuc 0 ∷ []) [] (pos 5 ∷ pos 5 ∷ []) 0 0 [] [] [] (all false false)) BadParameter (pos 4 ∷ pos 1 ∷ pos 0 ∷ [])
refused255 = refl

refused256 : Refuses (codes "EXTRACTOR") (fields (negsuc 0 ∷ []) [] (pos 5 ∷ []) (negsuc 0 ∷ []) [] (pos 5 ∷ []) 0 0 [] (pos 2 ∷ pos 1 ∷ []) [] (all false false)) BadParameter (pos 4 ∷ pos 1 ∷ pos 0 ∷ [])
refused256 = refl

refused257 : Refuses (codes "LOGICAL_OP") (fields (negsuc 0 ∷ negsuc 0 ∷ []) [] (pos 5 ∷ pos 5 ∷ []) (negsuc 0 ∷ []) [] (pos 5 ∷ []) 0 0 [] (pos 0 ∷ pos 0 ∷ []) [] (all false false)) BadParameter (pos 4 ∷ pos 1 ∷ pos 0 ∷ [])
refused257 = refl

refused258 : Refuses (codes "RELATIONALOP") (fields (negsuc 0 ∷ negsuc 0 ∷ []) [] (pos 5 ∷ pos 5 ∷ []) (negsuc 0 ∷ []) [] (pos 5 ∷ []) 0 0 [] (pos 0 ∷ []) [] (all false false)) BadParameter (pos 4 ∷ pos 1 ∷ pos 0 ∷ [])
refused258 = refl

refused259 : Refuses (codes "SHIFT") (fields (negsuc 0 ∷ []) [] (pos 5 ∷ []) (negsuc 0 ∷ []) [] (pos 5 ∷ []) 0 0 [] (pos 3 ∷ pos 0 ∷ []) [] (all false false)) BadParameter (pos 4 ∷ pos 1 ∷ pos 0 ∷ [])
refused259 = refl

refused260 : Refuses (codes "BITSET") (fields (negsuc 0 ∷ []) [] (pos 5 ∷ []) (negsuc 0 ∷ []) [] (pos 5 ∷ []) 0 0 [] (pos 3 ∷ []) [] (all false false)) BadParameter (pos 4 ∷ pos 1 ∷ pos 0 ∷ [])
refused260 = refl

refused261 : Refuses (codes "BITCLEAR") (fields (negsuc 0 ∷ []) [] (pos 5 ∷ []) (negsuc 0 ∷ []) [] (pos 5 ∷ []) 0 0 [] (pos 3 ∷ []) [] (all false false)) BadParameter (pos 4 ∷ pos 1 ∷ pos 0 ∷ [])
refused261 = refl

refused262 : Refuses (codes "EXTRACTBITS") (fields (negsuc 0 ∷ []) [] (pos 5 ∷ []) (negsuc 0 ∷ []) [] (pos 5 ∷ []) 0 0 [] (pos 1 ∷ pos 3 ∷ []) [] (all false false)) BadParameter (pos 4 ∷ pos 1 ∷ pos 0 ∷ [])
refused262 = refl

refused263 : Refuses (codes "SWITCH2_m") (fields (negsuc 0 ∷ negsuc 0 ∷ negsuc 0 ∷ []) [] (pos 5 ∷ pos 5 ∷ pos 5 ∷ []) (negsuc 0 ∷ []) [] (pos 5 ∷ []) 0 0 [] (pos 0 ∷ pos 0 ∷ []) [] (all false false)) BadParameter (pos 4 ∷ pos 1 ∷ pos 0 ∷ [])
refused263 = refl

refused264 : Refuses (codes "SELECT_m") (fields (negsuc 0 ∷ negsuc 0 ∷ negsuc 0 ∷ []) [] (pos 5 ∷ pos 5 ∷ pos 5 ∷ []) (negsuc 0 ∷ []) [] (pos 5 ∷ []) 3 0 [] [] [] (all false false)) BadParameter (pos 4 ∷ pos 1 ∷ pos 0 ∷ [])
refused264 = refl

refused265 : Refuses (codes "LOGIC") (fields (negsuc 0 ∷ negsuc 0 ∷ []) [] (pos 5 ∷ pos 5 ∷ []) (negsuc 0 ∷ []) [] (pos 5 ∷ []) 0 0 [] (pos 0 ∷ pos 0 ∷ pos 0 ∷ pos 1 ∷ []) [] (all false false)) BadParameter (pos 4 ∷ pos 1 ∷ pos 0 ∷ [])
refused265 = refl

refused266 : Refuses (codes "SAMPHOLD_m") (fields (negsuc 0 ∷ []) [] (pos 5 ∷ []) (negsuc 0 ∷ []) [] (pos 5 ∷ []) 1 0 [] [] [] (all false false)) BadParameter (pos 4 ∷ pos 1 ∷ pos 0 ∷ [])
refused266 = refl

refused267 : Refuses (codes "GATED_DELAY") (fields (negsuc 0 ∷ negsuc 0 ∷ []) [] (pos 5 ∷ pos 5 ∷ []) (negsuc 0 ∷ []) [] (pos 5 ∷ []) 1 0 (pos 0 ∷ []) [] [] (all false false)) BadParameter (pos 4 ∷ pos 1 ∷ pos 0 ∷ [])
refused267 = refl

refused268 : Refuses (codes "IFTHEL_f") (fields (negsuc 0 ∷ []) [] (pos 5 ∷ []) [] [] [] 0 2 [] [] [] (all false false)) BadParameter (pos 4 ∷ pos 1 ∷ pos 0 ∷ [])
refused268 = refl

refused269 : Refuses (codes "ESELECT_f") (fields (negsuc 0 ∷ []) [] (pos 5 ∷ []) [] [] [] 0 3 [] [] [] (all false false)) BadParameter (pos 4 ∷ pos 1 ∷ pos 0 ∷ [])
refused269 = refl

refused270 : Refuses (codes "CONST_m") (fields [] [] [] (negsuc 0 ∷ []) [] (pos 5 ∷ []) 0 0 [] (pos 7 ∷ []) [] (each (true ∷ []) false)) BadParameter (pos 4 ∷ pos 0 ∷ pos 1 ∷ [])
refused270 = refl

refused271 : Refuses (codes "CONST_m") (fields [] [] [] (negsuc 0 ∷ []) [] (pos 5 ∷ []) 0 0 [] (pos 7 ∷ []) [] (each (false ∷ []) false)) BadParameter (pos 4 ∷ pos 0 ∷ pos 1 ∷ [])
refused271 = refl

refused272 : Refuses (codes "SUMMATION") (fields (negsuc 0 ∷ negsuc 0 ∷ []) [] (pos 5 ∷ pos 5 ∷ []) (negsuc 0 ∷ []) [] (pos 5 ∷ []) 0 0 [] (pos 0 ∷ pos 1 ∷ negsuc 0 ∷ []) [] (each (true ∷ true ∷ true ∷ []) false)) BadParameter (pos 4 ∷ pos 0 ∷ pos 3 ∷ [])
refused272 = refl

refused273 : Refuses (codes "SUMMATION") (fields (negsuc 0 ∷ negsuc 0 ∷ []) [] (pos 5 ∷ pos 5 ∷ []) (negsuc 0 ∷ []) [] (pos 5 ∷ []) 0 0 [] (pos 0 ∷ pos 1 ∷ negsuc 0 ∷ []) [] (each (true ∷ []) false)) BadParameter (pos 4 ∷ pos 0 ∷ pos 1 ∷ [])
refused273 = refl

refused274 : Refuses (codes "SUMMATION") (fields (negsuc 0 ∷ negsuc 0 ∷ []) [] (pos 5 ∷ pos 5 ∷ []) (negsuc 0 ∷ []) [] (pos 5 ∷ []) 0 0 [] (pos 0 ∷ pos 1 ∷ negsuc 0 ∷ []) [] (each [] false)) BadParameter (pos 4 ∷ pos 0 ∷ pos 0 ∷ [])
refused274 = refl

refused275 : Refuses (codes "SUMMATION") (fields (negsuc 0 ∷ negsuc 0 ∷ []) [] (pos 5 ∷ pos 5 ∷ []) (negsuc 0 ∷ []) [] (pos 5 ∷ []) 0 0 [] (pos 0 ∷ pos 1 ∷ negsuc 0 ∷ []) [] (each (false ∷ true ∷ []) false)) BadParameter (pos 4 ∷ pos 1 ∷ pos 0 ∷ [])
refused275 = refl

refused276 : Refuses (codes "SUMMATION") (fields (negsuc 0 ∷ negsuc 0 ∷ []) [] (pos 5 ∷ pos 5 ∷ []) (negsuc 0 ∷ []) [] (pos 5 ∷ []) 0 0 [] (pos 0 ∷ pos 1 ∷ negsuc 0 ∷ []) [] (each (true ∷ false ∷ []) false)) BadParameter (pos 4 ∷ pos 2 ∷ pos 0 ∷ [])
refused276 = refl

refused277 : Refuses (codes "SUMMATION") (fields (negsuc 0 ∷ negsuc 0 ∷ []) [] (pos 5 ∷ pos 5 ∷ []) (negsuc 0 ∷ []) [] (pos 5 ∷ []) 0 0 [] (pos 0 ∷ pos 1 ∷ negsuc 0 ∷ []) [] (each (false ∷ false ∷ []) false)) BadParameter (pos 4 ∷ pos 1 ∷ pos 0 ∷ [])
refused277 = refl

refused278 : Refuses (codes "GAINBLK") (fields (negsuc 0 ∷ []) [] (pos 5 ∷ []) (negsuc 0 ∷ []) [] (pos 5 ∷ []) 0 0 [] (pos 0 ∷ pos 3 ∷ []) [] (each (true ∷ true ∷ []) false)) BadParameter (pos 4 ∷ pos 0 ∷ pos 2 ∷ [])
refused278 = refl

refused279 : Refuses (codes "GAINBLK") (fields (negsuc 0 ∷ []) [] (pos 5 ∷ []) (negsuc 0 ∷ []) [] (pos 5 ∷ []) 0 0 [] (pos 0 ∷ pos 3 ∷ []) [] (each [] false)) BadParameter (pos 4 ∷ pos 0 ∷ pos 0 ∷ [])
refused279 = refl

refused280 : Refuses (codes "GAINBLK") (fields (negsuc 0 ∷ []) [] (pos 5 ∷ []) (negsuc 0 ∷ []) [] (pos 5 ∷ []) 0 0 [] (pos 0 ∷ pos 3 ∷ []) [] (each [] false)) BadParameter (pos 4 ∷ pos 0 ∷ pos 0 ∷ [])
refused280 = refl

refused281 : Refuses (codes "GAINBLK") (fields (negsuc 0 ∷ []) [] (pos 5 ∷ []) (negsuc 0 ∷ []) [] (pos 5 ∷ []) 0 0 [] (pos 0 ∷ pos 3 ∷ []) [] (each (false ∷ []) false)) BadParameter (pos 4 ∷ pos 1 ∷ pos 0 ∷ [])
refused281 = refl

refused282 : Refuses (codes "GAINBLK") (fields (negsuc 0 ∷ []) [] (pos 5 ∷ []) (negsuc 0 ∷ []) [] (pos 5 ∷ []) 0 0 [] (pos 0 ∷ pos 3 ∷ []) [] (each (false ∷ []) false)) BadParameter (pos 4 ∷ pos 1 ∷ pos 0 ∷ [])
refused282 = refl

refused283 : Refuses (codes "PRODUCT") (fields (negsuc 0 ∷ negsuc 0 ∷ []) [] (pos 5 ∷ pos 5 ∷ []) (negsuc 0 ∷ []) [] (pos 5 ∷ []) 0 0 [] (pos 0 ∷ pos 1 ∷ []) [] (each (true ∷ true ∷ true ∷ []) false)) BadParameter (pos 4 ∷ pos 0 ∷ pos 3 ∷ [])
refused283 = refl

refused284 : Refuses (codes "PRODUCT") (fields (negsuc 0 ∷ negsuc 0 ∷ []) [] (pos 5 ∷ pos 5 ∷ []) (negsuc 0 ∷ []) [] (pos 5 ∷ []) 0 0 [] (pos 0 ∷ pos 1 ∷ []) [] (each (true ∷ []) false)) BadParameter (pos 4 ∷ pos 0 ∷ pos 1 ∷ [])
refused284 = refl

refused285 : Refuses (codes "PRODUCT") (fields (negsuc 0 ∷ negsuc 0 ∷ []) [] (pos 5 ∷ pos 5 ∷ []) (negsuc 0 ∷ []) [] (pos 5 ∷ []) 0 0 [] (pos 0 ∷ pos 1 ∷ []) [] (each [] false)) BadParameter (pos 4 ∷ pos 0 ∷ pos 0 ∷ [])
refused285 = refl

refused286 : Refuses (codes "PRODUCT") (fields (negsuc 0 ∷ negsuc 0 ∷ []) [] (pos 5 ∷ pos 5 ∷ []) (negsuc 0 ∷ []) [] (pos 5 ∷ []) 0 0 [] (pos 0 ∷ pos 1 ∷ []) [] (each (false ∷ true ∷ []) false)) BadParameter (pos 4 ∷ pos 1 ∷ pos 0 ∷ [])
refused286 = refl

refused287 : Refuses (codes "PRODUCT") (fields (negsuc 0 ∷ negsuc 0 ∷ []) [] (pos 5 ∷ pos 5 ∷ []) (negsuc 0 ∷ []) [] (pos 5 ∷ []) 0 0 [] (pos 0 ∷ pos 1 ∷ []) [] (each (true ∷ false ∷ []) false)) BadParameter (pos 4 ∷ pos 2 ∷ pos 0 ∷ [])
refused287 = refl

refused288 : Refuses (codes "PRODUCT") (fields (negsuc 0 ∷ negsuc 0 ∷ []) [] (pos 5 ∷ pos 5 ∷ []) (negsuc 0 ∷ []) [] (pos 5 ∷ []) 0 0 [] (pos 0 ∷ pos 1 ∷ []) [] (each (false ∷ false ∷ []) false)) BadParameter (pos 4 ∷ pos 1 ∷ pos 0 ∷ [])
refused288 = refl

refused289 : Refuses (codes "ABS_VALUE") (fields (negsuc 0 ∷ []) [] (pos 5 ∷ []) (negsuc 0 ∷ []) [] (pos 5 ∷ []) 0 0 [] (pos 0 ∷ []) [] (each (true ∷ true ∷ []) false)) BadParameter (pos 4 ∷ pos 0 ∷ pos 2 ∷ [])
refused289 = refl

refused290 : Refuses (codes "ABS_VALUE") (fields (negsuc 0 ∷ []) [] (pos 5 ∷ []) (negsuc 0 ∷ []) [] (pos 5 ∷ []) 0 0 [] (pos 0 ∷ []) [] (each [] false)) BadParameter (pos 4 ∷ pos 0 ∷ pos 0 ∷ [])
refused290 = refl

refused291 : Refuses (codes "ABS_VALUE") (fields (negsuc 0 ∷ []) [] (pos 5 ∷ []) (negsuc 0 ∷ []) [] (pos 5 ∷ []) 0 0 [] (pos 0 ∷ []) [] (each [] false)) BadParameter (pos 4 ∷ pos 0 ∷ pos 0 ∷ [])
refused291 = refl

refused292 : Refuses (codes "ABS_VALUE") (fields (negsuc 0 ∷ []) [] (pos 5 ∷ []) (negsuc 0 ∷ []) [] (pos 5 ∷ []) 0 0 [] (pos 0 ∷ []) [] (each (false ∷ []) false)) BadParameter (pos 4 ∷ pos 1 ∷ pos 0 ∷ [])
refused292 = refl

refused293 : Refuses (codes "ABS_VALUE") (fields (negsuc 0 ∷ []) [] (pos 5 ∷ []) (negsuc 0 ∷ []) [] (pos 5 ∷ []) 0 0 [] (pos 0 ∷ []) [] (each (false ∷ []) false)) BadParameter (pos 4 ∷ pos 1 ∷ pos 0 ∷ [])
refused293 = refl

refused294 : Refuses (codes "SIGNUM") (fields (negsuc 0 ∷ []) [] (pos 5 ∷ []) (negsuc 0 ∷ []) [] (pos 5 ∷ []) 0 0 [] [] [] (each (true ∷ true ∷ []) false)) BadParameter (pos 4 ∷ pos 0 ∷ pos 2 ∷ [])
refused294 = refl

refused295 : Refuses (codes "SIGNUM") (fields (negsuc 0 ∷ []) [] (pos 5 ∷ []) (negsuc 0 ∷ []) [] (pos 5 ∷ []) 0 0 [] [] [] (each [] false)) BadParameter (pos 4 ∷ pos 0 ∷ pos 0 ∷ [])
refused295 = refl

refused296 : Refuses (codes "SIGNUM") (fields (negsuc 0 ∷ []) [] (pos 5 ∷ []) (negsuc 0 ∷ []) [] (pos 5 ∷ []) 0 0 [] [] [] (each [] false)) BadParameter (pos 4 ∷ pos 0 ∷ pos 0 ∷ [])
refused296 = refl

refused297 : Refuses (codes "SIGNUM") (fields (negsuc 0 ∷ []) [] (pos 5 ∷ []) (negsuc 0 ∷ []) [] (pos 5 ∷ []) 0 0 [] [] [] (each (false ∷ []) false)) BadParameter (pos 4 ∷ pos 1 ∷ pos 0 ∷ [])
refused297 = refl

refused298 : Refuses (codes "SIGNUM") (fields (negsuc 0 ∷ []) [] (pos 5 ∷ []) (negsuc 0 ∷ []) [] (pos 5 ∷ []) 0 0 [] [] [] (each (false ∷ []) false)) BadParameter (pos 4 ∷ pos 1 ∷ pos 0 ∷ [])
refused298 = refl

refused299 : Refuses (codes "MAXMIN") (fields (negsuc 0 ∷ negsuc 0 ∷ []) [] (pos 5 ∷ pos 5 ∷ []) (negsuc 0 ∷ []) [] (pos 5 ∷ []) 0 0 [] (pos 1 ∷ []) [] (each (true ∷ true ∷ true ∷ []) false)) BadParameter (pos 4 ∷ pos 0 ∷ pos 3 ∷ [])
refused299 = refl

refused300 : Refuses (codes "MAXMIN") (fields (negsuc 0 ∷ negsuc 0 ∷ []) [] (pos 5 ∷ pos 5 ∷ []) (negsuc 0 ∷ []) [] (pos 5 ∷ []) 0 0 [] (pos 1 ∷ []) [] (each (true ∷ []) false)) BadParameter (pos 4 ∷ pos 0 ∷ pos 1 ∷ [])
refused300 = refl

refused301 : Refuses (codes "MAXMIN") (fields (negsuc 0 ∷ negsuc 0 ∷ []) [] (pos 5 ∷ pos 5 ∷ []) (negsuc 0 ∷ []) [] (pos 5 ∷ []) 0 0 [] (pos 1 ∷ []) [] (each [] false)) BadParameter (pos 4 ∷ pos 0 ∷ pos 0 ∷ [])
refused301 = refl

refused302 : Refuses (codes "MAXMIN") (fields (negsuc 0 ∷ negsuc 0 ∷ []) [] (pos 5 ∷ pos 5 ∷ []) (negsuc 0 ∷ []) [] (pos 5 ∷ []) 0 0 [] (pos 1 ∷ []) [] (each (false ∷ true ∷ []) false)) BadParameter (pos 4 ∷ pos 1 ∷ pos 0 ∷ [])
refused302 = refl

refused303 : Refuses (codes "MAXMIN") (fields (negsuc 0 ∷ negsuc 0 ∷ []) [] (pos 5 ∷ pos 5 ∷ []) (negsuc 0 ∷ []) [] (pos 5 ∷ []) 0 0 [] (pos 1 ∷ []) [] (each (true ∷ false ∷ []) false)) BadParameter (pos 4 ∷ pos 2 ∷ pos 0 ∷ [])
refused303 = refl

refused304 : Refuses (codes "MAXMIN") (fields (negsuc 0 ∷ negsuc 0 ∷ []) [] (pos 5 ∷ pos 5 ∷ []) (negsuc 0 ∷ []) [] (pos 5 ∷ []) 0 0 [] (pos 1 ∷ []) [] (each (false ∷ false ∷ []) false)) BadParameter (pos 4 ∷ pos 1 ∷ pos 0 ∷ [])
refused304 = refl

refused305 : Refuses (codes "SATURATION") (fields (negsuc 0 ∷ []) [] (pos 5 ∷ []) (negsuc 0 ∷ []) [] (pos 5 ∷ []) 0 0 [] (negsuc 4 ∷ pos 5 ∷ []) [] (each (true ∷ true ∷ []) false)) BadParameter (pos 4 ∷ pos 0 ∷ pos 2 ∷ [])
refused305 = refl

refused306 : Refuses (codes "SATURATION") (fields (negsuc 0 ∷ []) [] (pos 5 ∷ []) (negsuc 0 ∷ []) [] (pos 5 ∷ []) 0 0 [] (negsuc 4 ∷ pos 5 ∷ []) [] (each [] false)) BadParameter (pos 4 ∷ pos 0 ∷ pos 0 ∷ [])
refused306 = refl

refused307 : Refuses (codes "SATURATION") (fields (negsuc 0 ∷ []) [] (pos 5 ∷ []) (negsuc 0 ∷ []) [] (pos 5 ∷ []) 0 0 [] (negsuc 4 ∷ pos 5 ∷ []) [] (each [] false)) BadParameter (pos 4 ∷ pos 0 ∷ pos 0 ∷ [])
refused307 = refl

refused308 : Refuses (codes "SATURATION") (fields (negsuc 0 ∷ []) [] (pos 5 ∷ []) (negsuc 0 ∷ []) [] (pos 5 ∷ []) 0 0 [] (negsuc 4 ∷ pos 5 ∷ []) [] (each (false ∷ []) false)) BadParameter (pos 4 ∷ pos 1 ∷ pos 0 ∷ [])
refused308 = refl

refused309 : Refuses (codes "SATURATION") (fields (negsuc 0 ∷ []) [] (pos 5 ∷ []) (negsuc 0 ∷ []) [] (pos 5 ∷ []) 0 0 [] (negsuc 4 ∷ pos 5 ∷ []) [] (each (false ∷ []) false)) BadParameter (pos 4 ∷ pos 1 ∷ pos 0 ∷ [])
refused309 = refl

refused310 : Refuses (codes "DEADBAND") (fields (negsuc 0 ∷ []) [] (pos 5 ∷ []) (negsuc 0 ∷ []) [] (pos 5 ∷ []) 0 0 [] (pos 0 ∷ negsuc 4 ∷ pos 5 ∷ []) [] (each (true ∷ true ∷ []) false)) BadParameter (pos 4 ∷ pos 0 ∷ pos 2 ∷ [])
refused310 = refl

refused311 : Refuses (codes "DEADBAND") (fields (negsuc 0 ∷ []) [] (pos 5 ∷ []) (negsuc 0 ∷ []) [] (pos 5 ∷ []) 0 0 [] (pos 0 ∷ negsuc 4 ∷ pos 5 ∷ []) [] (each [] false)) BadParameter (pos 4 ∷ pos 0 ∷ pos 0 ∷ [])
refused311 = refl

refused312 : Refuses (codes "DEADBAND") (fields (negsuc 0 ∷ []) [] (pos 5 ∷ []) (negsuc 0 ∷ []) [] (pos 5 ∷ []) 0 0 [] (pos 0 ∷ negsuc 4 ∷ pos 5 ∷ []) [] (each [] false)) BadParameter (pos 4 ∷ pos 0 ∷ pos 0 ∷ [])
refused312 = refl

refused313 : Refuses (codes "DEADBAND") (fields (negsuc 0 ∷ []) [] (pos 5 ∷ []) (negsuc 0 ∷ []) [] (pos 5 ∷ []) 0 0 [] (pos 0 ∷ negsuc 4 ∷ pos 5 ∷ []) [] (each (false ∷ []) false)) BadParameter (pos 4 ∷ pos 1 ∷ pos 0 ∷ [])
refused313 = refl

refused314 : Refuses (codes "DEADBAND") (fields (negsuc 0 ∷ []) [] (pos 5 ∷ []) (negsuc 0 ∷ []) [] (pos 5 ∷ []) 0 0 [] (pos 0 ∷ negsuc 4 ∷ pos 5 ∷ []) [] (each (false ∷ []) false)) BadParameter (pos 4 ∷ pos 1 ∷ pos 0 ∷ [])
refused314 = refl

refused315 : Refuses (codes "CONVERT") (fields (negsuc 0 ∷ []) [] (pos 5 ∷ []) (negsuc 0 ∷ []) [] (pos 5 ∷ []) 0 0 [] (pos 0 ∷ []) [] (each (true ∷ true ∷ []) false)) BadParameter (pos 4 ∷ pos 0 ∷ pos 2 ∷ [])
refused315 = refl

refused316 : Refuses (codes "CONVERT") (fields (negsuc 0 ∷ []) [] (pos 5 ∷ []) (negsuc 0 ∷ []) [] (pos 5 ∷ []) 0 0 [] (pos 0 ∷ []) [] (each [] false)) BadParameter (pos 4 ∷ pos 0 ∷ pos 0 ∷ [])
refused316 = refl

refused317 : Refuses (codes "CONVERT") (fields (negsuc 0 ∷ []) [] (pos 5 ∷ []) (negsuc 0 ∷ []) [] (pos 5 ∷ []) 0 0 [] (pos 0 ∷ []) [] (each [] false)) BadParameter (pos 4 ∷ pos 0 ∷ pos 0 ∷ [])
refused317 = refl

refused318 : Refuses (codes "CONVERT") (fields (negsuc 0 ∷ []) [] (pos 5 ∷ []) (negsuc 0 ∷ []) [] (pos 5 ∷ []) 0 0 [] (pos 0 ∷ []) [] (each (false ∷ []) false)) BadParameter (pos 4 ∷ pos 1 ∷ pos 0 ∷ [])
refused318 = refl

refused319 : Refuses (codes "CONVERT") (fields (negsuc 0 ∷ []) [] (pos 5 ∷ []) (negsuc 0 ∷ []) [] (pos 5 ∷ []) 0 0 [] (pos 0 ∷ []) [] (each (false ∷ []) false)) BadParameter (pos 4 ∷ pos 1 ∷ pos 0 ∷ [])
refused319 = refl

refused320 : Refuses (codes "MUX") (fields (negsuc 0 ∷ negsuc 0 ∷ []) [] (pos 5 ∷ pos 5 ∷ []) (negsuc 0 ∷ []) [] (pos 5 ∷ []) 0 0 [] [] [] (each (true ∷ true ∷ true ∷ []) false)) BadParameter (pos 4 ∷ pos 0 ∷ pos 3 ∷ [])
refused320 = refl

refused321 : Refuses (codes "MUX") (fields (negsuc 0 ∷ negsuc 0 ∷ []) [] (pos 5 ∷ pos 5 ∷ []) (negsuc 0 ∷ []) [] (pos 5 ∷ []) 0 0 [] [] [] (each (true ∷ []) false)) BadParameter (pos 4 ∷ pos 0 ∷ pos 1 ∷ [])
refused321 = refl

refused322 : Refuses (codes "MUX") (fields (negsuc 0 ∷ negsuc 0 ∷ []) [] (pos 5 ∷ pos 5 ∷ []) (negsuc 0 ∷ []) [] (pos 5 ∷ []) 0 0 [] [] [] (each [] false)) BadParameter (pos 4 ∷ pos 0 ∷ pos 0 ∷ [])
refused322 = refl

refused323 : Refuses (codes "MUX") (fields (negsuc 0 ∷ negsuc 0 ∷ []) [] (pos 5 ∷ pos 5 ∷ []) (negsuc 0 ∷ []) [] (pos 5 ∷ []) 0 0 [] [] [] (each (false ∷ true ∷ []) false)) BadParameter (pos 4 ∷ pos 1 ∷ pos 0 ∷ [])
refused323 = refl

refused324 : Refuses (codes "MUX") (fields (negsuc 0 ∷ negsuc 0 ∷ []) [] (pos 5 ∷ pos 5 ∷ []) (negsuc 0 ∷ []) [] (pos 5 ∷ []) 0 0 [] [] [] (each (true ∷ false ∷ []) false)) BadParameter (pos 4 ∷ pos 2 ∷ pos 0 ∷ [])
refused324 = refl

refused325 : Refuses (codes "MUX") (fields (negsuc 0 ∷ negsuc 0 ∷ []) [] (pos 5 ∷ pos 5 ∷ []) (negsuc 0 ∷ []) [] (pos 5 ∷ []) 0 0 [] [] [] (each (false ∷ false ∷ []) false)) BadParameter (pos 4 ∷ pos 1 ∷ pos 0 ∷ [])
refused325 = refl

refused326 : Refuses (codes "DEMUX") (fields (negsuc 0 ∷ []) [] (pos 5 ∷ []) (negsuc 0 ∷ negsuc 0 ∷ []) [] (pos 5 ∷ pos 5 ∷ []) 0 0 [] [] [] (each (true ∷ true ∷ []) false)) BadParameter (pos 4 ∷ pos 0 ∷ pos 2 ∷ [])
refused326 = refl

refused327 : Refuses (codes "DEMUX") (fields (negsuc 0 ∷ []) [] (pos 5 ∷ []) (negsuc 0 ∷ negsuc 0 ∷ []) [] (pos 5 ∷ pos 5 ∷ []) 0 0 [] [] [] (each [] false)) BadParameter (pos 4 ∷ pos 0 ∷ pos 0 ∷ [])
refused327 = refl

refused328 : Refuses (codes "DEMUX") (fields (negsuc 0 ∷ []) [] (pos 5 ∷ []) (negsuc 0 ∷ negsuc 0 ∷ []) [] (pos 5 ∷ pos 5 ∷ []) 0 0 [] [] [] (each [] false)) BadParameter (pos 4 ∷ pos 0 ∷ pos 0 ∷ [])
refused328 = refl

refused329 : Refuses (codes "DEMUX") (fields (negsuc 0 ∷ []) [] (pos 5 ∷ []) (negsuc 0 ∷ negsuc 0 ∷ []) [] (pos 5 ∷ pos 5 ∷ []) 0 0 [] [] [] (each (false ∷ []) false)) BadParameter (pos 4 ∷ pos 1 ∷ pos 0 ∷ [])
refused329 = refl

refused330 : Refuses (codes "DEMUX") (fields (negsuc 0 ∷ []) [] (pos 5 ∷ []) (negsuc 0 ∷ negsuc 0 ∷ []) [] (pos 5 ∷ pos 5 ∷ []) 0 0 [] [] [] (each (false ∷ []) false)) BadParameter (pos 4 ∷ pos 1 ∷ pos 0 ∷ [])
refused330 = refl

refused331 : Refuses (codes "EXTRACTOR") (fields (negsuc 0 ∷ []) [] (pos 5 ∷ []) (negsuc 0 ∷ []) [] (pos 5 ∷ []) 0 0 [] (pos 2 ∷ pos 1 ∷ []) [] (each (true ∷ true ∷ []) false)) BadParameter (pos 4 ∷ pos 0 ∷ pos 2 ∷ [])
refused331 = refl

refused332 : Refuses (codes "EXTRACTOR") (fields (negsuc 0 ∷ []) [] (pos 5 ∷ []) (negsuc 0 ∷ []) [] (pos 5 ∷ []) 0 0 [] (pos 2 ∷ pos 1 ∷ []) [] (each [] false)) BadParameter (pos 4 ∷ pos 0 ∷ pos 0 ∷ [])
refused332 = refl

refused333 : Refuses (codes "EXTRACTOR") (fields (negsuc 0 ∷ []) [] (pos 5 ∷ []) (negsuc 0 ∷ []) [] (pos 5 ∷ []) 0 0 [] (pos 2 ∷ pos 1 ∷ []) [] (each [] false)) BadParameter (pos 4 ∷ pos 0 ∷ pos 0 ∷ [])
refused333 = refl

refused334 : Refuses (codes "EXTRACTOR") (fields (negsuc 0 ∷ []) [] (pos 5 ∷ []) (negsuc 0 ∷ []) [] (pos 5 ∷ []) 0 0 [] (pos 2 ∷ pos 1 ∷ []) [] (each (false ∷ []) false)) BadParameter (pos 4 ∷ pos 1 ∷ pos 0 ∷ [])
refused334 = refl

refused335 : Refuses (codes "EXTRACTOR") (fields (negsuc 0 ∷ []) [] (pos 5 ∷ []) (negsuc 0 ∷ []) [] (pos 5 ∷ []) 0 0 [] (pos 2 ∷ pos 1 ∷ []) [] (each (false ∷ []) false)) BadParameter (pos 4 ∷ pos 1 ∷ pos 0 ∷ [])
refused335 = refl

refused336 : Refuses (codes "LOGICAL_OP") (fields (negsuc 0 ∷ negsuc 0 ∷ []) [] (pos 5 ∷ pos 5 ∷ []) (negsuc 0 ∷ []) [] (pos 5 ∷ []) 0 0 [] (pos 0 ∷ pos 0 ∷ []) [] (each (true ∷ true ∷ true ∷ []) false)) BadParameter (pos 4 ∷ pos 0 ∷ pos 3 ∷ [])
refused336 = refl

refused337 : Refuses (codes "LOGICAL_OP") (fields (negsuc 0 ∷ negsuc 0 ∷ []) [] (pos 5 ∷ pos 5 ∷ []) (negsuc 0 ∷ []) [] (pos 5 ∷ []) 0 0 [] (pos 0 ∷ pos 0 ∷ []) [] (each (true ∷ []) false)) BadParameter (pos 4 ∷ pos 0 ∷ pos 1 ∷ [])
refused337 = refl

refused338 : Refuses (codes "LOGICAL_OP") (fields (negsuc 0 ∷ negsuc 0 ∷ []) [] (pos 5 ∷ pos 5 ∷ []) (negsuc 0 ∷ []) [] (pos 5 ∷ []) 0 0 [] (pos 0 ∷ pos 0 ∷ []) [] (each [] false)) BadParameter (pos 4 ∷ pos 0 ∷ pos 0 ∷ [])
refused338 = refl

refused339 : Refuses (codes "LOGICAL_OP") (fields (negsuc 0 ∷ negsuc 0 ∷ []) [] (pos 5 ∷ pos 5 ∷ []) (negsuc 0 ∷ []) [] (pos 5 ∷ []) 0 0 [] (pos 0 ∷ pos 0 ∷ []) [] (each (false ∷ true ∷ []) false)) BadParameter (pos 4 ∷ pos 1 ∷ pos 0 ∷ [])
refused339 = refl

refused340 : Refuses (codes "LOGICAL_OP") (fields (negsuc 0 ∷ negsuc 0 ∷ []) [] (pos 5 ∷ pos 5 ∷ []) (negsuc 0 ∷ []) [] (pos 5 ∷ []) 0 0 [] (pos 0 ∷ pos 0 ∷ []) [] (each (true ∷ false ∷ []) false)) BadParameter (pos 4 ∷ pos 2 ∷ pos 0 ∷ [])
refused340 = refl

refused341 : Refuses (codes "LOGICAL_OP") (fields (negsuc 0 ∷ negsuc 0 ∷ []) [] (pos 5 ∷ pos 5 ∷ []) (negsuc 0 ∷ []) [] (pos 5 ∷ []) 0 0 [] (pos 0 ∷ pos 0 ∷ []) [] (each (false ∷ false ∷ []) false)) BadParameter (pos 4 ∷ pos 1 ∷ pos 0 ∷ [])
refused341 = refl

refused342 : Refuses (codes "RELATIONALOP") (fields (negsuc 0 ∷ negsuc 0 ∷ []) [] (pos 5 ∷ pos 5 ∷ []) (negsuc 0 ∷ []) [] (pos 5 ∷ []) 0 0 [] (pos 0 ∷ []) [] (each (true ∷ true ∷ true ∷ []) false)) BadParameter (pos 4 ∷ pos 0 ∷ pos 3 ∷ [])
refused342 = refl

refused343 : Refuses (codes "RELATIONALOP") (fields (negsuc 0 ∷ negsuc 0 ∷ []) [] (pos 5 ∷ pos 5 ∷ []) (negsuc 0 ∷ []) [] (pos 5 ∷ []) 0 0 [] (pos 0 ∷ []) [] (each (true ∷ []) false)) BadParameter (pos 4 ∷ pos 0 ∷ pos 1 ∷ [])
refused343 = refl

refused344 : Refuses (codes "RELATIONALOP") (fields (negsuc 0 ∷ negsuc 0 ∷ []) [] (pos 5 ∷ pos 5 ∷ []) (negsuc 0 ∷ []) [] (pos 5 ∷ []) 0 0 [] (pos 0 ∷ []) [] (each [] false)) BadParameter (pos 4 ∷ pos 0 ∷ pos 0 ∷ [])
refused344 = refl

refused345 : Refuses (codes "RELATIONALOP") (fields (negsuc 0 ∷ negsuc 0 ∷ []) [] (pos 5 ∷ pos 5 ∷ []) (negsuc 0 ∷ []) [] (pos 5 ∷ []) 0 0 [] (pos 0 ∷ []) [] (each (false ∷ true ∷ []) false)) BadParameter (pos 4 ∷ pos 1 ∷ pos 0 ∷ [])
refused345 = refl

refused346 : Refuses (codes "RELATIONALOP") (fields (negsuc 0 ∷ negsuc 0 ∷ []) [] (pos 5 ∷ pos 5 ∷ []) (negsuc 0 ∷ []) [] (pos 5 ∷ []) 0 0 [] (pos 0 ∷ []) [] (each (true ∷ false ∷ []) false)) BadParameter (pos 4 ∷ pos 2 ∷ pos 0 ∷ [])
refused346 = refl

refused347 : Refuses (codes "RELATIONALOP") (fields (negsuc 0 ∷ negsuc 0 ∷ []) [] (pos 5 ∷ pos 5 ∷ []) (negsuc 0 ∷ []) [] (pos 5 ∷ []) 0 0 [] (pos 0 ∷ []) [] (each (false ∷ false ∷ []) false)) BadParameter (pos 4 ∷ pos 1 ∷ pos 0 ∷ [])
refused347 = refl

refused348 : Refuses (codes "SHIFT") (fields (negsuc 0 ∷ []) [] (pos 5 ∷ []) (negsuc 0 ∷ []) [] (pos 5 ∷ []) 0 0 [] (pos 3 ∷ pos 0 ∷ []) [] (each (true ∷ true ∷ []) false)) BadParameter (pos 4 ∷ pos 0 ∷ pos 2 ∷ [])
refused348 = refl

refused349 : Refuses (codes "SHIFT") (fields (negsuc 0 ∷ []) [] (pos 5 ∷ []) (negsuc 0 ∷ []) [] (pos 5 ∷ []) 0 0 [] (pos 3 ∷ pos 0 ∷ []) [] (each [] false)) BadParameter (pos 4 ∷ pos 0 ∷ pos 0 ∷ [])
refused349 = refl

refused350 : Refuses (codes "SHIFT") (fields (negsuc 0 ∷ []) [] (pos 5 ∷ []) (negsuc 0 ∷ []) [] (pos 5 ∷ []) 0 0 [] (pos 3 ∷ pos 0 ∷ []) [] (each [] false)) BadParameter (pos 4 ∷ pos 0 ∷ pos 0 ∷ [])
refused350 = refl

refused351 : Refuses (codes "SHIFT") (fields (negsuc 0 ∷ []) [] (pos 5 ∷ []) (negsuc 0 ∷ []) [] (pos 5 ∷ []) 0 0 [] (pos 3 ∷ pos 0 ∷ []) [] (each (false ∷ []) false)) BadParameter (pos 4 ∷ pos 1 ∷ pos 0 ∷ [])
refused351 = refl

refused352 : Refuses (codes "SHIFT") (fields (negsuc 0 ∷ []) [] (pos 5 ∷ []) (negsuc 0 ∷ []) [] (pos 5 ∷ []) 0 0 [] (pos 3 ∷ pos 0 ∷ []) [] (each (false ∷ []) false)) BadParameter (pos 4 ∷ pos 1 ∷ pos 0 ∷ [])
refused352 = refl

refused353 : Refuses (codes "BITSET") (fields (negsuc 0 ∷ []) [] (pos 5 ∷ []) (negsuc 0 ∷ []) [] (pos 5 ∷ []) 0 0 [] (pos 3 ∷ []) [] (each (true ∷ true ∷ []) false)) BadParameter (pos 4 ∷ pos 0 ∷ pos 2 ∷ [])
refused353 = refl

refused354 : Refuses (codes "BITSET") (fields (negsuc 0 ∷ []) [] (pos 5 ∷ []) (negsuc 0 ∷ []) [] (pos 5 ∷ []) 0 0 [] (pos 3 ∷ []) [] (each [] false)) BadParameter (pos 4 ∷ pos 0 ∷ pos 0 ∷ [])
refused354 = refl

refused355 : Refuses (codes "BITSET") (fields (negsuc 0 ∷ []) [] (pos 5 ∷ []) (negsuc 0 ∷ []) [] (pos 5 ∷ []) 0 0 [] (pos 3 ∷ []) [] (each [] false)) BadParameter (pos 4 ∷ pos 0 ∷ pos 0 ∷ [])
refused355 = refl

refused356 : Refuses (codes "BITSET") (fields (negsuc 0 ∷ []) [] (pos 5 ∷ []) (negsuc 0 ∷ []) [] (pos 5 ∷ []) 0 0 [] (pos 3 ∷ []) [] (each (false ∷ []) false)) BadParameter (pos 4 ∷ pos 1 ∷ pos 0 ∷ [])
refused356 = refl

refused357 : Refuses (codes "BITSET") (fields (negsuc 0 ∷ []) [] (pos 5 ∷ []) (negsuc 0 ∷ []) [] (pos 5 ∷ []) 0 0 [] (pos 3 ∷ []) [] (each (false ∷ []) false)) BadParameter (pos 4 ∷ pos 1 ∷ pos 0 ∷ [])
refused357 = refl

refused358 : Refuses (codes "BITCLEAR") (fields (negsuc 0 ∷ []) [] (pos 5 ∷ []) (negsuc 0 ∷ []) [] (pos 5 ∷ []) 0 0 [] (pos 3 ∷ []) [] (each (true ∷ true ∷ []) false)) BadParameter (pos 4 ∷ pos 0 ∷ pos 2 ∷ [])
refused358 = refl

refused359 : Refuses (codes "BITCLEAR") (fields (negsuc 0 ∷ []) [] (pos 5 ∷ []) (negsuc 0 ∷ []) [] (pos 5 ∷ []) 0 0 [] (pos 3 ∷ []) [] (each [] false)) BadParameter (pos 4 ∷ pos 0 ∷ pos 0 ∷ [])
refused359 = refl

refused360 : Refuses (codes "BITCLEAR") (fields (negsuc 0 ∷ []) [] (pos 5 ∷ []) (negsuc 0 ∷ []) [] (pos 5 ∷ []) 0 0 [] (pos 3 ∷ []) [] (each [] false)) BadParameter (pos 4 ∷ pos 0 ∷ pos 0 ∷ [])
refused360 = refl

refused361 : Refuses (codes "BITCLEAR") (fields (negsuc 0 ∷ []) [] (pos 5 ∷ []) (negsuc 0 ∷ []) [] (pos 5 ∷ []) 0 0 [] (pos 3 ∷ []) [] (each (false ∷ []) false)) BadParameter (pos 4 ∷ pos 1 ∷ pos 0 ∷ [])
refused361 = refl

refused362 : Refuses (codes "BITCLEAR") (fields (negsuc 0 ∷ []) [] (pos 5 ∷ []) (negsuc 0 ∷ []) [] (pos 5 ∷ []) 0 0 [] (pos 3 ∷ []) [] (each (false ∷ []) false)) BadParameter (pos 4 ∷ pos 1 ∷ pos 0 ∷ [])
refused362 = refl

refused363 : Refuses (codes "EXTRACTBITS") (fields (negsuc 0 ∷ []) [] (pos 5 ∷ []) (negsuc 0 ∷ []) [] (pos 5 ∷ []) 0 0 [] (pos 1 ∷ pos 3 ∷ []) [] (each (true ∷ true ∷ []) false)) BadParameter (pos 4 ∷ pos 0 ∷ pos 2 ∷ [])
refused363 = refl

refused364 : Refuses (codes "EXTRACTBITS") (fields (negsuc 0 ∷ []) [] (pos 5 ∷ []) (negsuc 0 ∷ []) [] (pos 5 ∷ []) 0 0 [] (pos 1 ∷ pos 3 ∷ []) [] (each [] false)) BadParameter (pos 4 ∷ pos 0 ∷ pos 0 ∷ [])
refused364 = refl

refused365 : Refuses (codes "EXTRACTBITS") (fields (negsuc 0 ∷ []) [] (pos 5 ∷ []) (negsuc 0 ∷ []) [] (pos 5 ∷ []) 0 0 [] (pos 1 ∷ pos 3 ∷ []) [] (each [] false)) BadParameter (pos 4 ∷ pos 0 ∷ pos 0 ∷ [])
refused365 = refl

refused366 : Refuses (codes "EXTRACTBITS") (fields (negsuc 0 ∷ []) [] (pos 5 ∷ []) (negsuc 0 ∷ []) [] (pos 5 ∷ []) 0 0 [] (pos 1 ∷ pos 3 ∷ []) [] (each (false ∷ []) false)) BadParameter (pos 4 ∷ pos 1 ∷ pos 0 ∷ [])
refused366 = refl

refused367 : Refuses (codes "EXTRACTBITS") (fields (negsuc 0 ∷ []) [] (pos 5 ∷ []) (negsuc 0 ∷ []) [] (pos 5 ∷ []) 0 0 [] (pos 1 ∷ pos 3 ∷ []) [] (each (false ∷ []) false)) BadParameter (pos 4 ∷ pos 1 ∷ pos 0 ∷ [])
refused367 = refl

refused368 : Refuses (codes "SWITCH2_m") (fields (negsuc 0 ∷ negsuc 0 ∷ negsuc 0 ∷ []) [] (pos 5 ∷ pos 5 ∷ pos 5 ∷ []) (negsuc 0 ∷ []) [] (pos 5 ∷ []) 0 0 [] (pos 0 ∷ pos 0 ∷ []) [] (each (true ∷ true ∷ true ∷ true ∷ []) false)) BadParameter (pos 4 ∷ pos 0 ∷ pos 4 ∷ [])
refused368 = refl

refused369 : Refuses (codes "SWITCH2_m") (fields (negsuc 0 ∷ negsuc 0 ∷ negsuc 0 ∷ []) [] (pos 5 ∷ pos 5 ∷ pos 5 ∷ []) (negsuc 0 ∷ []) [] (pos 5 ∷ []) 0 0 [] (pos 0 ∷ pos 0 ∷ []) [] (each (true ∷ true ∷ []) false)) BadParameter (pos 4 ∷ pos 0 ∷ pos 2 ∷ [])
refused369 = refl

refused370 : Refuses (codes "SWITCH2_m") (fields (negsuc 0 ∷ negsuc 0 ∷ negsuc 0 ∷ []) [] (pos 5 ∷ pos 5 ∷ pos 5 ∷ []) (negsuc 0 ∷ []) [] (pos 5 ∷ []) 0 0 [] (pos 0 ∷ pos 0 ∷ []) [] (each [] false)) BadParameter (pos 4 ∷ pos 0 ∷ pos 0 ∷ [])
refused370 = refl

refused371 : Refuses (codes "SWITCH2_m") (fields (negsuc 0 ∷ negsuc 0 ∷ negsuc 0 ∷ []) [] (pos 5 ∷ pos 5 ∷ pos 5 ∷ []) (negsuc 0 ∷ []) [] (pos 5 ∷ []) 0 0 [] (pos 0 ∷ pos 0 ∷ []) [] (each (false ∷ true ∷ true ∷ []) false)) BadParameter (pos 4 ∷ pos 1 ∷ pos 0 ∷ [])
refused371 = refl

refused372 : Refuses (codes "SWITCH2_m") (fields (negsuc 0 ∷ negsuc 0 ∷ negsuc 0 ∷ []) [] (pos 5 ∷ pos 5 ∷ pos 5 ∷ []) (negsuc 0 ∷ []) [] (pos 5 ∷ []) 0 0 [] (pos 0 ∷ pos 0 ∷ []) [] (each (true ∷ false ∷ true ∷ []) false)) BadParameter (pos 4 ∷ pos 2 ∷ pos 0 ∷ [])
refused372 = refl

refused373 : Refuses (codes "SWITCH2_m") (fields (negsuc 0 ∷ negsuc 0 ∷ negsuc 0 ∷ []) [] (pos 5 ∷ pos 5 ∷ pos 5 ∷ []) (negsuc 0 ∷ []) [] (pos 5 ∷ []) 0 0 [] (pos 0 ∷ pos 0 ∷ []) [] (each (true ∷ true ∷ false ∷ []) false)) BadParameter (pos 4 ∷ pos 3 ∷ pos 0 ∷ [])
refused373 = refl

refused374 : Refuses (codes "SWITCH2_m") (fields (negsuc 0 ∷ negsuc 0 ∷ negsuc 0 ∷ []) [] (pos 5 ∷ pos 5 ∷ pos 5 ∷ []) (negsuc 0 ∷ []) [] (pos 5 ∷ []) 0 0 [] (pos 0 ∷ pos 0 ∷ []) [] (each (false ∷ false ∷ false ∷ []) false)) BadParameter (pos 4 ∷ pos 1 ∷ pos 0 ∷ [])
refused374 = refl

refused375 : Refuses (codes "SELECT_m") (fields (negsuc 0 ∷ negsuc 0 ∷ negsuc 0 ∷ []) [] (pos 5 ∷ pos 5 ∷ pos 5 ∷ []) (negsuc 0 ∷ []) [] (pos 5 ∷ []) 3 0 [] [] [] (each (true ∷ true ∷ true ∷ true ∷ []) false)) BadParameter (pos 4 ∷ pos 0 ∷ pos 4 ∷ [])
refused375 = refl

refused376 : Refuses (codes "SELECT_m") (fields (negsuc 0 ∷ negsuc 0 ∷ negsuc 0 ∷ []) [] (pos 5 ∷ pos 5 ∷ pos 5 ∷ []) (negsuc 0 ∷ []) [] (pos 5 ∷ []) 3 0 [] [] [] (each (true ∷ true ∷ []) false)) BadParameter (pos 4 ∷ pos 0 ∷ pos 2 ∷ [])
refused376 = refl

refused377 : Refuses (codes "SELECT_m") (fields (negsuc 0 ∷ negsuc 0 ∷ negsuc 0 ∷ []) [] (pos 5 ∷ pos 5 ∷ pos 5 ∷ []) (negsuc 0 ∷ []) [] (pos 5 ∷ []) 3 0 [] [] [] (each [] false)) BadParameter (pos 4 ∷ pos 0 ∷ pos 0 ∷ [])
refused377 = refl

refused378 : Refuses (codes "SELECT_m") (fields (negsuc 0 ∷ negsuc 0 ∷ negsuc 0 ∷ []) [] (pos 5 ∷ pos 5 ∷ pos 5 ∷ []) (negsuc 0 ∷ []) [] (pos 5 ∷ []) 3 0 [] [] [] (each (false ∷ true ∷ true ∷ []) false)) BadParameter (pos 4 ∷ pos 1 ∷ pos 0 ∷ [])
refused378 = refl

refused379 : Refuses (codes "SELECT_m") (fields (negsuc 0 ∷ negsuc 0 ∷ negsuc 0 ∷ []) [] (pos 5 ∷ pos 5 ∷ pos 5 ∷ []) (negsuc 0 ∷ []) [] (pos 5 ∷ []) 3 0 [] [] [] (each (true ∷ false ∷ true ∷ []) false)) BadParameter (pos 4 ∷ pos 2 ∷ pos 0 ∷ [])
refused379 = refl

refused380 : Refuses (codes "SELECT_m") (fields (negsuc 0 ∷ negsuc 0 ∷ negsuc 0 ∷ []) [] (pos 5 ∷ pos 5 ∷ pos 5 ∷ []) (negsuc 0 ∷ []) [] (pos 5 ∷ []) 3 0 [] [] [] (each (true ∷ true ∷ false ∷ []) false)) BadParameter (pos 4 ∷ pos 3 ∷ pos 0 ∷ [])
refused380 = refl

refused381 : Refuses (codes "SELECT_m") (fields (negsuc 0 ∷ negsuc 0 ∷ negsuc 0 ∷ []) [] (pos 5 ∷ pos 5 ∷ pos 5 ∷ []) (negsuc 0 ∷ []) [] (pos 5 ∷ []) 3 0 [] [] [] (each (false ∷ false ∷ false ∷ []) false)) BadParameter (pos 4 ∷ pos 1 ∷ pos 0 ∷ [])
refused381 = refl

refused382 : Refuses (codes "LOGIC") (fields (negsuc 0 ∷ negsuc 0 ∷ []) [] (pos 5 ∷ pos 5 ∷ []) (negsuc 0 ∷ []) [] (pos 5 ∷ []) 0 0 [] (pos 0 ∷ pos 0 ∷ pos 0 ∷ pos 1 ∷ []) [] (each (true ∷ true ∷ true ∷ []) false)) BadParameter (pos 4 ∷ pos 0 ∷ pos 3 ∷ [])
refused382 = refl

refused383 : Refuses (codes "LOGIC") (fields (negsuc 0 ∷ negsuc 0 ∷ []) [] (pos 5 ∷ pos 5 ∷ []) (negsuc 0 ∷ []) [] (pos 5 ∷ []) 0 0 [] (pos 0 ∷ pos 0 ∷ pos 0 ∷ pos 1 ∷ []) [] (each (true ∷ []) false)) BadParameter (pos 4 ∷ pos 0 ∷ pos 1 ∷ [])
refused383 = refl

refused384 : Refuses (codes "LOGIC") (fields (negsuc 0 ∷ negsuc 0 ∷ []) [] (pos 5 ∷ pos 5 ∷ []) (negsuc 0 ∷ []) [] (pos 5 ∷ []) 0 0 [] (pos 0 ∷ pos 0 ∷ pos 0 ∷ pos 1 ∷ []) [] (each [] false)) BadParameter (pos 4 ∷ pos 0 ∷ pos 0 ∷ [])
refused384 = refl

refused385 : Refuses (codes "LOGIC") (fields (negsuc 0 ∷ negsuc 0 ∷ []) [] (pos 5 ∷ pos 5 ∷ []) (negsuc 0 ∷ []) [] (pos 5 ∷ []) 0 0 [] (pos 0 ∷ pos 0 ∷ pos 0 ∷ pos 1 ∷ []) [] (each (false ∷ true ∷ []) false)) BadParameter (pos 4 ∷ pos 1 ∷ pos 0 ∷ [])
refused385 = refl

refused386 : Refuses (codes "LOGIC") (fields (negsuc 0 ∷ negsuc 0 ∷ []) [] (pos 5 ∷ pos 5 ∷ []) (negsuc 0 ∷ []) [] (pos 5 ∷ []) 0 0 [] (pos 0 ∷ pos 0 ∷ pos 0 ∷ pos 1 ∷ []) [] (each (true ∷ false ∷ []) false)) BadParameter (pos 4 ∷ pos 2 ∷ pos 0 ∷ [])
refused386 = refl

refused387 : Refuses (codes "LOGIC") (fields (negsuc 0 ∷ negsuc 0 ∷ []) [] (pos 5 ∷ pos 5 ∷ []) (negsuc 0 ∷ []) [] (pos 5 ∷ []) 0 0 [] (pos 0 ∷ pos 0 ∷ pos 0 ∷ pos 1 ∷ []) [] (each (false ∷ false ∷ []) false)) BadParameter (pos 4 ∷ pos 1 ∷ pos 0 ∷ [])
refused387 = refl

refused388 : Refuses (codes "ANDLOG_f") (fields [] [] [] (negsuc 0 ∷ []) [] (pos 5 ∷ []) 2 0 [] [] [] (each (true ∷ []) false)) BadParameter (pos 4 ∷ pos 0 ∷ pos 1 ∷ [])
refused388 = refl

refused389 : Refuses (codes "ANDLOG_f") (fields [] [] [] (negsuc 0 ∷ []) [] (pos 5 ∷ []) 2 0 [] [] [] (each (false ∷ []) false)) BadParameter (pos 4 ∷ pos 0 ∷ pos 1 ∷ [])
refused389 = refl

refused390 : Refuses (codes "DOLLAR_m") (fields (negsuc 0 ∷ []) [] (pos 5 ∷ []) (negsuc 0 ∷ []) [] (pos 5 ∷ []) 1 0 (pos 0 ∷ []) [] [] (each (true ∷ true ∷ []) false)) BadParameter (pos 4 ∷ pos 0 ∷ pos 2 ∷ [])
refused390 = refl

refused391 : Refuses (codes "DOLLAR_m") (fields (negsuc 0 ∷ []) [] (pos 5 ∷ []) (negsuc 0 ∷ []) [] (pos 5 ∷ []) 1 0 (pos 0 ∷ []) [] [] (each [] false)) BadParameter (pos 4 ∷ pos 0 ∷ pos 0 ∷ [])
refused391 = refl

refused392 : Refuses (codes "DOLLAR_m") (fields (negsuc 0 ∷ []) [] (pos 5 ∷ []) (negsuc 0 ∷ []) [] (pos 5 ∷ []) 1 0 (pos 0 ∷ []) [] [] (each [] false)) BadParameter (pos 4 ∷ pos 0 ∷ pos 0 ∷ [])
refused392 = refl

refused393 : Refuses (codes "DOLLAR_m") (fields (negsuc 0 ∷ []) [] (pos 5 ∷ []) (negsuc 0 ∷ []) [] (pos 5 ∷ []) 1 0 (pos 0 ∷ []) [] [] (each (false ∷ false ∷ []) false)) BadParameter (pos 4 ∷ pos 0 ∷ pos 2 ∷ [])
refused393 = refl

refused394 : Refuses (codes "SAMPHOLD_m") (fields (negsuc 0 ∷ []) [] (pos 5 ∷ []) (negsuc 0 ∷ []) [] (pos 5 ∷ []) 1 0 [] [] [] (each (true ∷ true ∷ []) false)) BadParameter (pos 4 ∷ pos 0 ∷ pos 2 ∷ [])
refused394 = refl

refused395 : Refuses (codes "SAMPHOLD_m") (fields (negsuc 0 ∷ []) [] (pos 5 ∷ []) (negsuc 0 ∷ []) [] (pos 5 ∷ []) 1 0 [] [] [] (each [] false)) BadParameter (pos 4 ∷ pos 0 ∷ pos 0 ∷ [])
refused395 = refl

refused396 : Refuses (codes "SAMPHOLD_m") (fields (negsuc 0 ∷ []) [] (pos 5 ∷ []) (negsuc 0 ∷ []) [] (pos 5 ∷ []) 1 0 [] [] [] (each [] false)) BadParameter (pos 4 ∷ pos 0 ∷ pos 0 ∷ [])
refused396 = refl

refused397 : Refuses (codes "SAMPHOLD_m") (fields (negsuc 0 ∷ []) [] (pos 5 ∷ []) (negsuc 0 ∷ []) [] (pos 5 ∷ []) 1 0 [] [] [] (each (false ∷ []) false)) BadParameter (pos 4 ∷ pos 1 ∷ pos 0 ∷ [])
refused397 = refl

refused398 : Refuses (codes "SAMPHOLD_m") (fields (negsuc 0 ∷ []) [] (pos 5 ∷ []) (negsuc 0 ∷ []) [] (pos 5 ∷ []) 1 0 [] [] [] (each (false ∷ []) false)) BadParameter (pos 4 ∷ pos 1 ∷ pos 0 ∷ [])
refused398 = refl

refused399 : Refuses (codes "REGISTER") (fields (negsuc 0 ∷ []) [] (pos 5 ∷ []) (negsuc 0 ∷ []) [] (pos 5 ∷ []) 1 0 (pos 0 ∷ pos 0 ∷ []) [] [] (each (true ∷ true ∷ []) false)) BadParameter (pos 4 ∷ pos 0 ∷ pos 2 ∷ [])
refused399 = refl

refused400 : Refuses (codes "REGISTER") (fields (negsuc 0 ∷ []) [] (pos 5 ∷ []) (negsuc 0 ∷ []) [] (pos 5 ∷ []) 1 0 (pos 0 ∷ pos 0 ∷ []) [] [] (each [] false)) BadParameter (pos 4 ∷ pos 0 ∷ pos 0 ∷ [])
refused400 = refl

refused401 : Refuses (codes "REGISTER") (fields (negsuc 0 ∷ []) [] (pos 5 ∷ []) (negsuc 0 ∷ []) [] (pos 5 ∷ []) 1 0 (pos 0 ∷ pos 0 ∷ []) [] [] (each [] false)) BadParameter (pos 4 ∷ pos 0 ∷ pos 0 ∷ [])
refused401 = refl

refused402 : Refuses (codes "REGISTER") (fields (negsuc 0 ∷ []) [] (pos 5 ∷ []) (negsuc 0 ∷ []) [] (pos 5 ∷ []) 1 0 (pos 0 ∷ pos 0 ∷ []) [] [] (each (false ∷ false ∷ []) false)) BadParameter (pos 4 ∷ pos 0 ∷ pos 2 ∷ [])
refused402 = refl

refused403 : Refuses (codes "Modulo_Count") (fields [] [] [] (negsuc 0 ∷ []) [] (pos 5 ∷ []) 1 0 (pos 0 ∷ []) (pos 10 ∷ []) [] (each (true ∷ []) false)) BadParameter (pos 4 ∷ pos 0 ∷ pos 1 ∷ [])
refused403 = refl

refused404 : Refuses (codes "Modulo_Count") (fields [] [] [] (negsuc 0 ∷ []) [] (pos 5 ∷ []) 1 0 (pos 0 ∷ []) (pos 10 ∷ []) [] (each (false ∷ []) false)) BadParameter (pos 4 ∷ pos 0 ∷ pos 1 ∷ [])
refused404 = refl

refused405 : Refuses (codes "GATED_DELAY") (fields (negsuc 0 ∷ negsuc 0 ∷ []) [] (pos 5 ∷ pos 5 ∷ []) (negsuc 0 ∷ []) [] (pos 5 ∷ []) 1 0 (pos 0 ∷ []) [] [] (each (true ∷ true ∷ true ∷ []) false)) BadParameter (pos 4 ∷ pos 0 ∷ pos 3 ∷ [])
refused405 = refl

refused406 : Refuses (codes "GATED_DELAY") (fields (negsuc 0 ∷ negsuc 0 ∷ []) [] (pos 5 ∷ pos 5 ∷ []) (negsuc 0 ∷ []) [] (pos 5 ∷ []) 1 0 (pos 0 ∷ []) [] [] (each (true ∷ []) false)) BadParameter (pos 4 ∷ pos 0 ∷ pos 1 ∷ [])
refused406 = refl

refused407 : Refuses (codes "GATED_DELAY") (fields (negsuc 0 ∷ negsuc 0 ∷ []) [] (pos 5 ∷ pos 5 ∷ []) (negsuc 0 ∷ []) [] (pos 5 ∷ []) 1 0 (pos 0 ∷ []) [] [] (each [] false)) BadParameter (pos 4 ∷ pos 0 ∷ pos 0 ∷ [])
refused407 = refl

refused408 : Refuses (codes "SENSOR") (fields [] [] [] (negsuc 0 ∷ []) [] (pos 5 ∷ []) 1 0 [] (pos 1 ∷ []) [] (each (true ∷ []) false)) BadParameter (pos 4 ∷ pos 0 ∷ pos 1 ∷ [])
refused408 = refl

refused409 : Refuses (codes "SENSOR") (fields [] [] [] (negsuc 0 ∷ []) [] (pos 5 ∷ []) 1 0 [] (pos 1 ∷ []) [] (each (false ∷ []) false)) BadParameter (pos 4 ∷ pos 0 ∷ pos 1 ∷ [])
refused409 = refl

refused410 : Refuses (codes "EVTDLY_c") (fields [] [] [] [] [] [] 1 1 [] (pos 5 ∷ []) (pos 0 ∷ []) (each (true ∷ []) false)) BadParameter (pos 4 ∷ pos 0 ∷ pos 1 ∷ [])
refused410 = refl

refused411 : Refuses (codes "EVTDLY_c") (fields [] [] [] [] [] [] 1 1 [] (pos 5 ∷ []) (pos 0 ∷ []) (each (false ∷ []) false)) BadParameter (pos 4 ∷ pos 0 ∷ pos 1 ∷ [])
refused411 = refl

refused412 : Refuses (codes "EVTVARDLY") (fields (negsuc 0 ∷ []) [] (pos 5 ∷ []) [] [] [] 1 1 [] [] (negsuc 0 ∷ []) (each (true ∷ true ∷ []) false)) BadParameter (pos 4 ∷ pos 0 ∷ pos 2 ∷ [])
refused412 = refl

refused413 : Refuses (codes "EVTVARDLY") (fields (negsuc 0 ∷ []) [] (pos 5 ∷ []) [] [] [] 1 1 [] [] (negsuc 0 ∷ []) (each [] false)) BadParameter (pos 4 ∷ pos 0 ∷ pos 0 ∷ [])
refused413 = refl

refused414 : Refuses (codes "EVTVARDLY") (fields (negsuc 0 ∷ []) [] (pos 5 ∷ []) [] [] [] 1 1 [] [] (negsuc 0 ∷ []) (each [] false)) BadParameter (pos 4 ∷ pos 0 ∷ pos 0 ∷ [])
refused414 = refl

refused415 : Refuses (codes "EVTVARDLY") (fields (negsuc 0 ∷ []) [] (pos 5 ∷ []) [] [] [] 1 1 [] [] (negsuc 0 ∷ []) (each (false ∷ false ∷ []) false)) BadParameter (pos 4 ∷ pos 0 ∷ pos 2 ∷ [])
refused415 = refl

refused416 : Refuses (codes "IFTHEL_f") (fields (negsuc 0 ∷ []) [] (pos 5 ∷ []) [] [] [] 0 2 [] [] [] (each (true ∷ true ∷ []) false)) BadParameter (pos 4 ∷ pos 0 ∷ pos 2 ∷ [])
refused416 = refl

refused417 : Refuses (codes "IFTHEL_f") (fields (negsuc 0 ∷ []) [] (pos 5 ∷ []) [] [] [] 0 2 [] [] [] (each [] false)) BadParameter (pos 4 ∷ pos 0 ∷ pos 0 ∷ [])
refused417 = refl

refused418 : Refuses (codes "IFTHEL_f") (fields (negsuc 0 ∷ []) [] (pos 5 ∷ []) [] [] [] 0 2 [] [] [] (each [] false)) BadParameter (pos 4 ∷ pos 0 ∷ pos 0 ∷ [])
refused418 = refl

refused419 : Refuses (codes "IFTHEL_f") (fields (negsuc 0 ∷ []) [] (pos 5 ∷ []) [] [] [] 0 2 [] [] [] (each (false ∷ []) false)) BadParameter (pos 4 ∷ pos 1 ∷ pos 0 ∷ [])
refused419 = refl

refused420 : Refuses (codes "IFTHEL_f") (fields (negsuc 0 ∷ []) [] (pos 5 ∷ []) [] [] [] 0 2 [] [] [] (each (false ∷ []) false)) BadParameter (pos 4 ∷ pos 1 ∷ pos 0 ∷ [])
refused420 = refl

refused421 : Refuses (codes "ESELECT_f") (fields (negsuc 0 ∷ []) [] (pos 5 ∷ []) [] [] [] 0 3 [] [] [] (each (true ∷ true ∷ []) false)) BadParameter (pos 4 ∷ pos 0 ∷ pos 2 ∷ [])
refused421 = refl

refused422 : Refuses (codes "ESELECT_f") (fields (negsuc 0 ∷ []) [] (pos 5 ∷ []) [] [] [] 0 3 [] [] [] (each [] false)) BadParameter (pos 4 ∷ pos 0 ∷ pos 0 ∷ [])
refused422 = refl

refused423 : Refuses (codes "ESELECT_f") (fields (negsuc 0 ∷ []) [] (pos 5 ∷ []) [] [] [] 0 3 [] [] [] (each [] false)) BadParameter (pos 4 ∷ pos 0 ∷ pos 0 ∷ [])
refused423 = refl

refused424 : Refuses (codes "ESELECT_f") (fields (negsuc 0 ∷ []) [] (pos 5 ∷ []) [] [] [] 0 3 [] [] [] (each (false ∷ []) false)) BadParameter (pos 4 ∷ pos 1 ∷ pos 0 ∷ [])
refused424 = refl

refused425 : Refuses (codes "ESELECT_f") (fields (negsuc 0 ∷ []) [] (pos 5 ∷ []) [] [] [] 0 3 [] [] [] (each (false ∷ []) false)) BadParameter (pos 4 ∷ pos 1 ∷ pos 0 ∷ [])
refused425 = refl

refused426 : Refuses (codes "HALT_f") (fields [] [] [] [] [] [] 1 0 [] [] [] (each (true ∷ []) false)) BadParameter (pos 4 ∷ pos 0 ∷ pos 1 ∷ [])
refused426 = refl

refused427 : Refuses (codes "HALT_f") (fields [] [] [] [] [] [] 1 0 [] [] [] (each (false ∷ []) false)) BadParameter (pos 4 ∷ pos 0 ∷ pos 1 ∷ [])
refused427 = refl

refused428 : Refuses (codes "GATED_DELAY") (fields (negsuc 0 ∷ negsuc 0 ∷ []) [] (pos 5 ∷ pos 5 ∷ []) (negsuc 0 ∷ []) [] (pos 5 ∷ []) 1 0 (pos 0 ∷ []) [] [] (each (true ∷ false ∷ []) false)) BadParameter (pos 4 ∷ pos 2 ∷ pos 0 ∷ [])
refused428 = refl

refused429 : Refuses (codes "GATED_DELAY") (fields (negsuc 0 ∷ negsuc 0 ∷ []) [] (pos 5 ∷ pos 5 ∷ []) (negsuc 0 ∷ []) [] (pos 5 ∷ []) 1 0 (pos 0 ∷ []) [] [] (each (false ∷ false ∷ []) false)) BadParameter (pos 4 ∷ pos 2 ∷ pos 0 ∷ [])
refused429 = refl

refused430 : Refuses (codes "GATED_DELAY") (fields (negsuc 0 ∷ negsuc 0 ∷ []) [] (pos 5 ∷ pos 5 ∷ []) (negsuc 0 ∷ []) [] (pos 5 ∷ []) 1 0 (pos 0 ∷ []) [] [] (each (false ∷ []) false)) BadParameter (pos 4 ∷ pos 0 ∷ pos 1 ∷ [])
refused430 = refl

refused431 : Refuses (codes "GATED_DELAY") (fields (negsuc 0 ∷ negsuc 0 ∷ []) [] (pos 5 ∷ pos 5 ∷ []) (negsuc 0 ∷ []) [] (pos 5 ∷ []) 1 0 (pos 0 ∷ []) [] [] (each (false ∷ true ∷ false ∷ []) false)) BadParameter (pos 4 ∷ pos 0 ∷ pos 3 ∷ [])
refused431 = refl

refused432 : Refuses (codes "SUMMATION") (fields (negsuc 0 ∷ negsuc 0 ∷ negsuc 0 ∷ negsuc 0 ∷ []) [] (pos 5 ∷ pos 5 ∷ pos 5 ∷ pos 5 ∷ []) (negsuc 0 ∷ []) [] (pos 5 ∷ []) 0 0 [] (pos 0 ∷ pos 1 ∷ pos 1 ∷ pos 1 ∷ pos 1 ∷ []) [] (each (true ∷ false ∷ true ∷ false ∷ []) false)) BadParameter (pos 4 ∷ pos 2 ∷ pos 0 ∷ [])
refused432 = refl

refused433 : Refuses (codes "SWITCH2_m") (fields (negsuc 0 ∷ negsuc 0 ∷ negsuc 0 ∷ []) [] (pos 5 ∷ pos 5 ∷ pos 5 ∷ []) (negsuc 0 ∷ []) [] (pos 5 ∷ []) 0 0 [] (pos 0 ∷ pos 0 ∷ []) [] (each (true ∷ false ∷ false ∷ []) false)) BadParameter (pos 4 ∷ pos 2 ∷ pos 0 ∷ [])
refused433 = refl

refused434 : Refuses (codes "LOGICAL_OP") (fields (negsuc 0 ∷ negsuc 0 ∷ negsuc 0 ∷ []) [] (pos 5 ∷ pos 5 ∷ pos 5 ∷ []) (negsuc 0 ∷ []) [] (pos 5 ∷ []) 0 0 [] (pos 0 ∷ pos 0 ∷ []) [] (each (true ∷ true ∷ []) false)) BadParameter (pos 4 ∷ pos 0 ∷ pos 2 ∷ [])
refused434 = refl

refused435 : Refuses (codes "SUMMATION") (fields (many 64 (negsuc 0)) [] (many 64 (pos 5)) (negsuc 0 ∷ []) [] (pos 5 ∷ []) 0 0 [] (pos 2 ∷ pos 1 ∷ pos 1 ∷ pos 1 ∷ pos 1 ∷ pos 1 ∷ pos 1 ∷ pos 1 ∷ pos 1 ∷ pos 1 ∷ pos 1 ∷ pos 1 ∷ pos 1 ∷ pos 1 ∷ pos 1 ∷ pos 1 ∷ pos 1 ∷ pos 1 ∷ pos 1 ∷ pos 1 ∷ pos 1 ∷ pos 1 ∷ pos 1 ∷ pos 1 ∷ pos 1 ∷ pos 1 ∷ pos 1 ∷ pos 1 ∷ pos 1 ∷ pos 1 ∷ pos 1 ∷ pos 1 ∷ pos 1 ∷ pos 1 ∷ pos 1 ∷ pos 1 ∷ pos 1 ∷ pos 1 ∷ pos 1 ∷ pos 1 ∷ pos 1 ∷ pos 1 ∷ pos 1 ∷ pos 1 ∷ pos 1 ∷ pos 1 ∷ pos 1 ∷ pos 1 ∷ pos 1 ∷ pos 1 ∷ pos 1 ∷ pos 1 ∷ pos 1 ∷ pos 1 ∷ pos 1 ∷ pos 1 ∷ pos 1 ∷ pos 1 ∷ pos 1 ∷ pos 1 ∷ pos 1 ∷ pos 1 ∷ pos 1 ∷ pos 1 ∷ pos 1 ∷ []) [] (each (true ∷ true ∷ true ∷ true ∷ true ∷ true ∷ true ∷ true ∷ true ∷ true ∷ true ∷ true ∷ true ∷ true ∷ true ∷ true ∷ true ∷ true ∷ true ∷ true ∷ true ∷ true ∷ true ∷ true ∷ true ∷ true ∷ true ∷ true ∷ true ∷ true ∷ true ∷ true ∷ true ∷ true ∷ true ∷ true ∷ true ∷ true ∷ true ∷ true ∷ true ∷ true ∷ true ∷ true ∷ true ∷ true ∷ true ∷ true ∷ true ∷ true ∷ true ∷ true ∷ true ∷ true ∷ true ∷ true ∷ true ∷ true ∷ true ∷ true ∷ true ∷ true ∷ true ∷ false ∷ []) false)) BadParameter (pos 4 ∷ pos 64 ∷ pos 0 ∷ [])
refused435 = refl

refused436 : Refuses (codes "CONST_m") (fields [] [] [] (negsuc 0 ∷ []) [] (pos 5 ∷ []) 0 0 [] [] [] None) BadParameter (pos 1 ∷ pos 0 ∷ pos 0 ∷ [])
refused436 = refl

refused437 : Refuses (codes "SUMMATION") (fields (negsuc 0 ∷ negsuc 0 ∷ []) [] (pos 5 ∷ pos 5 ∷ []) (negsuc 0 ∷ []) [] (pos 5 ∷ []) 0 0 [] (pos 0 ∷ pos 1 ∷ negsuc 0 ∷ pos 1 ∷ []) [] None) BadParameter (pos 1 ∷ pos 0 ∷ pos 4 ∷ [])
refused437 = refl

refused438 : Refuses (codes "SUMMATION") (fields (negsuc 0 ∷ negsuc 0 ∷ []) [] (pos 5 ∷ pos 5 ∷ []) (negsuc 0 ∷ []) [] (pos 5 ∷ []) 0 0 [] (pos 0 ∷ pos 1 ∷ []) [] None) BadParameter (pos 1 ∷ pos 0 ∷ pos 2 ∷ [])
refused438 = refl

refused439 : Refuses (codes "GAINBLK") (fields (negsuc 0 ∷ []) [] (pos 5 ∷ []) (negsuc 0 ∷ []) [] (pos 5 ∷ []) 0 0 [] (pos 0 ∷ pos 3 ∷ pos 1 ∷ []) [] None) BadParameter (pos 1 ∷ pos 0 ∷ pos 3 ∷ [])
refused439 = refl

refused440 : Refuses (codes "GAINBLK") (fields (negsuc 0 ∷ []) [] (pos 5 ∷ []) (negsuc 0 ∷ []) [] (pos 5 ∷ []) 0 0 [] (pos 0 ∷ []) [] None) BadParameter (pos 1 ∷ pos 0 ∷ pos 1 ∷ [])
refused440 = refl

refused441 : Refuses (codes "PRODUCT") (fields (negsuc 0 ∷ negsuc 0 ∷ []) [] (pos 5 ∷ pos 5 ∷ []) (negsuc 0 ∷ []) [] (pos 5 ∷ []) 0 0 [] (pos 0 ∷ pos 1 ∷ pos 1 ∷ []) [] None) BadParameter (pos 1 ∷ pos 0 ∷ pos 3 ∷ [])
refused441 = refl

refused442 : Refuses (codes "PRODUCT") (fields (negsuc 0 ∷ negsuc 0 ∷ []) [] (pos 5 ∷ pos 5 ∷ []) (negsuc 0 ∷ []) [] (pos 5 ∷ []) 0 0 [] (pos 0 ∷ []) [] None) BadParameter (pos 1 ∷ pos 0 ∷ pos 1 ∷ [])
refused442 = refl

refused443 : Refuses (codes "ABS_VALUE") (fields (negsuc 0 ∷ []) [] (pos 5 ∷ []) (negsuc 0 ∷ []) [] (pos 5 ∷ []) 0 0 [] (pos 0 ∷ pos 1 ∷ []) [] None) BadParameter (pos 1 ∷ pos 0 ∷ pos 2 ∷ [])
refused443 = refl

refused444 : Refuses (codes "ABS_VALUE") (fields (negsuc 0 ∷ []) [] (pos 5 ∷ []) (negsuc 0 ∷ []) [] (pos 5 ∷ []) 0 0 [] [] [] None) BadParameter (pos 1 ∷ pos 0 ∷ pos 0 ∷ [])
refused444 = refl

refused445 : Refuses (codes "SIGNUM") (fields (negsuc 0 ∷ []) [] (pos 5 ∷ []) (negsuc 0 ∷ []) [] (pos 5 ∷ []) 0 0 [] (pos 1 ∷ []) [] None) BadParameter (pos 1 ∷ pos 0 ∷ pos 1 ∷ [])
refused445 = refl

refused446 : Refuses (codes "MAXMIN") (fields (negsuc 0 ∷ negsuc 0 ∷ []) [] (pos 5 ∷ pos 5 ∷ []) (negsuc 0 ∷ []) [] (pos 5 ∷ []) 0 0 [] (pos 1 ∷ pos 1 ∷ []) [] None) BadParameter (pos 1 ∷ pos 0 ∷ pos 2 ∷ [])
refused446 = refl

refused447 : Refuses (codes "MAXMIN") (fields (negsuc 0 ∷ negsuc 0 ∷ []) [] (pos 5 ∷ pos 5 ∷ []) (negsuc 0 ∷ []) [] (pos 5 ∷ []) 0 0 [] [] [] None) BadParameter (pos 1 ∷ pos 0 ∷ pos 0 ∷ [])
refused447 = refl

refused448 : Refuses (codes "SATURATION") (fields (negsuc 0 ∷ []) [] (pos 5 ∷ []) (negsuc 0 ∷ []) [] (pos 5 ∷ []) 0 0 [] (negsuc 4 ∷ pos 5 ∷ pos 1 ∷ []) [] None) BadParameter (pos 1 ∷ pos 0 ∷ pos 3 ∷ [])
refused448 = refl

refused449 : Refuses (codes "SATURATION") (fields (negsuc 0 ∷ []) [] (pos 5 ∷ []) (negsuc 0 ∷ []) [] (pos 5 ∷ []) 0 0 [] (negsuc 4 ∷ []) [] None) BadParameter (pos 1 ∷ pos 0 ∷ pos 1 ∷ [])
refused449 = refl

refused450 : Refuses (codes "DEADBAND") (fields (negsuc 0 ∷ []) [] (pos 5 ∷ []) (negsuc 0 ∷ []) [] (pos 5 ∷ []) 0 0 [] (pos 0 ∷ negsuc 4 ∷ pos 5 ∷ pos 1 ∷ []) [] None) BadParameter (pos 1 ∷ pos 0 ∷ pos 4 ∷ [])
refused450 = refl

refused451 : Refuses (codes "DEADBAND") (fields (negsuc 0 ∷ []) [] (pos 5 ∷ []) (negsuc 0 ∷ []) [] (pos 5 ∷ []) 0 0 [] (pos 0 ∷ negsuc 4 ∷ []) [] None) BadParameter (pos 1 ∷ pos 0 ∷ pos 2 ∷ [])
refused451 = refl

refused452 : Refuses (codes "CONVERT") (fields (negsuc 0 ∷ []) [] (pos 5 ∷ []) (negsuc 0 ∷ []) [] (pos 5 ∷ []) 0 0 [] (pos 0 ∷ pos 1 ∷ []) [] None) BadParameter (pos 1 ∷ pos 0 ∷ pos 2 ∷ [])
refused452 = refl

refused453 : Refuses (codes "CONVERT") (fields (negsuc 0 ∷ []) [] (pos 5 ∷ []) (negsuc 0 ∷ []) [] (pos 5 ∷ []) 0 0 [] [] [] None) BadParameter (pos 1 ∷ pos 0 ∷ pos 0 ∷ [])
refused453 = refl

refused454 : Refuses (codes "MUX") (fields (negsuc 0 ∷ negsuc 0 ∷ []) [] (pos 5 ∷ pos 5 ∷ []) (negsuc 0 ∷ []) [] (pos 5 ∷ []) 0 0 [] (pos 1 ∷ []) [] None) BadParameter (pos 1 ∷ pos 0 ∷ pos 1 ∷ [])
refused454 = refl

refused455 : Refuses (codes "DEMUX") (fields (negsuc 0 ∷ []) [] (pos 5 ∷ []) (negsuc 0 ∷ negsuc 0 ∷ []) [] (pos 5 ∷ pos 5 ∷ []) 0 0 [] (pos 1 ∷ []) [] None) BadParameter (pos 1 ∷ pos 0 ∷ pos 1 ∷ [])
refused455 = refl

refused456 : Refuses (codes "EXTRACTOR") (fields (negsuc 0 ∷ []) [] (pos 5 ∷ []) (negsuc 0 ∷ []) [] (pos 5 ∷ []) 0 0 [] [] [] None) BadParameter (pos 1 ∷ pos 0 ∷ pos 0 ∷ [])
refused456 = refl

refused457 : Refuses (codes "LOGICAL_OP") (fields (negsuc 0 ∷ negsuc 0 ∷ []) [] (pos 5 ∷ pos 5 ∷ []) (negsuc 0 ∷ []) [] (pos 5 ∷ []) 0 0 [] (pos 0 ∷ pos 0 ∷ pos 1 ∷ []) [] None) BadParameter (pos 1 ∷ pos 0 ∷ pos 3 ∷ [])
refused457 = refl

refused458 : Refuses (codes "LOGICAL_OP") (fields (negsuc 0 ∷ negsuc 0 ∷ []) [] (pos 5 ∷ pos 5 ∷ []) (negsuc 0 ∷ []) [] (pos 5 ∷ []) 0 0 [] (pos 0 ∷ []) [] None) BadParameter (pos 1 ∷ pos 0 ∷ pos 1 ∷ [])
refused458 = refl

refused459 : Refuses (codes "RELATIONALOP") (fields (negsuc 0 ∷ negsuc 0 ∷ []) [] (pos 5 ∷ pos 5 ∷ []) (negsuc 0 ∷ []) [] (pos 5 ∷ []) 0 0 [] (pos 0 ∷ pos 1 ∷ []) [] None) BadParameter (pos 1 ∷ pos 0 ∷ pos 2 ∷ [])
refused459 = refl

refused460 : Refuses (codes "RELATIONALOP") (fields (negsuc 0 ∷ negsuc 0 ∷ []) [] (pos 5 ∷ pos 5 ∷ []) (negsuc 0 ∷ []) [] (pos 5 ∷ []) 0 0 [] [] [] None) BadParameter (pos 1 ∷ pos 0 ∷ pos 0 ∷ [])
refused460 = refl

refused461 : Refuses (codes "SHIFT") (fields (negsuc 0 ∷ []) [] (pos 5 ∷ []) (negsuc 0 ∷ []) [] (pos 5 ∷ []) 0 0 [] (pos 3 ∷ pos 0 ∷ pos 1 ∷ []) [] None) BadParameter (pos 1 ∷ pos 0 ∷ pos 3 ∷ [])
refused461 = refl

refused462 : Refuses (codes "SHIFT") (fields (negsuc 0 ∷ []) [] (pos 5 ∷ []) (negsuc 0 ∷ []) [] (pos 5 ∷ []) 0 0 [] (pos 3 ∷ []) [] None) BadParameter (pos 1 ∷ pos 0 ∷ pos 1 ∷ [])
refused462 = refl

refused463 : Refuses (codes "BITSET") (fields (negsuc 0 ∷ []) [] (pos 5 ∷ []) (negsuc 0 ∷ []) [] (pos 5 ∷ []) 0 0 [] (pos 3 ∷ pos 1 ∷ []) [] None) BadParameter (pos 1 ∷ pos 0 ∷ pos 2 ∷ [])
refused463 = refl

refused464 : Refuses (codes "BITSET") (fields (negsuc 0 ∷ []) [] (pos 5 ∷ []) (negsuc 0 ∷ []) [] (pos 5 ∷ []) 0 0 [] [] [] None) BadParameter (pos 1 ∷ pos 0 ∷ pos 0 ∷ [])
refused464 = refl

refused465 : Refuses (codes "BITCLEAR") (fields (negsuc 0 ∷ []) [] (pos 5 ∷ []) (negsuc 0 ∷ []) [] (pos 5 ∷ []) 0 0 [] (pos 3 ∷ pos 1 ∷ []) [] None) BadParameter (pos 1 ∷ pos 0 ∷ pos 2 ∷ [])
refused465 = refl

refused466 : Refuses (codes "BITCLEAR") (fields (negsuc 0 ∷ []) [] (pos 5 ∷ []) (negsuc 0 ∷ []) [] (pos 5 ∷ []) 0 0 [] [] [] None) BadParameter (pos 1 ∷ pos 0 ∷ pos 0 ∷ [])
refused466 = refl

refused467 : Refuses (codes "EXTRACTBITS") (fields (negsuc 0 ∷ []) [] (pos 5 ∷ []) (negsuc 0 ∷ []) [] (pos 5 ∷ []) 0 0 [] (pos 1 ∷ pos 3 ∷ pos 1 ∷ []) [] None) BadParameter (pos 1 ∷ pos 0 ∷ pos 3 ∷ [])
refused467 = refl

refused468 : Refuses (codes "EXTRACTBITS") (fields (negsuc 0 ∷ []) [] (pos 5 ∷ []) (negsuc 0 ∷ []) [] (pos 5 ∷ []) 0 0 [] (pos 1 ∷ []) [] None) BadParameter (pos 1 ∷ pos 0 ∷ pos 1 ∷ [])
refused468 = refl

refused469 : Refuses (codes "SWITCH2_m") (fields (negsuc 0 ∷ negsuc 0 ∷ negsuc 0 ∷ []) [] (pos 5 ∷ pos 5 ∷ pos 5 ∷ []) (negsuc 0 ∷ []) [] (pos 5 ∷ []) 0 0 [] (pos 0 ∷ pos 0 ∷ pos 1 ∷ []) [] None) BadParameter (pos 1 ∷ pos 0 ∷ pos 3 ∷ [])
refused469 = refl

refused470 : Refuses (codes "SWITCH2_m") (fields (negsuc 0 ∷ negsuc 0 ∷ negsuc 0 ∷ []) [] (pos 5 ∷ pos 5 ∷ pos 5 ∷ []) (negsuc 0 ∷ []) [] (pos 5 ∷ []) 0 0 [] (pos 0 ∷ []) [] None) BadParameter (pos 1 ∷ pos 0 ∷ pos 1 ∷ [])
refused470 = refl

refused471 : Refuses (codes "SELECT_m") (fields (negsuc 0 ∷ negsuc 0 ∷ negsuc 0 ∷ []) [] (pos 5 ∷ pos 5 ∷ pos 5 ∷ []) (negsuc 0 ∷ []) [] (pos 5 ∷ []) 3 0 [] (pos 1 ∷ []) [] None) BadParameter (pos 1 ∷ pos 0 ∷ pos 1 ∷ [])
refused471 = refl

refused472 : Refuses (codes "LOGIC") (fields (negsuc 0 ∷ negsuc 0 ∷ []) [] (pos 5 ∷ pos 5 ∷ []) (negsuc 0 ∷ []) [] (pos 5 ∷ []) 0 0 [] (pos 0 ∷ pos 0 ∷ pos 0 ∷ pos 1 ∷ pos 1 ∷ []) [] None) BadParameter (pos 1 ∷ pos 0 ∷ pos 5 ∷ [])
refused472 = refl

refused473 : Refuses (codes "LOGIC") (fields (negsuc 0 ∷ negsuc 0 ∷ []) [] (pos 5 ∷ pos 5 ∷ []) (negsuc 0 ∷ []) [] (pos 5 ∷ []) 0 0 [] (pos 0 ∷ pos 0 ∷ pos 0 ∷ []) [] None) BadParameter (pos 1 ∷ pos 0 ∷ pos 3 ∷ [])
refused473 = refl

refused474 : Refuses (codes "ANDLOG_f") (fields [] [] [] (negsuc 0 ∷ []) [] (pos 5 ∷ []) 2 0 [] (pos 1 ∷ []) [] None) BadParameter (pos 1 ∷ pos 0 ∷ pos 1 ∷ [])
refused474 = refl

refused475 : Refuses (codes "DOLLAR_m") (fields (negsuc 0 ∷ []) [] (pos 5 ∷ []) (negsuc 0 ∷ []) [] (pos 5 ∷ []) 1 0 (pos 0 ∷ []) (pos 1 ∷ []) [] None) BadParameter (pos 1 ∷ pos 0 ∷ pos 1 ∷ [])
refused475 = refl

refused476 : Refuses (codes "SAMPHOLD_m") (fields (negsuc 0 ∷ []) [] (pos 5 ∷ []) (negsuc 0 ∷ []) [] (pos 5 ∷ []) 1 0 [] (pos 1 ∷ []) [] None) BadParameter (pos 1 ∷ pos 0 ∷ pos 1 ∷ [])
refused476 = refl

refused477 : Refuses (codes "REGISTER") (fields (negsuc 0 ∷ []) [] (pos 5 ∷ []) (negsuc 0 ∷ []) [] (pos 5 ∷ []) 1 0 (pos 0 ∷ pos 0 ∷ []) (pos 1 ∷ []) [] None) BadParameter (pos 1 ∷ pos 0 ∷ pos 1 ∷ [])
refused477 = refl

refused478 : Refuses (codes "Modulo_Count") (fields [] [] [] (negsuc 0 ∷ []) [] (pos 5 ∷ []) 1 0 (pos 0 ∷ []) (pos 10 ∷ pos 1 ∷ []) [] None) BadParameter (pos 1 ∷ pos 0 ∷ pos 2 ∷ [])
refused478 = refl

refused479 : Refuses (codes "Modulo_Count") (fields [] [] [] (negsuc 0 ∷ []) [] (pos 5 ∷ []) 1 0 (pos 0 ∷ []) [] [] None) BadParameter (pos 1 ∷ pos 0 ∷ pos 0 ∷ [])
refused479 = refl

refused480 : Refuses (codes "GATED_DELAY") (fields (negsuc 0 ∷ negsuc 0 ∷ []) [] (pos 5 ∷ pos 5 ∷ []) (negsuc 0 ∷ []) [] (pos 5 ∷ []) 1 0 (pos 0 ∷ []) (pos 1 ∷ []) [] None) BadParameter (pos 1 ∷ pos 0 ∷ pos 1 ∷ [])
refused480 = refl

refused481 : Refuses (codes "SENSOR") (fields [] [] [] (negsuc 0 ∷ []) [] (pos 5 ∷ []) 1 0 [] (pos 1 ∷ pos 1 ∷ []) [] None) BadParameter (pos 1 ∷ pos 0 ∷ pos 2 ∷ [])
refused481 = refl

refused482 : Refuses (codes "SENSOR") (fields [] [] [] (negsuc 0 ∷ []) [] (pos 5 ∷ []) 1 0 [] [] [] None) BadParameter (pos 1 ∷ pos 0 ∷ pos 0 ∷ [])
refused482 = refl

refused483 : Refuses (codes "EVTDLY_c") (fields [] [] [] [] [] [] 1 1 [] (pos 5 ∷ pos 1 ∷ []) (pos 0 ∷ []) None) BadParameter (pos 1 ∷ pos 0 ∷ pos 2 ∷ [])
refused483 = refl

refused484 : Refuses (codes "EVTDLY_c") (fields [] [] [] [] [] [] 1 1 [] [] (pos 0 ∷ []) None) BadParameter (pos 1 ∷ pos 0 ∷ pos 0 ∷ [])
refused484 = refl

refused485 : Refuses (codes "EVTVARDLY") (fields (negsuc 0 ∷ []) [] (pos 5 ∷ []) [] [] [] 1 1 [] (pos 1 ∷ []) (negsuc 0 ∷ []) None) BadParameter (pos 1 ∷ pos 0 ∷ pos 1 ∷ [])
refused485 = refl

refused486 : Refuses (codes "IFTHEL_f") (fields (negsuc 0 ∷ []) [] (pos 5 ∷ []) [] [] [] 0 2 [] (pos 1 ∷ []) [] None) BadParameter (pos 1 ∷ pos 0 ∷ pos 1 ∷ [])
refused486 = refl

refused487 : Refuses (codes "ESELECT_f") (fields (negsuc 0 ∷ []) [] (pos 5 ∷ []) [] [] [] 0 3 [] (pos 1 ∷ []) [] None) BadParameter (pos 1 ∷ pos 0 ∷ pos 1 ∷ [])
refused487 = refl

refused488 : Refuses (codes "HALT_f") (fields [] [] [] [] [] [] 1 0 [] (pos 1 ∷ []) [] None) BadParameter (pos 1 ∷ pos 0 ∷ pos 1 ∷ [])
refused488 = refl

refused489 : Refuses (codes "EXTRACTOR") (fields (negsuc 0 ∷ []) [] (pos 5 ∷ []) (negsuc 0 ∷ []) [] (pos 5 ∷ []) 0 0 [] (many 257 (pos 1)) [] None) BadParameter (pos 1 ∷ pos 0 ∷ pos 257 ∷ [])
refused489 = refl

refused490 : Refuses (codes "SUMMATION") (fields (negsuc 0 ∷ negsuc 0 ∷ []) [] (pos 5 ∷ pos 5 ∷ []) (negsuc 0 ∷ []) [] (pos 5 ∷ []) 0 0 [] (negsuc 0 ∷ pos 1 ∷ negsuc 0 ∷ []) [] None) BadParameter (pos 1 ∷ pos 1 ∷ negsuc 0 ∷ [])
refused490 = refl

refused491 : Refuses (codes "SUMMATION") (fields (negsuc 0 ∷ negsuc 0 ∷ []) [] (pos 5 ∷ pos 5 ∷ []) (negsuc 0 ∷ []) [] (pos 5 ∷ []) 0 0 [] (pos 3 ∷ pos 1 ∷ negsuc 0 ∷ []) [] None) BadParameter (pos 1 ∷ pos 1 ∷ pos 3 ∷ [])
refused491 = refl

refused492 : Refuses (codes "SUMMATION") (fields (negsuc 0 ∷ negsuc 0 ∷ []) [] (pos 5 ∷ pos 5 ∷ []) (negsuc 0 ∷ []) [] (pos 5 ∷ []) 0 0 [] (pos 0 ∷ pos 0 ∷ pos 1 ∷ []) [] None) BadParameter (pos 1 ∷ pos 2 ∷ pos 0 ∷ [])
refused492 = refl

refused493 : Refuses (codes "SUMMATION") (fields (negsuc 0 ∷ negsuc 0 ∷ []) [] (pos 5 ∷ pos 5 ∷ []) (negsuc 0 ∷ []) [] (pos 5 ∷ []) 0 0 [] (pos 0 ∷ pos 2 ∷ pos 1 ∷ []) [] None) BadParameter (pos 1 ∷ pos 2 ∷ pos 2 ∷ [])
refused493 = refl

refused494 : Refuses (codes "SUMMATION") (fields (negsuc 0 ∷ negsuc 0 ∷ []) [] (pos 5 ∷ pos 5 ∷ []) (negsuc 0 ∷ []) [] (pos 5 ∷ []) 0 0 [] (pos 0 ∷ negsuc 1 ∷ pos 1 ∷ []) [] None) BadParameter (pos 1 ∷ pos 2 ∷ negsuc 1 ∷ [])
refused494 = refl

refused495 : Refuses (codes "SUMMATION") (fields (negsuc 0 ∷ negsuc 0 ∷ []) [] (pos 5 ∷ pos 5 ∷ []) (negsuc 0 ∷ []) [] (pos 5 ∷ []) 0 0 [] (pos 0 ∷ pos 1 ∷ pos 0 ∷ []) [] None) BadParameter (pos 1 ∷ pos 3 ∷ pos 0 ∷ [])
refused495 = refl

refused496 : Refuses (codes "SUMMATION") (fields (negsuc 0 ∷ negsuc 0 ∷ []) [] (pos 5 ∷ pos 5 ∷ []) (negsuc 0 ∷ []) [] (pos 5 ∷ []) 0 0 [] (pos 0 ∷ pos 1 ∷ pos 2 ∷ []) [] None) BadParameter (pos 1 ∷ pos 3 ∷ pos 2 ∷ [])
refused496 = refl

refused497 : Refuses (codes "SUMMATION") (fields (negsuc 0 ∷ negsuc 0 ∷ []) [] (pos 5 ∷ pos 5 ∷ []) (negsuc 0 ∷ []) [] (pos 5 ∷ []) 0 0 [] (pos 0 ∷ pos 1 ∷ negsuc 1 ∷ []) [] None) BadParameter (pos 1 ∷ pos 3 ∷ negsuc 1 ∷ [])
refused497 = refl

refused498 : Refuses (codes "GAINBLK") (fields (negsuc 0 ∷ []) [] (pos 5 ∷ []) (negsuc 0 ∷ []) [] (pos 5 ∷ []) 0 0 [] (negsuc 0 ∷ pos 3 ∷ []) [] None) BadParameter (pos 1 ∷ pos 1 ∷ negsuc 0 ∷ [])
refused498 = refl

refused499 : Refuses (codes "GAINBLK") (fields (negsuc 0 ∷ []) [] (pos 5 ∷ []) (negsuc 0 ∷ []) [] (pos 5 ∷ []) 0 0 [] (pos 3 ∷ pos 3 ∷ []) [] None) BadParameter (pos 1 ∷ pos 1 ∷ pos 3 ∷ [])
refused499 = refl

refused500 : Refuses (codes "PRODUCT") (fields (negsuc 0 ∷ negsuc 0 ∷ []) [] (pos 5 ∷ pos 5 ∷ []) (negsuc 0 ∷ []) [] (pos 5 ∷ []) 0 0 [] (negsuc 0 ∷ pos 1 ∷ []) [] None) BadParameter (pos 1 ∷ pos 1 ∷ negsuc 0 ∷ [])
refused500 = refl

refused501 : Refuses (codes "PRODUCT") (fields (negsuc 0 ∷ negsuc 0 ∷ []) [] (pos 5 ∷ pos 5 ∷ []) (negsuc 0 ∷ []) [] (pos 5 ∷ []) 0 0 [] (pos 3 ∷ pos 1 ∷ []) [] None) BadParameter (pos 1 ∷ pos 1 ∷ pos 3 ∷ [])
refused501 = refl

refused502 : Refuses (codes "PRODUCT") (fields (negsuc 0 ∷ negsuc 0 ∷ []) [] (pos 5 ∷ pos 5 ∷ []) (negsuc 0 ∷ []) [] (pos 5 ∷ []) 0 0 [] (pos 0 ∷ pos 0 ∷ []) [] None) BadParameter (pos 1 ∷ pos 2 ∷ pos 0 ∷ [])
refused502 = refl

refused503 : Refuses (codes "PRODUCT") (fields (negsuc 0 ∷ negsuc 0 ∷ []) [] (pos 5 ∷ pos 5 ∷ []) (negsuc 0 ∷ []) [] (pos 5 ∷ []) 0 0 [] (pos 0 ∷ pos 2 ∷ []) [] None) BadParameter (pos 1 ∷ pos 2 ∷ pos 2 ∷ [])
refused503 = refl

refused504 : Refuses (codes "PRODUCT") (fields (negsuc 0 ∷ negsuc 0 ∷ []) [] (pos 5 ∷ pos 5 ∷ []) (negsuc 0 ∷ []) [] (pos 5 ∷ []) 0 0 [] (pos 0 ∷ negsuc 1 ∷ []) [] None) BadParameter (pos 1 ∷ pos 2 ∷ negsuc 1 ∷ [])
refused504 = refl

refused505 : Refuses (codes "ABS_VALUE") (fields (negsuc 0 ∷ []) [] (pos 5 ∷ []) (negsuc 0 ∷ []) [] (pos 5 ∷ []) 0 0 [] (negsuc 0 ∷ []) [] None) BadParameter (pos 1 ∷ pos 1 ∷ negsuc 0 ∷ [])
refused505 = refl

refused506 : Refuses (codes "ABS_VALUE") (fields (negsuc 0 ∷ []) [] (pos 5 ∷ []) (negsuc 0 ∷ []) [] (pos 5 ∷ []) 0 0 [] (pos 3 ∷ []) [] None) BadParameter (pos 1 ∷ pos 1 ∷ pos 3 ∷ [])
refused506 = refl

refused507 : Refuses (codes "MAXMIN") (fields (negsuc 0 ∷ negsuc 0 ∷ []) [] (pos 5 ∷ pos 5 ∷ []) (negsuc 0 ∷ []) [] (pos 5 ∷ []) 0 0 [] (pos 0 ∷ []) [] None) BadParameter (pos 1 ∷ pos 1 ∷ pos 0 ∷ [])
refused507 = refl

refused508 : Refuses (codes "MAXMIN") (fields (negsuc 0 ∷ negsuc 0 ∷ []) [] (pos 5 ∷ pos 5 ∷ []) (negsuc 0 ∷ []) [] (pos 5 ∷ []) 0 0 [] (pos 3 ∷ []) [] None) BadParameter (pos 1 ∷ pos 1 ∷ pos 3 ∷ [])
refused508 = refl

refused509 : Refuses (codes "SATURATION") (fields (negsuc 0 ∷ []) [] (pos 5 ∷ []) (negsuc 0 ∷ []) [] (pos 5 ∷ []) 0 0 [] (pos 5 ∷ pos 4 ∷ []) [] None) BadParameter (pos 1 ∷ pos 2 ∷ pos 4 ∷ [])
refused509 = refl

refused510 : Refuses (codes "DEADBAND") (fields (negsuc 0 ∷ []) [] (pos 5 ∷ []) (negsuc 0 ∷ []) [] (pos 5 ∷ []) 0 0 [] (negsuc 0 ∷ negsuc 4 ∷ pos 5 ∷ []) [] None) BadParameter (pos 1 ∷ pos 1 ∷ negsuc 0 ∷ [])
refused510 = refl

refused511 : Refuses (codes "DEADBAND") (fields (negsuc 0 ∷ []) [] (pos 5 ∷ []) (negsuc 0 ∷ []) [] (pos 5 ∷ []) 0 0 [] (pos 3 ∷ negsuc 4 ∷ pos 5 ∷ []) [] None) BadParameter (pos 1 ∷ pos 1 ∷ pos 3 ∷ [])
refused511 = refl

refused512 : Refuses (codes "DEADBAND") (fields (negsuc 0 ∷ []) [] (pos 5 ∷ []) (negsuc 0 ∷ []) [] (pos 5 ∷ []) 0 0 [] (pos 0 ∷ pos 5 ∷ pos 4 ∷ []) [] None) BadParameter (pos 1 ∷ pos 3 ∷ pos 4 ∷ [])
refused512 = refl

refused513 : Refuses (codes "DEADBAND") (fields (negsuc 0 ∷ []) [] (pos 5 ∷ []) (negsuc 0 ∷ []) [] (pos 5 ∷ []) 0 0 [] (pos 3 ∷ pos 5 ∷ pos 4 ∷ []) [] None) BadParameter (pos 1 ∷ pos 1 ∷ pos 3 ∷ [])
refused513 = refl

refused514 : Refuses (codes "CONVERT") (fields (negsuc 0 ∷ []) [] (pos 5 ∷ []) (negsuc 0 ∷ []) [] (pos 5 ∷ []) 0 0 [] (negsuc 0 ∷ []) [] None) BadParameter (pos 1 ∷ pos 1 ∷ negsuc 0 ∷ [])
refused514 = refl

refused515 : Refuses (codes "CONVERT") (fields (negsuc 0 ∷ []) [] (pos 5 ∷ []) (negsuc 0 ∷ []) [] (pos 5 ∷ []) 0 0 [] (pos 3 ∷ []) [] None) BadParameter (pos 1 ∷ pos 1 ∷ pos 3 ∷ [])
refused515 = refl

refused516 : Refuses (codes "EXTRACTOR") (fields (negsuc 0 ∷ []) [] (pos 5 ∷ []) (negsuc 0 ∷ []) [] (pos 5 ∷ []) 0 0 [] (pos 1 ∷ pos 0 ∷ negsuc 0 ∷ []) [] None) BadParameter (pos 1 ∷ pos 2 ∷ pos 0 ∷ [])
refused516 = refl

refused517 : Refuses (codes "EXTRACTOR") (fields (negsuc 0 ∷ []) [] (pos 5 ∷ []) (negsuc 0 ∷ []) [] (pos 5 ∷ []) 0 0 [] (negsuc 2 ∷ []) [] None) BadParameter (pos 1 ∷ pos 1 ∷ negsuc 2 ∷ [])
refused517 = refl

refused518 : Refuses (codes "LOGICAL_OP") (fields (negsuc 0 ∷ negsuc 0 ∷ []) [] (pos 5 ∷ pos 5 ∷ []) (negsuc 0 ∷ []) [] (pos 5 ∷ []) 0 0 [] (negsuc 0 ∷ pos 0 ∷ []) [] None) BadParameter (pos 1 ∷ pos 1 ∷ negsuc 0 ∷ [])
refused518 = refl

refused519 : Refuses (codes "LOGICAL_OP") (fields (negsuc 0 ∷ negsuc 0 ∷ []) [] (pos 5 ∷ pos 5 ∷ []) (negsuc 0 ∷ []) [] (pos 5 ∷ []) 0 0 [] (pos 5 ∷ pos 0 ∷ []) [] None) BadParameter (pos 1 ∷ pos 1 ∷ pos 5 ∷ [])
refused519 = refl

refused520 : Refuses (codes "LOGICAL_OP") (fields (negsuc 0 ∷ negsuc 0 ∷ []) [] (pos 5 ∷ pos 5 ∷ []) (negsuc 0 ∷ []) [] (pos 5 ∷ []) 0 0 [] (pos 6 ∷ pos 2 ∷ []) [] None) BadParameter (pos 1 ∷ pos 1 ∷ pos 6 ∷ [])
refused520 = refl

refused521 : Refuses (codes "LOGICAL_OP") (fields (negsuc 0 ∷ []) [] (pos 5 ∷ []) (negsuc 0 ∷ []) [] (pos 5 ∷ []) 0 0 [] (pos 4 ∷ pos 1 ∷ []) [] None) BadParameter (pos 1 ∷ pos 1 ∷ pos 4 ∷ [])
refused521 = refl

refused522 : Refuses (codes "LOGICAL_OP") (fields (negsuc 0 ∷ []) [] (pos 5 ∷ []) (negsuc 0 ∷ []) [] (pos 5 ∷ []) 0 0 [] (pos 6 ∷ pos 1 ∷ []) [] None) BadParameter (pos 1 ∷ pos 1 ∷ pos 6 ∷ [])
refused522 = refl

refused523 : Refuses (codes "LOGICAL_OP") (fields (negsuc 0 ∷ negsuc 0 ∷ []) [] (pos 5 ∷ pos 5 ∷ []) (negsuc 0 ∷ []) [] (pos 5 ∷ []) 0 0 [] (pos 4 ∷ negsuc 0 ∷ []) [] None) BadParameter (pos 1 ∷ pos 2 ∷ negsuc 0 ∷ [])
refused523 = refl

refused524 : Refuses (codes "LOGICAL_OP") (fields (negsuc 0 ∷ negsuc 0 ∷ []) [] (pos 5 ∷ pos 5 ∷ []) (negsuc 0 ∷ []) [] (pos 5 ∷ []) 0 0 [] (pos 4 ∷ pos 2 ∷ []) [] None) BadParameter (pos 1 ∷ pos 2 ∷ pos 2 ∷ [])
refused524 = refl

refused525 : Refuses (codes "RELATIONALOP") (fields (negsuc 0 ∷ negsuc 0 ∷ []) [] (pos 5 ∷ pos 5 ∷ []) (negsuc 0 ∷ []) [] (pos 5 ∷ []) 0 0 [] (negsuc 0 ∷ []) [] None) BadParameter (pos 1 ∷ pos 1 ∷ negsuc 0 ∷ [])
refused525 = refl

refused526 : Refuses (codes "RELATIONALOP") (fields (negsuc 0 ∷ negsuc 0 ∷ []) [] (pos 5 ∷ pos 5 ∷ []) (negsuc 0 ∷ []) [] (pos 5 ∷ []) 0 0 [] (pos 6 ∷ []) [] None) BadParameter (pos 1 ∷ pos 1 ∷ pos 6 ∷ [])
refused526 = refl

refused527 : Refuses (codes "SHIFT") (fields (negsuc 0 ∷ []) [] (pos 5 ∷ []) (negsuc 0 ∷ []) [] (pos 5 ∷ []) 0 0 [] (negsuc 31 ∷ pos 0 ∷ []) [] None) BadParameter (pos 1 ∷ pos 1 ∷ negsuc 31 ∷ [])
refused527 = refl

refused528 : Refuses (codes "SHIFT") (fields (negsuc 0 ∷ []) [] (pos 5 ∷ []) (negsuc 0 ∷ []) [] (pos 5 ∷ []) 0 0 [] (pos 32 ∷ pos 0 ∷ []) [] None) BadParameter (pos 1 ∷ pos 1 ∷ pos 32 ∷ [])
refused528 = refl

refused529 : Refuses (codes "SHIFT") (fields (negsuc 0 ∷ []) [] (pos 5 ∷ []) (negsuc 0 ∷ []) [] (pos 5 ∷ []) 0 0 [] (negsuc 30 ∷ negsuc 0 ∷ []) [] None) BadParameter (pos 1 ∷ pos 2 ∷ negsuc 0 ∷ [])
refused529 = refl

refused530 : Refuses (codes "SHIFT") (fields (negsuc 0 ∷ []) [] (pos 5 ∷ []) (negsuc 0 ∷ []) [] (pos 5 ∷ []) 0 0 [] (negsuc 30 ∷ pos 2 ∷ []) [] None) BadParameter (pos 1 ∷ pos 2 ∷ pos 2 ∷ [])
refused530 = refl

refused531 : Refuses (codes "BITSET") (fields (negsuc 0 ∷ []) [] (pos 5 ∷ []) (negsuc 0 ∷ []) [] (pos 5 ∷ []) 0 0 [] (negsuc 0 ∷ []) [] None) BadParameter (pos 1 ∷ pos 1 ∷ negsuc 0 ∷ [])
refused531 = refl

refused532 : Refuses (codes "BITSET") (fields (negsuc 0 ∷ []) [] (pos 5 ∷ []) (negsuc 0 ∷ []) [] (pos 5 ∷ []) 0 0 [] (pos 32 ∷ []) [] None) BadParameter (pos 1 ∷ pos 1 ∷ pos 32 ∷ [])
refused532 = refl

refused533 : Refuses (codes "BITCLEAR") (fields (negsuc 0 ∷ []) [] (pos 5 ∷ []) (negsuc 0 ∷ []) [] (pos 5 ∷ []) 0 0 [] (negsuc 0 ∷ []) [] None) BadParameter (pos 1 ∷ pos 1 ∷ negsuc 0 ∷ [])
refused533 = refl

refused534 : Refuses (codes "BITCLEAR") (fields (negsuc 0 ∷ []) [] (pos 5 ∷ []) (negsuc 0 ∷ []) [] (pos 5 ∷ []) 0 0 [] (pos 32 ∷ []) [] None) BadParameter (pos 1 ∷ pos 1 ∷ pos 32 ∷ [])
refused534 = refl

refused535 : Refuses (codes "EXTRACTBITS") (fields (negsuc 0 ∷ []) [] (pos 5 ∷ []) (negsuc 0 ∷ []) [] (pos 5 ∷ []) 0 0 [] (negsuc 0 ∷ pos 0 ∷ []) [] None) BadParameter (pos 1 ∷ pos 1 ∷ negsuc 0 ∷ [])
refused535 = refl

refused536 : Refuses (codes "EXTRACTBITS") (fields (negsuc 0 ∷ []) [] (pos 5 ∷ []) (negsuc 0 ∷ []) [] (pos 5 ∷ []) 0 0 [] (pos 32 ∷ pos 32 ∷ []) [] None) BadParameter (pos 1 ∷ pos 1 ∷ pos 32 ∷ [])
refused536 = refl

refused537 : Refuses (codes "EXTRACTBITS") (fields (negsuc 0 ∷ []) [] (pos 5 ∷ []) (negsuc 0 ∷ []) [] (pos 5 ∷ []) 0 0 [] (pos 31 ∷ pos 32 ∷ []) [] None) BadParameter (pos 1 ∷ pos 2 ∷ pos 32 ∷ [])
refused537 = refl

refused538 : Refuses (codes "EXTRACTBITS") (fields (negsuc 0 ∷ []) [] (pos 5 ∷ []) (negsuc 0 ∷ []) [] (pos 5 ∷ []) 0 0 [] (pos 4 ∷ pos 3 ∷ []) [] None) BadParameter (pos 1 ∷ pos 2 ∷ pos 3 ∷ [])
refused538 = refl

refused539 : Refuses (codes "SWITCH2_m") (fields (negsuc 0 ∷ negsuc 0 ∷ negsuc 0 ∷ []) [] (pos 5 ∷ pos 5 ∷ pos 5 ∷ []) (negsuc 0 ∷ []) [] (pos 5 ∷ []) 0 0 [] (negsuc 0 ∷ pos 0 ∷ []) [] None) BadParameter (pos 1 ∷ pos 1 ∷ negsuc 0 ∷ [])
refused539 = refl

refused540 : Refuses (codes "SWITCH2_m") (fields (negsuc 0 ∷ negsuc 0 ∷ negsuc 0 ∷ []) [] (pos 5 ∷ pos 5 ∷ pos 5 ∷ []) (negsuc 0 ∷ []) [] (pos 5 ∷ []) 0 0 [] (pos 3 ∷ pos 0 ∷ []) [] None) BadParameter (pos 1 ∷ pos 1 ∷ pos 3 ∷ [])
refused540 = refl

refused541 : Refuses (codes "SWITCH2_m") (fields (negsuc 0 ∷ negsuc 0 ∷ negsuc 0 ∷ []) [] (pos 5 ∷ pos 5 ∷ pos 5 ∷ []) (negsuc 0 ∷ []) [] (pos 5 ∷ []) 0 0 [] (pos 0 ∷ negsuc 2147483648 ∷ []) [] None) BadParameter (pos 1 ∷ pos 2 ∷ negsuc 2147483648 ∷ [])
refused541 = refl

refused542 : Refuses (codes "SWITCH2_m") (fields (negsuc 0 ∷ negsuc 0 ∷ negsuc 0 ∷ []) [] (pos 5 ∷ pos 5 ∷ pos 5 ∷ []) (negsuc 0 ∷ []) [] (pos 5 ∷ []) 0 0 [] (pos 0 ∷ pos 4294967296 ∷ []) [] None) BadParameter (pos 1 ∷ pos 2 ∷ pos 4294967296 ∷ [])
refused542 = refl

refused543 : Refuses (codes "LOGIC") (fields (negsuc 0 ∷ negsuc 0 ∷ []) [] (pos 5 ∷ pos 5 ∷ []) (negsuc 0 ∷ []) [] (pos 5 ∷ []) 0 0 [] (pos 0 ∷ pos 1 ∷ pos 2 ∷ negsuc 0 ∷ []) [] None) BadParameter (pos 1 ∷ pos 3 ∷ pos 2 ∷ [])
refused543 = refl

refused544 : Refuses (codes "LOGIC") (fields (negsuc 0 ∷ negsuc 0 ∷ []) [] (pos 5 ∷ pos 5 ∷ []) (negsuc 0 ∷ []) [] (pos 5 ∷ []) 0 0 [] (negsuc 0 ∷ pos 1 ∷ pos 2 ∷ pos 1 ∷ []) [] None) BadParameter (pos 1 ∷ pos 1 ∷ negsuc 0 ∷ [])
refused544 = refl

refused545 : Refuses (codes "LOGIC") (fields (negsuc 0 ∷ negsuc 0 ∷ []) [] (pos 5 ∷ pos 5 ∷ []) (negsuc 0 ∷ negsuc 0 ∷ []) [] (pos 5 ∷ pos 5 ∷ []) 0 0 [] (pos 0 ∷ pos 0 ∷ pos 0 ∷ pos 1 ∷ []) [] None) BadParameter (pos 1 ∷ pos 0 ∷ pos 4 ∷ [])
refused545 = refl

refused546 : Refuses (codes "Modulo_Count") (fields [] [] [] (negsuc 0 ∷ []) [] (pos 5 ∷ []) 1 0 (pos 0 ∷ []) (pos 0 ∷ []) [] None) BadParameter (pos 1 ∷ pos 1 ∷ pos 0 ∷ [])
refused546 = refl

refused547 : Refuses (codes "Modulo_Count") (fields [] [] [] (negsuc 0 ∷ []) [] (pos 5 ∷ []) 1 0 (pos 0 ∷ []) (pos 2147483648 ∷ []) [] None) BadParameter (pos 1 ∷ pos 1 ∷ pos 2147483648 ∷ [])
refused547 = refl

refused548 : Refuses (codes "SENSOR") (fields [] [] [] (negsuc 0 ∷ []) [] (pos 5 ∷ []) 1 0 [] (pos 0 ∷ []) [] None) BadParameter (pos 1 ∷ pos 1 ∷ pos 0 ∷ [])
refused548 = refl

refused549 : Refuses (codes "SENSOR") (fields [] [] [] (negsuc 0 ∷ []) [] (pos 5 ∷ []) 1 0 [] (pos 256 ∷ []) [] None) BadParameter (pos 1 ∷ pos 1 ∷ pos 256 ∷ [])
refused549 = refl

refused550 : Refuses (codes "EVTDLY_c") (fields [] [] [] [] [] [] 1 1 [] (negsuc 1 ∷ []) (pos 0 ∷ []) None) BadParameter (pos 1 ∷ pos 1 ∷ negsuc 1 ∷ [])
refused550 = refl

refused551 : Refuses (codes "EVTDLY_c") (fields [] [] [] [] [] [] 1 1 [] (pos 2147483648 ∷ []) (pos 0 ∷ []) None) BadParameter (pos 1 ∷ pos 1 ∷ pos 2147483648 ∷ [])
refused551 = refl

refused552 : Refuses (codes "DOLLAR_m") (fields (negsuc 0 ∷ []) [] (pos 5 ∷ []) (negsuc 0 ∷ []) [] (pos 5 ∷ []) 1 0 [] [] [] None) BadParameter (pos 2 ∷ pos 0 ∷ pos 0 ∷ [])
refused552 = refl

refused553 : Refuses (codes "GATED_DELAY") (fields (negsuc 0 ∷ negsuc 0 ∷ []) [] (pos 5 ∷ pos 5 ∷ []) (negsuc 0 ∷ []) [] (pos 5 ∷ []) 1 0 [] [] [] None) BadParameter (pos 2 ∷ pos 0 ∷ pos 0 ∷ [])
refused553 = refl

refused554 : Refuses (codes "REGISTER") (fields (negsuc 0 ∷ []) [] (pos 5 ∷ []) (negsuc 0 ∷ []) [] (pos 5 ∷ []) 1 0 [] [] [] None) BadParameter (pos 2 ∷ pos 0 ∷ pos 0 ∷ [])
refused554 = refl

refused555 : Refuses (codes "Modulo_Count") (fields [] [] [] (negsuc 0 ∷ []) [] (pos 5 ∷ []) 1 0 [] (pos 10 ∷ []) [] None) BadParameter (pos 2 ∷ pos 0 ∷ pos 0 ∷ [])
refused555 = refl

refused556 : Refuses (codes "REGISTER") (fields (negsuc 0 ∷ []) [] (pos 5 ∷ []) (negsuc 0 ∷ []) [] (pos 5 ∷ []) 1 0 (many 257 (pos 1)) [] [] None) BadParameter (pos 2 ∷ pos 0 ∷ pos 257 ∷ [])
refused556 = refl

refused557 : Refuses (codes "Modulo_Count") (fields [] [] [] (negsuc 0 ∷ []) [] (pos 5 ∷ []) 1 0 (pos 0 ∷ pos 0 ∷ []) (pos 10 ∷ []) [] None) BadParameter (pos 2 ∷ pos 0 ∷ pos 2 ∷ [])
refused557 = refl

refused558 : Refuses (codes "Modulo_Count") (fields [] [] [] (negsuc 0 ∷ []) [] (pos 5 ∷ []) 1 0 (negsuc 0 ∷ []) (pos 10 ∷ []) [] None) BadParameter (pos 2 ∷ pos 1 ∷ negsuc 0 ∷ [])
refused558 = refl

refused559 : Refuses (codes "Modulo_Count") (fields [] [] [] (negsuc 0 ∷ []) [] (pos 5 ∷ []) 1 0 (pos 10 ∷ []) (pos 10 ∷ []) [] None) BadParameter (pos 2 ∷ pos 1 ∷ pos 10 ∷ [])
refused559 = refl

refused560 : Refuses (codes "EVTDLY_c") (fields [] [] [] [] [] [] 1 1 [] (pos 5 ∷ []) (pos 2147483648 ∷ []) None) BadParameter (pos 3 ∷ pos 1 ∷ pos 2147483648 ∷ [])
refused560 = refl

refused561 : Refuses (codes "EVTVARDLY") (fields (negsuc 0 ∷ []) [] (pos 5 ∷ []) [] [] [] 1 1 [] [] (pos 2147483648 ∷ []) None) BadParameter (pos 3 ∷ pos 1 ∷ pos 2147483648 ∷ [])
refused561 = refl

refused562 : Refuses (codes "SUMMATION") (fields (negsuc 0 ∷ negsuc 0 ∷ []) [] (pos 5 ∷ pos 9 ∷ []) (pos 1 ∷ pos 1 ∷ []) [] (pos 0 ∷ pos 0 ∷ []) 0 0 [] (pos 3 ∷ pos 0 ∷ pos 2 ∷ []) [] (all false true)) PortShape (pos 2 ∷ pos 2 ∷ [])
refused562 = refl

refused563 : Refuses (codes "SUMMATION") (fields (negsuc 0 ∷ negsuc 0 ∷ []) [] (pos 5 ∷ pos 9 ∷ []) (negsuc 0 ∷ []) [] (pos 0 ∷ []) 0 0 [] (pos 3 ∷ pos 0 ∷ pos 2 ∷ []) [] (all false true)) NotInteger (pos 1 ∷ pos 2 ∷ pos 9 ∷ [])
refused563 = refl

refused564 : Refuses (codes "SUMMATION") (fields (negsuc 0 ∷ negsuc 0 ∷ []) [] (pos 5 ∷ pos 5 ∷ []) (negsuc 0 ∷ []) [] (pos 0 ∷ []) 0 0 [] (pos 3 ∷ pos 0 ∷ pos 2 ∷ []) [] (all false true)) NotInteger (pos 2 ∷ pos 1 ∷ pos 0 ∷ [])
refused564 = refl

refused565 : Refuses (codes "SUMMATION") (fields (negsuc 0 ∷ negsuc 0 ∷ []) [] (pos 5 ∷ pos 5 ∷ []) (negsuc 0 ∷ []) [] (pos 5 ∷ []) 0 0 [] (pos 3 ∷ pos 0 ∷ pos 2 ∷ []) [] (all false true)) AlwaysActive []
refused565 = refl

refused566 : Refuses (codes "SUMMATION") (fields (negsuc 0 ∷ negsuc 0 ∷ []) [] (pos 5 ∷ pos 5 ∷ []) (negsuc 0 ∷ []) [] (pos 5 ∷ []) 0 0 [] (pos 3 ∷ pos 0 ∷ pos 2 ∷ []) [] (all false false)) BadParameter (pos 1 ∷ pos 1 ∷ pos 3 ∷ [])
refused566 = refl

refused567 : Refuses (codes "SUMMATION") (fields (negsuc 0 ∷ negsuc 0 ∷ []) [] (pos 5 ∷ pos 5 ∷ []) (negsuc 0 ∷ []) [] (pos 5 ∷ []) 0 0 [] (pos 2 ∷ pos 0 ∷ pos 2 ∷ []) [] (all false false)) BadParameter (pos 1 ∷ pos 2 ∷ pos 0 ∷ [])
refused567 = refl

refused568 : Refuses (codes "SUMMATION") (fields (negsuc 0 ∷ negsuc 0 ∷ []) [] (pos 5 ∷ pos 5 ∷ []) (negsuc 0 ∷ []) [] (pos 5 ∷ []) 0 0 [] (pos 2 ∷ negsuc 0 ∷ pos 2 ∷ []) [] (all false false)) BadParameter (pos 1 ∷ pos 3 ∷ pos 2 ∷ [])
refused568 = refl

refused569 : Refuses (codes "SUMMATION") (fields (negsuc 0 ∷ negsuc 0 ∷ []) [] (pos 5 ∷ pos 5 ∷ []) (negsuc 0 ∷ []) [] (pos 5 ∷ []) 0 0 [] (pos 2 ∷ negsuc 0 ∷ pos 1 ∷ []) [] (all false false)) BadParameter (pos 4 ∷ pos 1 ∷ pos 0 ∷ [])
refused569 = refl

refused570 : Refuses (codes "Modulo_Count") (fields [] [] [] (negsuc 0 ∷ []) [] (pos 5 ∷ []) 1 0 [] (pos 0 ∷ pos 0 ∷ []) [] None) BadParameter (pos 1 ∷ pos 0 ∷ pos 2 ∷ [])
refused570 = refl

refused571 : Refuses (codes "Modulo_Count") (fields [] [] [] (negsuc 0 ∷ []) [] (pos 5 ∷ []) 1 0 [] (pos 0 ∷ []) [] None) BadParameter (pos 1 ∷ pos 1 ∷ pos 0 ∷ [])
refused571 = refl

refused572 : Refuses (codes "Modulo_Count") (fields [] [] [] (negsuc 0 ∷ []) [] (pos 5 ∷ []) 1 0 [] (pos 1 ∷ []) [] None) BadParameter (pos 2 ∷ pos 0 ∷ pos 0 ∷ [])
refused572 = refl

refused573 : Refuses (codes "Modulo_Count") (fields [] [] [] (negsuc 0 ∷ []) [] (pos 5 ∷ []) 1 0 (pos 1 ∷ []) (pos 1 ∷ []) [] None) BadParameter (pos 2 ∷ pos 1 ∷ pos 1 ∷ [])
refused573 = refl

refused574 : Refuses (codes "GATED_DELAY") (fields (negsuc 0 ∷ negsuc 0 ∷ []) [] (pos 5 ∷ pos 5 ∷ []) (negsuc 0 ∷ []) [] (pos 5 ∷ []) 1 0 [] (pos 0 ∷ []) [] (all false false)) BadParameter (pos 1 ∷ pos 0 ∷ pos 1 ∷ [])
refused574 = refl

refused575 : Refuses (codes "GATED_DELAY") (fields (negsuc 0 ∷ negsuc 0 ∷ []) [] (pos 5 ∷ pos 5 ∷ []) (negsuc 0 ∷ []) [] (pos 5 ∷ []) 1 0 [] [] [] (all false false)) BadParameter (pos 2 ∷ pos 0 ∷ pos 0 ∷ [])
refused575 = refl

refused576 : Refuses (codes "GATED_DELAY") (fields (negsuc 0 ∷ negsuc 0 ∷ []) [] (pos 5 ∷ pos 5 ∷ []) (negsuc 0 ∷ []) [] (pos 5 ∷ []) 1 0 (pos 0 ∷ []) [] [] (all false false)) BadParameter (pos 4 ∷ pos 1 ∷ pos 0 ∷ [])
refused576 = refl

refused577 : Refuses (codes "GATED_DELAY") (fields (negsuc 0 ∷ negsuc 0 ∷ []) [] (pos 5 ∷ pos 5 ∷ []) (negsuc 0 ∷ []) [] (pos 5 ∷ []) 1 0 [] [] [] (each (true ∷ []) false)) BadParameter (pos 2 ∷ pos 0 ∷ pos 0 ∷ [])
refused577 = refl

refused578 : Refuses (codes "EVTDLY_c") (fields [] [] [] [] [] [] 1 1 [] (pos 5 ∷ []) (pos 2147483648 ∷ []) (each (false ∷ []) false)) BadParameter (pos 3 ∷ pos 1 ∷ pos 2147483648 ∷ [])
refused578 = refl

refused579 : Refuses (codes "EVTDLY_c") (fields [] [] [] [] [] [] 1 1 [] (pos 5 ∷ []) (pos 0 ∷ []) (each (false ∷ []) false)) BadParameter (pos 4 ∷ pos 0 ∷ pos 1 ∷ [])
refused579 = refl

refused580 : Refuses (codes "EVTVARDLY") (fields (negsuc 0 ∷ []) [] (pos 5 ∷ []) [] [] [] 1 1 [] [] (negsuc 0 ∷ []) (each (true ∷ true ∷ []) false)) BadParameter (pos 4 ∷ pos 0 ∷ pos 2 ∷ [])
refused580 = refl

refused581 : Refuses (codes "EVTDLY_c") (fields [] [] [] [] [] [] 1 1 [] (negsuc 1 ∷ []) (pos 2147483648 ∷ []) None) BadParameter (pos 1 ∷ pos 1 ∷ negsuc 1 ∷ [])
refused581 = refl

refused582 : Refuses (codes "EVTDLY_c") (fields [] [] [] [] [] [] 1 1 [] (negsuc 0 ∷ []) (pos 2147483648 ∷ []) None) BadParameter (pos 3 ∷ pos 1 ∷ pos 2147483648 ∷ [])
refused582 = refl

passes1 : Passes (codes "CONST_m") (fields [] [] [] (negsuc 0 ∷ []) [] (pos 5 ∷ []) 0 0 [] (pos 7 ∷ []) [] None) (block Const (pos 7 ∷ []) [] [] [] ((port (negsuc 0) (pos 1) (pos 5)) ∷ []) 0 0 [])
passes1 = refl

passes2 : Passes (codes "CONST_m") (fields [] [] [] (negsuc 0 ∷ []) [] (pos 5 ∷ []) 0 0 [] (pos 7 ∷ []) [] None) (block Const (pos 7 ∷ []) [] [] [] ((port (negsuc 0) (pos 1) (pos 5)) ∷ []) 0 0 [])
passes2 = refl

passes3 : Passes (codes "SUMMATION") (fields (negsuc 0 ∷ negsuc 0 ∷ []) [] (pos 5 ∷ pos 5 ∷ []) (negsuc 0 ∷ []) [] (pos 5 ∷ []) 0 0 [] (pos 0 ∷ pos 1 ∷ negsuc 0 ∷ []) [] None) (block Summation (pos 0 ∷ pos 1 ∷ negsuc 0 ∷ []) [] [] ((port (negsuc 0) (pos 1) (pos 5)) ∷ (port (negsuc 0) (pos 1) (pos 5)) ∷ []) ((port (negsuc 0) (pos 1) (pos 5)) ∷ []) 0 0 (true ∷ true ∷ []))
passes3 = refl

passes4 : Passes (codes "SUMMATION") (fields (negsuc 0 ∷ negsuc 0 ∷ []) [] (pos 5 ∷ pos 5 ∷ []) (negsuc 0 ∷ []) [] (pos 5 ∷ []) 1 0 [] (pos 0 ∷ pos 1 ∷ negsuc 0 ∷ []) [] None) (block Summation (pos 0 ∷ pos 1 ∷ negsuc 0 ∷ []) [] [] ((port (negsuc 0) (pos 1) (pos 5)) ∷ (port (negsuc 0) (pos 1) (pos 5)) ∷ []) ((port (negsuc 0) (pos 1) (pos 5)) ∷ []) 1 0 (true ∷ true ∷ []))
passes4 = refl

passes5 : Passes (codes "SUMMATION") (fields (negsuc 0 ∷ negsuc 0 ∷ []) [] (pos 5 ∷ pos 5 ∷ []) (negsuc 0 ∷ []) [] (pos 5 ∷ []) 0 0 [] (pos 0 ∷ pos 1 ∷ negsuc 0 ∷ []) [] None) (block Summation (pos 0 ∷ pos 1 ∷ negsuc 0 ∷ []) [] [] ((port (negsuc 0) (pos 1) (pos 5)) ∷ (port (negsuc 0) (pos 1) (pos 5)) ∷ []) ((port (negsuc 0) (pos 1) (pos 5)) ∷ []) 0 0 (true ∷ true ∷ []))
passes5 = refl

passes6 : Passes (codes "GAINBLK") (fields (negsuc 0 ∷ []) [] (pos 5 ∷ []) (negsuc 0 ∷ []) [] (pos 5 ∷ []) 0 0 [] (pos 0 ∷ pos 3 ∷ []) [] None) (block GainBlk (pos 0 ∷ pos 3 ∷ []) [] [] ((port (negsuc 0) (pos 1) (pos 5)) ∷ []) ((port (negsuc 0) (pos 1) (pos 5)) ∷ []) 0 0 (true ∷ []))
passes6 = refl

passes7 : Passes (codes "GAINBLK") (fields (negsuc 0 ∷ []) [] (pos 5 ∷ []) (negsuc 0 ∷ []) [] (pos 5 ∷ []) 1 0 [] (pos 0 ∷ pos 3 ∷ []) [] None) (block GainBlk (pos 0 ∷ pos 3 ∷ []) [] [] ((port (negsuc 0) (pos 1) (pos 5)) ∷ []) ((port (negsuc 0) (pos 1) (pos 5)) ∷ []) 1 0 (true ∷ []))
passes7 = refl

passes8 : Passes (codes "GAINBLK") (fields (negsuc 0 ∷ []) [] (pos 5 ∷ []) (negsuc 0 ∷ []) [] (pos 5 ∷ []) 0 0 [] (pos 0 ∷ pos 3 ∷ []) [] None) (block GainBlk (pos 0 ∷ pos 3 ∷ []) [] [] ((port (negsuc 0) (pos 1) (pos 5)) ∷ []) ((port (negsuc 0) (pos 1) (pos 5)) ∷ []) 0 0 (true ∷ []))
passes8 = refl

passes9 : Passes (codes "PRODUCT") (fields (negsuc 0 ∷ negsuc 0 ∷ []) [] (pos 5 ∷ pos 5 ∷ []) (negsuc 0 ∷ []) [] (pos 5 ∷ []) 0 0 [] (pos 0 ∷ pos 1 ∷ []) [] None) (block Product (pos 0 ∷ pos 1 ∷ []) [] [] ((port (negsuc 0) (pos 1) (pos 5)) ∷ (port (negsuc 0) (pos 1) (pos 5)) ∷ []) ((port (negsuc 0) (pos 1) (pos 5)) ∷ []) 0 0 (true ∷ true ∷ []))
passes9 = refl

passes10 : Passes (codes "PRODUCT") (fields (negsuc 0 ∷ negsuc 0 ∷ []) [] (pos 5 ∷ pos 5 ∷ []) (negsuc 0 ∷ []) [] (pos 5 ∷ []) 1 0 [] (pos 0 ∷ pos 1 ∷ []) [] None) (block Product (pos 0 ∷ pos 1 ∷ []) [] [] ((port (negsuc 0) (pos 1) (pos 5)) ∷ (port (negsuc 0) (pos 1) (pos 5)) ∷ []) ((port (negsuc 0) (pos 1) (pos 5)) ∷ []) 1 0 (true ∷ true ∷ []))
passes10 = refl

passes11 : Passes (codes "PRODUCT") (fields (negsuc 0 ∷ negsuc 0 ∷ []) [] (pos 5 ∷ pos 5 ∷ []) (negsuc 0 ∷ []) [] (pos 5 ∷ []) 0 0 [] (pos 0 ∷ pos 1 ∷ []) [] None) (block Product (pos 0 ∷ pos 1 ∷ []) [] [] ((port (negsuc 0) (pos 1) (pos 5)) ∷ (port (negsuc 0) (pos 1) (pos 5)) ∷ []) ((port (negsuc 0) (pos 1) (pos 5)) ∷ []) 0 0 (true ∷ true ∷ []))
passes11 = refl

passes12 : Passes (codes "ABS_VALUE") (fields (negsuc 0 ∷ []) [] (pos 5 ∷ []) (negsuc 0 ∷ []) [] (pos 5 ∷ []) 0 0 [] (pos 0 ∷ []) [] None) (block AbsValue (pos 0 ∷ []) [] [] ((port (negsuc 0) (pos 1) (pos 5)) ∷ []) ((port (negsuc 0) (pos 1) (pos 5)) ∷ []) 0 0 (true ∷ []))
passes12 = refl

passes13 : Passes (codes "ABS_VALUE") (fields (negsuc 0 ∷ []) [] (pos 5 ∷ []) (negsuc 0 ∷ []) [] (pos 5 ∷ []) 1 0 [] (pos 0 ∷ []) [] None) (block AbsValue (pos 0 ∷ []) [] [] ((port (negsuc 0) (pos 1) (pos 5)) ∷ []) ((port (negsuc 0) (pos 1) (pos 5)) ∷ []) 1 0 (true ∷ []))
passes13 = refl

passes14 : Passes (codes "ABS_VALUE") (fields (negsuc 0 ∷ []) [] (pos 5 ∷ []) (negsuc 0 ∷ []) [] (pos 5 ∷ []) 0 0 [] (pos 0 ∷ []) [] None) (block AbsValue (pos 0 ∷ []) [] [] ((port (negsuc 0) (pos 1) (pos 5)) ∷ []) ((port (negsuc 0) (pos 1) (pos 5)) ∷ []) 0 0 (true ∷ []))
passes14 = refl

passes15 : Passes (codes "SIGNUM") (fields (negsuc 0 ∷ []) [] (pos 5 ∷ []) (negsuc 0 ∷ []) [] (pos 5 ∷ []) 0 0 [] [] [] None) (block Signum [] [] [] ((port (negsuc 0) (pos 1) (pos 5)) ∷ []) ((port (negsuc 0) (pos 1) (pos 5)) ∷ []) 0 0 (true ∷ []))
passes15 = refl

passes16 : Passes (codes "SIGNUM") (fields (negsuc 0 ∷ []) [] (pos 5 ∷ []) (negsuc 0 ∷ []) [] (pos 5 ∷ []) 1 0 [] [] [] None) (block Signum [] [] [] ((port (negsuc 0) (pos 1) (pos 5)) ∷ []) ((port (negsuc 0) (pos 1) (pos 5)) ∷ []) 1 0 (true ∷ []))
passes16 = refl

passes17 : Passes (codes "SIGNUM") (fields (negsuc 0 ∷ []) [] (pos 5 ∷ []) (negsuc 0 ∷ []) [] (pos 5 ∷ []) 0 0 [] [] [] None) (block Signum [] [] [] ((port (negsuc 0) (pos 1) (pos 5)) ∷ []) ((port (negsuc 0) (pos 1) (pos 5)) ∷ []) 0 0 (true ∷ []))
passes17 = refl

passes18 : Passes (codes "MAXMIN") (fields (negsuc 0 ∷ negsuc 0 ∷ []) [] (pos 5 ∷ pos 5 ∷ []) (negsuc 0 ∷ []) [] (pos 5 ∷ []) 0 0 [] (pos 1 ∷ []) [] None) (block MaxMin (pos 1 ∷ []) [] [] ((port (negsuc 0) (pos 1) (pos 5)) ∷ (port (negsuc 0) (pos 1) (pos 5)) ∷ []) ((port (negsuc 0) (pos 1) (pos 5)) ∷ []) 0 0 (true ∷ true ∷ []))
passes18 = refl

passes19 : Passes (codes "MAXMIN") (fields (negsuc 0 ∷ negsuc 0 ∷ []) [] (pos 5 ∷ pos 5 ∷ []) (negsuc 0 ∷ []) [] (pos 5 ∷ []) 1 0 [] (pos 1 ∷ []) [] None) (block MaxMin (pos 1 ∷ []) [] [] ((port (negsuc 0) (pos 1) (pos 5)) ∷ (port (negsuc 0) (pos 1) (pos 5)) ∷ []) ((port (negsuc 0) (pos 1) (pos 5)) ∷ []) 1 0 (true ∷ true ∷ []))
passes19 = refl

passes20 : Passes (codes "MAXMIN") (fields (negsuc 0 ∷ negsuc 0 ∷ []) [] (pos 5 ∷ pos 5 ∷ []) (negsuc 0 ∷ []) [] (pos 5 ∷ []) 0 0 [] (pos 1 ∷ []) [] None) (block MaxMin (pos 1 ∷ []) [] [] ((port (negsuc 0) (pos 1) (pos 5)) ∷ (port (negsuc 0) (pos 1) (pos 5)) ∷ []) ((port (negsuc 0) (pos 1) (pos 5)) ∷ []) 0 0 (true ∷ true ∷ []))
passes20 = refl

passes21 : Passes (codes "SATURATION") (fields (negsuc 0 ∷ []) [] (pos 5 ∷ []) (negsuc 0 ∷ []) [] (pos 5 ∷ []) 0 0 [] (negsuc 4 ∷ pos 5 ∷ []) [] None) (block Saturation (negsuc 4 ∷ pos 5 ∷ []) [] [] ((port (negsuc 0) (pos 1) (pos 5)) ∷ []) ((port (negsuc 0) (pos 1) (pos 5)) ∷ []) 0 0 (true ∷ []))
passes21 = refl

passes22 : Passes (codes "SATURATION") (fields (negsuc 0 ∷ []) [] (pos 5 ∷ []) (negsuc 0 ∷ []) [] (pos 5 ∷ []) 1 0 [] (negsuc 4 ∷ pos 5 ∷ []) [] None) (block Saturation (negsuc 4 ∷ pos 5 ∷ []) [] [] ((port (negsuc 0) (pos 1) (pos 5)) ∷ []) ((port (negsuc 0) (pos 1) (pos 5)) ∷ []) 1 0 (true ∷ []))
passes22 = refl

passes23 : Passes (codes "SATURATION") (fields (negsuc 0 ∷ []) [] (pos 5 ∷ []) (negsuc 0 ∷ []) [] (pos 5 ∷ []) 0 0 [] (negsuc 4 ∷ pos 5 ∷ []) [] None) (block Saturation (negsuc 4 ∷ pos 5 ∷ []) [] [] ((port (negsuc 0) (pos 1) (pos 5)) ∷ []) ((port (negsuc 0) (pos 1) (pos 5)) ∷ []) 0 0 (true ∷ []))
passes23 = refl

passes24 : Passes (codes "DEADBAND") (fields (negsuc 0 ∷ []) [] (pos 5 ∷ []) (negsuc 0 ∷ []) [] (pos 5 ∷ []) 0 0 [] (pos 0 ∷ negsuc 4 ∷ pos 5 ∷ []) [] None) (block DeadBand (pos 0 ∷ negsuc 4 ∷ pos 5 ∷ []) [] [] ((port (negsuc 0) (pos 1) (pos 5)) ∷ []) ((port (negsuc 0) (pos 1) (pos 5)) ∷ []) 0 0 (true ∷ []))
passes24 = refl

passes25 : Passes (codes "DEADBAND") (fields (negsuc 0 ∷ []) [] (pos 5 ∷ []) (negsuc 0 ∷ []) [] (pos 5 ∷ []) 1 0 [] (pos 0 ∷ negsuc 4 ∷ pos 5 ∷ []) [] None) (block DeadBand (pos 0 ∷ negsuc 4 ∷ pos 5 ∷ []) [] [] ((port (negsuc 0) (pos 1) (pos 5)) ∷ []) ((port (negsuc 0) (pos 1) (pos 5)) ∷ []) 1 0 (true ∷ []))
passes25 = refl

passes26 : Passes (codes "DEADBAND") (fields (negsuc 0 ∷ []) [] (pos 5 ∷ []) (negsuc 0 ∷ []) [] (pos 5 ∷ []) 0 0 [] (pos 0 ∷ negsuc 4 ∷ pos 5 ∷ []) [] None) (block DeadBand (pos 0 ∷ negsuc 4 ∷ pos 5 ∷ []) [] [] ((port (negsuc 0) (pos 1) (pos 5)) ∷ []) ((port (negsuc 0) (pos 1) (pos 5)) ∷ []) 0 0 (true ∷ []))
passes26 = refl

passes27 : Passes (codes "CONVERT") (fields (negsuc 0 ∷ []) [] (pos 5 ∷ []) (negsuc 0 ∷ []) [] (pos 5 ∷ []) 0 0 [] (pos 0 ∷ []) [] None) (block Convert (pos 0 ∷ []) [] [] ((port (negsuc 0) (pos 1) (pos 5)) ∷ []) ((port (negsuc 0) (pos 1) (pos 5)) ∷ []) 0 0 (true ∷ []))
passes27 = refl

passes28 : Passes (codes "CONVERT") (fields (negsuc 0 ∷ []) [] (pos 5 ∷ []) (negsuc 0 ∷ []) [] (pos 5 ∷ []) 1 0 [] (pos 0 ∷ []) [] None) (block Convert (pos 0 ∷ []) [] [] ((port (negsuc 0) (pos 1) (pos 5)) ∷ []) ((port (negsuc 0) (pos 1) (pos 5)) ∷ []) 1 0 (true ∷ []))
passes28 = refl

passes29 : Passes (codes "CONVERT") (fields (negsuc 0 ∷ []) [] (pos 5 ∷ []) (negsuc 0 ∷ []) [] (pos 5 ∷ []) 0 0 [] (pos 0 ∷ []) [] None) (block Convert (pos 0 ∷ []) [] [] ((port (negsuc 0) (pos 1) (pos 5)) ∷ []) ((port (negsuc 0) (pos 1) (pos 5)) ∷ []) 0 0 (true ∷ []))
passes29 = refl

passes30 : Passes (codes "MUX") (fields (negsuc 0 ∷ negsuc 0 ∷ []) [] (pos 5 ∷ pos 5 ∷ []) (negsuc 0 ∷ []) [] (pos 5 ∷ []) 0 0 [] [] [] None) (block Mux [] [] [] ((port (negsuc 0) (pos 1) (pos 5)) ∷ (port (negsuc 0) (pos 1) (pos 5)) ∷ []) ((port (negsuc 0) (pos 1) (pos 5)) ∷ []) 0 0 (true ∷ true ∷ []))
passes30 = refl

passes31 : Passes (codes "MUX") (fields (negsuc 0 ∷ negsuc 0 ∷ []) [] (pos 5 ∷ pos 5 ∷ []) (negsuc 0 ∷ []) [] (pos 5 ∷ []) 1 0 [] [] [] None) (block Mux [] [] [] ((port (negsuc 0) (pos 1) (pos 5)) ∷ (port (negsuc 0) (pos 1) (pos 5)) ∷ []) ((port (negsuc 0) (pos 1) (pos 5)) ∷ []) 1 0 (true ∷ true ∷ []))
passes31 = refl

passes32 : Passes (codes "MUX") (fields (negsuc 0 ∷ negsuc 0 ∷ []) [] (pos 5 ∷ pos 5 ∷ []) (negsuc 0 ∷ []) [] (pos 5 ∷ []) 0 0 [] [] [] None) (block Mux [] [] [] ((port (negsuc 0) (pos 1) (pos 5)) ∷ (port (negsuc 0) (pos 1) (pos 5)) ∷ []) ((port (negsuc 0) (pos 1) (pos 5)) ∷ []) 0 0 (true ∷ true ∷ []))
passes32 = refl

passes33 : Passes (codes "DEMUX") (fields (negsuc 0 ∷ []) [] (pos 5 ∷ []) (negsuc 0 ∷ negsuc 0 ∷ []) [] (pos 5 ∷ pos 5 ∷ []) 0 0 [] [] [] None) (block Demux [] [] [] ((port (negsuc 0) (pos 1) (pos 5)) ∷ []) ((port (negsuc 0) (pos 1) (pos 5)) ∷ (port (negsuc 0) (pos 1) (pos 5)) ∷ []) 0 0 (true ∷ []))
passes33 = refl

passes34 : Passes (codes "DEMUX") (fields (negsuc 0 ∷ []) [] (pos 5 ∷ []) (negsuc 0 ∷ negsuc 0 ∷ []) [] (pos 5 ∷ pos 5 ∷ []) 1 0 [] [] [] None) (block Demux [] [] [] ((port (negsuc 0) (pos 1) (pos 5)) ∷ []) ((port (negsuc 0) (pos 1) (pos 5)) ∷ (port (negsuc 0) (pos 1) (pos 5)) ∷ []) 1 0 (true ∷ []))
passes34 = refl

passes35 : Passes (codes "DEMUX") (fields (negsuc 0 ∷ []) [] (pos 5 ∷ []) (negsuc 0 ∷ negsuc 0 ∷ []) [] (pos 5 ∷ pos 5 ∷ []) 0 0 [] [] [] None) (block Demux [] [] [] ((port (negsuc 0) (pos 1) (pos 5)) ∷ []) ((port (negsuc 0) (pos 1) (pos 5)) ∷ (port (negsuc 0) (pos 1) (pos 5)) ∷ []) 0 0 (true ∷ []))
passes35 = refl

passes36 : Passes (codes "EXTRACTOR") (fields (negsuc 0 ∷ []) [] (pos 5 ∷ []) (negsuc 0 ∷ []) [] (pos 5 ∷ []) 0 0 [] (pos 2 ∷ pos 1 ∷ []) [] None) (block Extractor (pos 2 ∷ pos 1 ∷ []) [] [] ((port (negsuc 0) (pos 1) (pos 5)) ∷ []) ((port (negsuc 0) (pos 1) (pos 5)) ∷ []) 0 0 (true ∷ []))
passes36 = refl

passes37 : Passes (codes "EXTRACTOR") (fields (negsuc 0 ∷ []) [] (pos 5 ∷ []) (negsuc 0 ∷ []) [] (pos 5 ∷ []) 1 0 [] (pos 2 ∷ pos 1 ∷ []) [] None) (block Extractor (pos 2 ∷ pos 1 ∷ []) [] [] ((port (negsuc 0) (pos 1) (pos 5)) ∷ []) ((port (negsuc 0) (pos 1) (pos 5)) ∷ []) 1 0 (true ∷ []))
passes37 = refl

passes38 : Passes (codes "EXTRACTOR") (fields (negsuc 0 ∷ []) [] (pos 5 ∷ []) (negsuc 0 ∷ []) [] (pos 5 ∷ []) 0 0 [] (pos 2 ∷ pos 1 ∷ []) [] None) (block Extractor (pos 2 ∷ pos 1 ∷ []) [] [] ((port (negsuc 0) (pos 1) (pos 5)) ∷ []) ((port (negsuc 0) (pos 1) (pos 5)) ∷ []) 0 0 (true ∷ []))
passes38 = refl

passes39 : Passes (codes "LOGICAL_OP") (fields (negsuc 0 ∷ negsuc 0 ∷ []) [] (pos 5 ∷ pos 5 ∷ []) (negsuc 0 ∷ []) [] (pos 5 ∷ []) 0 0 [] (pos 0 ∷ pos 0 ∷ []) [] None) (block LogicalOp (pos 0 ∷ pos 0 ∷ []) [] [] ((port (negsuc 0) (pos 1) (pos 5)) ∷ (port (negsuc 0) (pos 1) (pos 5)) ∷ []) ((port (negsuc 0) (pos 1) (pos 5)) ∷ []) 0 0 (true ∷ true ∷ []))
passes39 = refl

passes40 : Passes (codes "LOGICAL_OP") (fields (negsuc 0 ∷ negsuc 0 ∷ []) [] (pos 5 ∷ pos 5 ∷ []) (negsuc 0 ∷ []) [] (pos 5 ∷ []) 1 0 [] (pos 0 ∷ pos 0 ∷ []) [] None) (block LogicalOp (pos 0 ∷ pos 0 ∷ []) [] [] ((port (negsuc 0) (pos 1) (pos 5)) ∷ (port (negsuc 0) (pos 1) (pos 5)) ∷ []) ((port (negsuc 0) (pos 1) (pos 5)) ∷ []) 1 0 (true ∷ true ∷ []))
passes40 = refl

passes41 : Passes (codes "LOGICAL_OP") (fields (negsuc 0 ∷ negsuc 0 ∷ []) [] (pos 5 ∷ pos 5 ∷ []) (negsuc 0 ∷ []) [] (pos 5 ∷ []) 0 0 [] (pos 0 ∷ pos 0 ∷ []) [] None) (block LogicalOp (pos 0 ∷ pos 0 ∷ []) [] [] ((port (negsuc 0) (pos 1) (pos 5)) ∷ (port (negsuc 0) (pos 1) (pos 5)) ∷ []) ((port (negsuc 0) (pos 1) (pos 5)) ∷ []) 0 0 (true ∷ true ∷ []))
passes41 = refl

passes42 : Passes (codes "RELATIONALOP") (fields (negsuc 0 ∷ negsuc 0 ∷ []) [] (pos 5 ∷ pos 5 ∷ []) (negsuc 0 ∷ []) [] (pos 5 ∷ []) 0 0 [] (pos 0 ∷ []) [] None) (block RelationalOp (pos 0 ∷ []) [] [] ((port (negsuc 0) (pos 1) (pos 5)) ∷ (port (negsuc 0) (pos 1) (pos 5)) ∷ []) ((port (negsuc 0) (pos 1) (pos 5)) ∷ []) 0 0 (true ∷ true ∷ []))
passes42 = refl

passes43 : Passes (codes "RELATIONALOP") (fields (negsuc 0 ∷ negsuc 0 ∷ []) [] (pos 5 ∷ pos 5 ∷ []) (negsuc 0 ∷ []) [] (pos 5 ∷ []) 1 0 [] (pos 0 ∷ []) [] None) (block RelationalOp (pos 0 ∷ []) [] [] ((port (negsuc 0) (pos 1) (pos 5)) ∷ (port (negsuc 0) (pos 1) (pos 5)) ∷ []) ((port (negsuc 0) (pos 1) (pos 5)) ∷ []) 1 0 (true ∷ true ∷ []))
passes43 = refl

passes44 : Passes (codes "RELATIONALOP") (fields (negsuc 0 ∷ negsuc 0 ∷ []) [] (pos 5 ∷ pos 5 ∷ []) (negsuc 0 ∷ []) [] (pos 5 ∷ []) 0 0 [] (pos 0 ∷ []) [] None) (block RelationalOp (pos 0 ∷ []) [] [] ((port (negsuc 0) (pos 1) (pos 5)) ∷ (port (negsuc 0) (pos 1) (pos 5)) ∷ []) ((port (negsuc 0) (pos 1) (pos 5)) ∷ []) 0 0 (true ∷ true ∷ []))
passes44 = refl

passes45 : Passes (codes "SHIFT") (fields (negsuc 0 ∷ []) [] (pos 5 ∷ []) (negsuc 0 ∷ []) [] (pos 5 ∷ []) 0 0 [] (pos 3 ∷ pos 0 ∷ []) [] None) (block Shift (pos 3 ∷ pos 0 ∷ []) [] [] ((port (negsuc 0) (pos 1) (pos 5)) ∷ []) ((port (negsuc 0) (pos 1) (pos 5)) ∷ []) 0 0 (true ∷ []))
passes45 = refl

passes46 : Passes (codes "SHIFT") (fields (negsuc 0 ∷ []) [] (pos 5 ∷ []) (negsuc 0 ∷ []) [] (pos 5 ∷ []) 1 0 [] (pos 3 ∷ pos 0 ∷ []) [] None) (block Shift (pos 3 ∷ pos 0 ∷ []) [] [] ((port (negsuc 0) (pos 1) (pos 5)) ∷ []) ((port (negsuc 0) (pos 1) (pos 5)) ∷ []) 1 0 (true ∷ []))
passes46 = refl

passes47 : Passes (codes "SHIFT") (fields (negsuc 0 ∷ []) [] (pos 5 ∷ []) (negsuc 0 ∷ []) [] (pos 5 ∷ []) 0 0 [] (pos 3 ∷ pos 0 ∷ []) [] None) (block Shift (pos 3 ∷ pos 0 ∷ []) [] [] ((port (negsuc 0) (pos 1) (pos 5)) ∷ []) ((port (negsuc 0) (pos 1) (pos 5)) ∷ []) 0 0 (true ∷ []))
passes47 = refl

passes48 : Passes (codes "BITSET") (fields (negsuc 0 ∷ []) [] (pos 5 ∷ []) (negsuc 0 ∷ []) [] (pos 5 ∷ []) 0 0 [] (pos 3 ∷ []) [] None) (block BitSet (pos 3 ∷ []) [] [] ((port (negsuc 0) (pos 1) (pos 5)) ∷ []) ((port (negsuc 0) (pos 1) (pos 5)) ∷ []) 0 0 (true ∷ []))
passes48 = refl

passes49 : Passes (codes "BITSET") (fields (negsuc 0 ∷ []) [] (pos 5 ∷ []) (negsuc 0 ∷ []) [] (pos 5 ∷ []) 1 0 [] (pos 3 ∷ []) [] None) (block BitSet (pos 3 ∷ []) [] [] ((port (negsuc 0) (pos 1) (pos 5)) ∷ []) ((port (negsuc 0) (pos 1) (pos 5)) ∷ []) 1 0 (true ∷ []))
passes49 = refl

passes50 : Passes (codes "BITSET") (fields (negsuc 0 ∷ []) [] (pos 5 ∷ []) (negsuc 0 ∷ []) [] (pos 5 ∷ []) 0 0 [] (pos 3 ∷ []) [] None) (block BitSet (pos 3 ∷ []) [] [] ((port (negsuc 0) (pos 1) (pos 5)) ∷ []) ((port (negsuc 0) (pos 1) (pos 5)) ∷ []) 0 0 (true ∷ []))
passes50 = refl

passes51 : Passes (codes "BITCLEAR") (fields (negsuc 0 ∷ []) [] (pos 5 ∷ []) (negsuc 0 ∷ []) [] (pos 5 ∷ []) 0 0 [] (pos 3 ∷ []) [] None) (block BitClear (pos 3 ∷ []) [] [] ((port (negsuc 0) (pos 1) (pos 5)) ∷ []) ((port (negsuc 0) (pos 1) (pos 5)) ∷ []) 0 0 (true ∷ []))
passes51 = refl

passes52 : Passes (codes "BITCLEAR") (fields (negsuc 0 ∷ []) [] (pos 5 ∷ []) (negsuc 0 ∷ []) [] (pos 5 ∷ []) 1 0 [] (pos 3 ∷ []) [] None) (block BitClear (pos 3 ∷ []) [] [] ((port (negsuc 0) (pos 1) (pos 5)) ∷ []) ((port (negsuc 0) (pos 1) (pos 5)) ∷ []) 1 0 (true ∷ []))
passes52 = refl

passes53 : Passes (codes "BITCLEAR") (fields (negsuc 0 ∷ []) [] (pos 5 ∷ []) (negsuc 0 ∷ []) [] (pos 5 ∷ []) 0 0 [] (pos 3 ∷ []) [] None) (block BitClear (pos 3 ∷ []) [] [] ((port (negsuc 0) (pos 1) (pos 5)) ∷ []) ((port (negsuc 0) (pos 1) (pos 5)) ∷ []) 0 0 (true ∷ []))
passes53 = refl

passes54 : Passes (codes "EXTRACTBITS") (fields (negsuc 0 ∷ []) [] (pos 5 ∷ []) (negsuc 0 ∷ []) [] (pos 5 ∷ []) 0 0 [] (pos 1 ∷ pos 3 ∷ []) [] None) (block ExtractBits (pos 1 ∷ pos 3 ∷ []) [] [] ((port (negsuc 0) (pos 1) (pos 5)) ∷ []) ((port (negsuc 0) (pos 1) (pos 5)) ∷ []) 0 0 (true ∷ []))
passes54 = refl

passes55 : Passes (codes "EXTRACTBITS") (fields (negsuc 0 ∷ []) [] (pos 5 ∷ []) (negsuc 0 ∷ []) [] (pos 5 ∷ []) 1 0 [] (pos 1 ∷ pos 3 ∷ []) [] None) (block ExtractBits (pos 1 ∷ pos 3 ∷ []) [] [] ((port (negsuc 0) (pos 1) (pos 5)) ∷ []) ((port (negsuc 0) (pos 1) (pos 5)) ∷ []) 1 0 (true ∷ []))
passes55 = refl

passes56 : Passes (codes "EXTRACTBITS") (fields (negsuc 0 ∷ []) [] (pos 5 ∷ []) (negsuc 0 ∷ []) [] (pos 5 ∷ []) 0 0 [] (pos 1 ∷ pos 3 ∷ []) [] None) (block ExtractBits (pos 1 ∷ pos 3 ∷ []) [] [] ((port (negsuc 0) (pos 1) (pos 5)) ∷ []) ((port (negsuc 0) (pos 1) (pos 5)) ∷ []) 0 0 (true ∷ []))
passes56 = refl

passes57 : Passes (codes "SWITCH2_m") (fields (negsuc 0 ∷ negsuc 0 ∷ negsuc 0 ∷ []) [] (pos 5 ∷ pos 5 ∷ pos 5 ∷ []) (negsuc 0 ∷ []) [] (pos 5 ∷ []) 0 0 [] (pos 0 ∷ pos 0 ∷ []) [] None) (block Switch2 (pos 0 ∷ pos 0 ∷ []) [] [] ((port (negsuc 0) (pos 1) (pos 5)) ∷ (port (negsuc 0) (pos 1) (pos 5)) ∷ (port (negsuc 0) (pos 1) (pos 5)) ∷ []) ((port (negsuc 0) (pos 1) (pos 5)) ∷ []) 0 0 (true ∷ true ∷ true ∷ []))
passes57 = refl

passes58 : Passes (codes "SWITCH2_m") (fields (negsuc 0 ∷ negsuc 0 ∷ negsuc 0 ∷ []) [] (pos 5 ∷ pos 5 ∷ pos 5 ∷ []) (negsuc 0 ∷ []) [] (pos 5 ∷ []) 1 0 [] (pos 0 ∷ pos 0 ∷ []) [] None) (block Switch2 (pos 0 ∷ pos 0 ∷ []) [] [] ((port (negsuc 0) (pos 1) (pos 5)) ∷ (port (negsuc 0) (pos 1) (pos 5)) ∷ (port (negsuc 0) (pos 1) (pos 5)) ∷ []) ((port (negsuc 0) (pos 1) (pos 5)) ∷ []) 1 0 (true ∷ true ∷ true ∷ []))
passes58 = refl

passes59 : Passes (codes "SWITCH2_m") (fields (negsuc 0 ∷ negsuc 0 ∷ negsuc 0 ∷ []) [] (pos 5 ∷ pos 5 ∷ pos 5 ∷ []) (negsuc 0 ∷ []) [] (pos 5 ∷ []) 0 0 [] (pos 0 ∷ pos 0 ∷ []) [] None) (block Switch2 (pos 0 ∷ pos 0 ∷ []) [] [] ((port (negsuc 0) (pos 1) (pos 5)) ∷ (port (negsuc 0) (pos 1) (pos 5)) ∷ (port (negsuc 0) (pos 1) (pos 5)) ∷ []) ((port (negsuc 0) (pos 1) (pos 5)) ∷ []) 0 0 (true ∷ true ∷ true ∷ []))
passes59 = refl

passes60 : Passes (codes "SELECT_m") (fields (negsuc 0 ∷ negsuc 0 ∷ negsuc 0 ∷ []) [] (pos 5 ∷ pos 5 ∷ pos 5 ∷ []) (negsuc 0 ∷ []) [] (pos 5 ∷ []) 3 0 [] [] [] None) (block Select [] [] [] ((port (negsuc 0) (pos 1) (pos 5)) ∷ (port (negsuc 0) (pos 1) (pos 5)) ∷ (port (negsuc 0) (pos 1) (pos 5)) ∷ []) ((port (negsuc 0) (pos 1) (pos 5)) ∷ []) 3 0 (true ∷ true ∷ true ∷ []))
passes60 = refl

passes61 : Passes (codes "SELECT_m") (fields (negsuc 0 ∷ negsuc 0 ∷ negsuc 0 ∷ []) [] (pos 5 ∷ pos 5 ∷ pos 5 ∷ []) (negsuc 0 ∷ []) [] (pos 5 ∷ []) 3 0 [] [] [] None) (block Select [] [] [] ((port (negsuc 0) (pos 1) (pos 5)) ∷ (port (negsuc 0) (pos 1) (pos 5)) ∷ (port (negsuc 0) (pos 1) (pos 5)) ∷ []) ((port (negsuc 0) (pos 1) (pos 5)) ∷ []) 3 0 (true ∷ true ∷ true ∷ []))
passes61 = refl

passes62 : Passes (codes "LOGIC") (fields (negsuc 0 ∷ negsuc 0 ∷ []) [] (pos 5 ∷ pos 5 ∷ []) (negsuc 0 ∷ []) [] (pos 5 ∷ []) 0 0 [] (pos 0 ∷ pos 0 ∷ pos 0 ∷ pos 1 ∷ []) [] None) (block Logic (pos 0 ∷ pos 0 ∷ pos 0 ∷ pos 1 ∷ []) [] [] ((port (negsuc 0) (pos 1) (pos 5)) ∷ (port (negsuc 0) (pos 1) (pos 5)) ∷ []) ((port (negsuc 0) (pos 1) (pos 5)) ∷ []) 0 0 (true ∷ true ∷ []))
passes62 = refl

passes63 : Passes (codes "LOGIC") (fields (negsuc 0 ∷ negsuc 0 ∷ []) [] (pos 5 ∷ pos 5 ∷ []) (negsuc 0 ∷ []) [] (pos 5 ∷ []) 1 0 [] (pos 0 ∷ pos 0 ∷ pos 0 ∷ pos 1 ∷ []) [] None) (block Logic (pos 0 ∷ pos 0 ∷ pos 0 ∷ pos 1 ∷ []) [] [] ((port (negsuc 0) (pos 1) (pos 5)) ∷ (port (negsuc 0) (pos 1) (pos 5)) ∷ []) ((port (negsuc 0) (pos 1) (pos 5)) ∷ []) 1 0 (true ∷ true ∷ []))
passes63 = refl

passes64 : Passes (codes "LOGIC") (fields (negsuc 0 ∷ negsuc 0 ∷ []) [] (pos 5 ∷ pos 5 ∷ []) (negsuc 0 ∷ []) [] (pos 5 ∷ []) 0 0 [] (pos 0 ∷ pos 0 ∷ pos 0 ∷ pos 1 ∷ []) [] None) (block Logic (pos 0 ∷ pos 0 ∷ pos 0 ∷ pos 1 ∷ []) [] [] ((port (negsuc 0) (pos 1) (pos 5)) ∷ (port (negsuc 0) (pos 1) (pos 5)) ∷ []) ((port (negsuc 0) (pos 1) (pos 5)) ∷ []) 0 0 (true ∷ true ∷ []))
passes64 = refl

passes65 : Passes (codes "ANDLOG_f") (fields [] [] [] (negsuc 0 ∷ []) [] (pos 5 ∷ []) 2 0 [] [] [] None) (block AndLog [] [] [] [] ((port (negsuc 0) (pos 1) (pos 5)) ∷ []) 2 0 [])
passes65 = refl

passes66 : Passes (codes "ANDLOG_f") (fields [] [] [] (negsuc 0 ∷ []) [] (pos 5 ∷ []) 2 0 [] [] [] None) (block AndLog [] [] [] [] ((port (negsuc 0) (pos 1) (pos 5)) ∷ []) 2 0 [])
passes66 = refl

passes67 : Passes (codes "DOLLAR_m") (fields (negsuc 0 ∷ []) [] (pos 5 ∷ []) (negsuc 0 ∷ []) [] (pos 5 ∷ []) 0 0 (pos 0 ∷ []) [] [] None) (block Dollar [] (pos 0 ∷ []) [] ((port (negsuc 0) (pos 1) (pos 5)) ∷ []) ((port (negsuc 0) (pos 1) (pos 5)) ∷ []) 0 0 (false ∷ []))
passes67 = refl

passes68 : Passes (codes "DOLLAR_m") (fields (negsuc 0 ∷ []) [] (pos 5 ∷ []) (negsuc 0 ∷ []) [] (pos 5 ∷ []) 1 0 (pos 0 ∷ []) [] [] None) (block Dollar [] (pos 0 ∷ []) [] ((port (negsuc 0) (pos 1) (pos 5)) ∷ []) ((port (negsuc 0) (pos 1) (pos 5)) ∷ []) 1 0 (false ∷ []))
passes68 = refl

passes69 : Passes (codes "DOLLAR_m") (fields (negsuc 0 ∷ []) [] (pos 5 ∷ []) (negsuc 0 ∷ []) [] (pos 5 ∷ []) 1 0 (pos 0 ∷ []) [] [] None) (block Dollar [] (pos 0 ∷ []) [] ((port (negsuc 0) (pos 1) (pos 5)) ∷ []) ((port (negsuc 0) (pos 1) (pos 5)) ∷ []) 1 0 (false ∷ []))
passes69 = refl

passes70 : Passes (codes "SAMPHOLD_m") (fields (negsuc 0 ∷ []) [] (pos 5 ∷ []) (negsuc 0 ∷ []) [] (pos 5 ∷ []) 0 0 [] [] [] None) (block SampHold [] [] [] ((port (negsuc 0) (pos 1) (pos 5)) ∷ []) ((port (negsuc 0) (pos 1) (pos 5)) ∷ []) 0 0 (true ∷ []))
passes70 = refl

passes71 : Passes (codes "SAMPHOLD_m") (fields (negsuc 0 ∷ []) [] (pos 5 ∷ []) (negsuc 0 ∷ []) [] (pos 5 ∷ []) 1 0 [] [] [] None) (block SampHold [] [] [] ((port (negsuc 0) (pos 1) (pos 5)) ∷ []) ((port (negsuc 0) (pos 1) (pos 5)) ∷ []) 1 0 (true ∷ []))
passes71 = refl

passes72 : Passes (codes "SAMPHOLD_m") (fields (negsuc 0 ∷ []) [] (pos 5 ∷ []) (negsuc 0 ∷ []) [] (pos 5 ∷ []) 1 0 [] [] [] None) (block SampHold [] [] [] ((port (negsuc 0) (pos 1) (pos 5)) ∷ []) ((port (negsuc 0) (pos 1) (pos 5)) ∷ []) 1 0 (true ∷ []))
passes72 = refl

passes73 : Passes (codes "REGISTER") (fields (negsuc 0 ∷ []) [] (pos 5 ∷ []) (negsuc 0 ∷ []) [] (pos 5 ∷ []) 0 0 (pos 0 ∷ pos 0 ∷ []) [] [] None) (block Register [] (pos 0 ∷ pos 0 ∷ []) [] ((port (negsuc 0) (pos 1) (pos 5)) ∷ []) ((port (negsuc 0) (pos 1) (pos 5)) ∷ []) 0 0 (false ∷ []))
passes73 = refl

passes74 : Passes (codes "REGISTER") (fields (negsuc 0 ∷ []) [] (pos 5 ∷ []) (negsuc 0 ∷ []) [] (pos 5 ∷ []) 1 0 (pos 0 ∷ pos 0 ∷ []) [] [] None) (block Register [] (pos 0 ∷ pos 0 ∷ []) [] ((port (negsuc 0) (pos 1) (pos 5)) ∷ []) ((port (negsuc 0) (pos 1) (pos 5)) ∷ []) 1 0 (false ∷ []))
passes74 = refl

passes75 : Passes (codes "REGISTER") (fields (negsuc 0 ∷ []) [] (pos 5 ∷ []) (negsuc 0 ∷ []) [] (pos 5 ∷ []) 1 0 (pos 0 ∷ pos 0 ∷ []) [] [] None) (block Register [] (pos 0 ∷ pos 0 ∷ []) [] ((port (negsuc 0) (pos 1) (pos 5)) ∷ []) ((port (negsuc 0) (pos 1) (pos 5)) ∷ []) 1 0 (false ∷ []))
passes75 = refl

passes76 : Passes (codes "Modulo_Count") (fields [] [] [] (negsuc 0 ∷ []) [] (pos 5 ∷ []) 1 0 (pos 0 ∷ []) (pos 10 ∷ []) [] None) (block ModuloCount (pos 10 ∷ []) (pos 0 ∷ []) [] [] ((port (negsuc 0) (pos 1) (pos 5)) ∷ []) 1 0 [])
passes76 = refl

passes77 : Passes (codes "Modulo_Count") (fields [] [] [] (negsuc 0 ∷ []) [] (pos 5 ∷ []) 1 0 (pos 0 ∷ []) (pos 10 ∷ []) [] None) (block ModuloCount (pos 10 ∷ []) (pos 0 ∷ []) [] [] ((port (negsuc 0) (pos 1) (pos 5)) ∷ []) 1 0 [])
passes77 = refl

passes78 : Passes (codes "GATED_DELAY") (fields (negsuc 0 ∷ negsuc 0 ∷ []) [] (pos 5 ∷ pos 5 ∷ []) (negsuc 0 ∷ []) [] (pos 5 ∷ []) 0 0 (pos 0 ∷ []) [] [] None) (block GatedDelay [] (pos 0 ∷ []) [] ((port (negsuc 0) (pos 1) (pos 5)) ∷ (port (negsuc 0) (pos 1) (pos 5)) ∷ []) ((port (negsuc 0) (pos 1) (pos 5)) ∷ []) 0 0 (false ∷ true ∷ []))
passes78 = refl

passes79 : Passes (codes "GATED_DELAY") (fields (negsuc 0 ∷ negsuc 0 ∷ []) [] (pos 5 ∷ pos 5 ∷ []) (negsuc 0 ∷ []) [] (pos 5 ∷ []) 1 0 (pos 0 ∷ []) [] [] None) (block GatedDelay [] (pos 0 ∷ []) [] ((port (negsuc 0) (pos 1) (pos 5)) ∷ (port (negsuc 0) (pos 1) (pos 5)) ∷ []) ((port (negsuc 0) (pos 1) (pos 5)) ∷ []) 1 0 (false ∷ true ∷ []))
passes79 = refl

passes80 : Passes (codes "GATED_DELAY") (fields (negsuc 0 ∷ negsuc 0 ∷ []) [] (pos 5 ∷ pos 5 ∷ []) (negsuc 0 ∷ []) [] (pos 5 ∷ []) 1 0 (pos 0 ∷ []) [] [] None) (block GatedDelay [] (pos 0 ∷ []) [] ((port (negsuc 0) (pos 1) (pos 5)) ∷ (port (negsuc 0) (pos 1) (pos 5)) ∷ []) ((port (negsuc 0) (pos 1) (pos 5)) ∷ []) 1 0 (false ∷ true ∷ []))
passes80 = refl

passes81 : Passes (codes "SENSOR") (fields [] [] [] (negsuc 0 ∷ []) [] (pos 5 ∷ []) 1 0 [] (pos 1 ∷ []) [] None) (block Sensor (pos 1 ∷ []) [] [] [] ((port (negsuc 0) (pos 1) (pos 5)) ∷ []) 1 0 [])
passes81 = refl

passes82 : Passes (codes "SENSOR") (fields [] [] [] (negsuc 0 ∷ []) [] (pos 5 ∷ []) 1 0 [] (pos 1 ∷ []) [] None) (block Sensor (pos 1 ∷ []) [] [] [] ((port (negsuc 0) (pos 1) (pos 5)) ∷ []) 1 0 [])
passes82 = refl

passes83 : Passes (codes "EVTDLY_c") (fields [] [] [] [] [] [] 1 1 [] (pos 5 ∷ []) (pos 0 ∷ []) None) (block EvtDly (pos 5 ∷ []) [] (pos 0 ∷ []) [] [] 1 1 [])
passes83 = refl

passes84 : Passes (codes "EVTDLY_c") (fields [] [] [] [] [] [] 1 1 [] (pos 5 ∷ []) (pos 0 ∷ []) None) (block EvtDly (pos 5 ∷ []) [] (pos 0 ∷ []) [] [] 1 1 [])
passes84 = refl

passes85 : Passes (codes "EVTVARDLY") (fields (negsuc 0 ∷ []) [] (pos 5 ∷ []) [] [] [] 1 1 [] [] (negsuc 0 ∷ []) None) (block EvtVarDly [] [] (negsuc 0 ∷ []) ((port (negsuc 0) (pos 1) (pos 5)) ∷ []) [] 1 1 (false ∷ []))
passes85 = refl

passes86 : Passes (codes "EVTVARDLY") (fields (negsuc 0 ∷ []) [] (pos 5 ∷ []) [] [] [] 1 1 [] [] (negsuc 0 ∷ []) None) (block EvtVarDly [] [] (negsuc 0 ∷ []) ((port (negsuc 0) (pos 1) (pos 5)) ∷ []) [] 1 1 (false ∷ []))
passes86 = refl

passes87 : Passes (codes "IFTHEL_f") (fields (negsuc 0 ∷ []) [] (pos 5 ∷ []) [] [] [] 0 2 [] [] [] None) (block IfThEl [] [] [] ((port (negsuc 0) (pos 1) (pos 5)) ∷ []) [] 0 2 (true ∷ []))
passes87 = refl

passes88 : Passes (codes "IFTHEL_f") (fields (negsuc 0 ∷ []) [] (pos 5 ∷ []) [] [] [] 1 2 [] [] [] None) (block IfThEl [] [] [] ((port (negsuc 0) (pos 1) (pos 5)) ∷ []) [] 1 2 (true ∷ []))
passes88 = refl

passes89 : Passes (codes "IFTHEL_f") (fields (negsuc 0 ∷ []) [] (pos 5 ∷ []) [] [] [] 0 2 [] [] [] None) (block IfThEl [] [] [] ((port (negsuc 0) (pos 1) (pos 5)) ∷ []) [] 0 2 (true ∷ []))
passes89 = refl

passes90 : Passes (codes "ESELECT_f") (fields (negsuc 0 ∷ []) [] (pos 5 ∷ []) [] [] [] 0 3 [] [] [] None) (block ESelect [] [] [] ((port (negsuc 0) (pos 1) (pos 5)) ∷ []) [] 0 3 (true ∷ []))
passes90 = refl

passes91 : Passes (codes "ESELECT_f") (fields (negsuc 0 ∷ []) [] (pos 5 ∷ []) [] [] [] 1 3 [] [] [] None) (block ESelect [] [] [] ((port (negsuc 0) (pos 1) (pos 5)) ∷ []) [] 1 3 (true ∷ []))
passes91 = refl

passes92 : Passes (codes "ESELECT_f") (fields (negsuc 0 ∷ []) [] (pos 5 ∷ []) [] [] [] 0 64 [] [] [] None) (block ESelect [] [] [] ((port (negsuc 0) (pos 1) (pos 5)) ∷ []) [] 0 64 (true ∷ []))
passes92 = refl

passes93 : Passes (codes "ESELECT_f") (fields (negsuc 0 ∷ []) [] (pos 5 ∷ []) [] [] [] 0 2 [] [] [] None) (block ESelect [] [] [] ((port (negsuc 0) (pos 1) (pos 5)) ∷ []) [] 0 2 (true ∷ []))
passes93 = refl

passes94 : Passes (codes "HALT_f") (fields [] [] [] [] [] [] 1 0 [] [] [] None) (block Halt [] [] [] [] [] 1 0 [])
passes94 = refl

passes95 : Passes (codes "HALT_f") (fields [] [] [] [] [] [] 1 0 [] [] [] None) (block Halt [] [] [] [] [] 1 0 [])
passes95 = refl

passes96 : Passes (codes "SUMMATION") (fields (many 64 (negsuc 0)) [] (many 64 (pos 5)) (negsuc 0 ∷ []) [] (pos 5 ∷ []) 0 0 [] (pos 2 ∷ pos 1 ∷ pos 1 ∷ pos 1 ∷ pos 1 ∷ pos 1 ∷ pos 1 ∷ pos 1 ∷ pos 1 ∷ pos 1 ∷ pos 1 ∷ pos 1 ∷ pos 1 ∷ pos 1 ∷ pos 1 ∷ pos 1 ∷ pos 1 ∷ pos 1 ∷ pos 1 ∷ pos 1 ∷ pos 1 ∷ pos 1 ∷ pos 1 ∷ pos 1 ∷ pos 1 ∷ pos 1 ∷ pos 1 ∷ pos 1 ∷ pos 1 ∷ pos 1 ∷ pos 1 ∷ pos 1 ∷ pos 1 ∷ pos 1 ∷ pos 1 ∷ pos 1 ∷ pos 1 ∷ pos 1 ∷ pos 1 ∷ pos 1 ∷ pos 1 ∷ pos 1 ∷ pos 1 ∷ pos 1 ∷ pos 1 ∷ pos 1 ∷ pos 1 ∷ pos 1 ∷ pos 1 ∷ pos 1 ∷ pos 1 ∷ pos 1 ∷ pos 1 ∷ pos 1 ∷ pos 1 ∷ pos 1 ∷ pos 1 ∷ pos 1 ∷ pos 1 ∷ pos 1 ∷ pos 1 ∷ pos 1 ∷ pos 1 ∷ pos 1 ∷ pos 1 ∷ []) [] None) (block Summation (pos 2 ∷ pos 1 ∷ pos 1 ∷ pos 1 ∷ pos 1 ∷ pos 1 ∷ pos 1 ∷ pos 1 ∷ pos 1 ∷ pos 1 ∷ pos 1 ∷ pos 1 ∷ pos 1 ∷ pos 1 ∷ pos 1 ∷ pos 1 ∷ pos 1 ∷ pos 1 ∷ pos 1 ∷ pos 1 ∷ pos 1 ∷ pos 1 ∷ pos 1 ∷ pos 1 ∷ pos 1 ∷ pos 1 ∷ pos 1 ∷ pos 1 ∷ pos 1 ∷ pos 1 ∷ pos 1 ∷ pos 1 ∷ pos 1 ∷ pos 1 ∷ pos 1 ∷ pos 1 ∷ pos 1 ∷ pos 1 ∷ pos 1 ∷ pos 1 ∷ pos 1 ∷ pos 1 ∷ pos 1 ∷ pos 1 ∷ pos 1 ∷ pos 1 ∷ pos 1 ∷ pos 1 ∷ pos 1 ∷ pos 1 ∷ pos 1 ∷ pos 1 ∷ pos 1 ∷ pos 1 ∷ pos 1 ∷ pos 1 ∷ pos 1 ∷ pos 1 ∷ pos 1 ∷ pos 1 ∷ pos 1 ∷ pos 1 ∷ pos 1 ∷ pos 1 ∷ pos 1 ∷ []) [] [] (many 64 (port (negsuc 0) (pos 1) (pos 5))) ((port (negsuc 0) (pos 1) (pos 5)) ∷ []) 0 0 (many 64 true))
passes96 = refl

passes97 : Passes (codes "MAXMIN") (fields (many 64 (negsuc 0)) [] (many 64 (pos 5)) (negsuc 0 ∷ []) [] (pos 5 ∷ []) 0 0 [] (pos 1 ∷ []) [] None) (block MaxMin (pos 1 ∷ []) [] [] (many 64 (port (negsuc 0) (pos 1) (pos 5))) ((port (negsuc 0) (pos 1) (pos 5)) ∷ []) 0 0 (many 64 true))
passes97 = refl

passes98 : Passes (codes "MUX") (fields (many 64 (negsuc 0)) [] (many 64 (pos 5)) (negsuc 0 ∷ []) [] (pos 5 ∷ []) 0 0 [] [] [] None) (block Mux [] [] [] (many 64 (port (negsuc 0) (pos 1) (pos 5))) ((port (negsuc 0) (pos 1) (pos 5)) ∷ []) 0 0 (many 64 true))
passes98 = refl

passes99 : Passes (codes "DEMUX") (fields (negsuc 0 ∷ []) [] (pos 5 ∷ []) (many 64 (negsuc 0)) [] (many 64 (pos 5)) 0 0 [] [] [] None) (block Demux [] [] [] ((port (negsuc 0) (pos 1) (pos 5)) ∷ []) (many 64 (port (negsuc 0) (pos 1) (pos 5))) 0 0 (true ∷ []))
passes99 = refl

passes100 : Passes (codes "LOGICAL_OP") (fields (many 64 (negsuc 0)) [] (many 64 (pos 5)) (negsuc 0 ∷ []) [] (pos 5 ∷ []) 0 0 [] (pos 0 ∷ pos 0 ∷ []) [] None) (block LogicalOp (pos 0 ∷ pos 0 ∷ []) [] [] (many 64 (port (negsuc 0) (pos 1) (pos 5))) ((port (negsuc 0) (pos 1) (pos 5)) ∷ []) 0 0 (many 64 true))
passes100 = refl

passes101 : Passes (codes "SELECT_m") (fields (negsuc 0 ∷ negsuc 0 ∷ []) [] (pos 5 ∷ pos 5 ∷ []) (negsuc 0 ∷ []) [] (pos 5 ∷ []) 2 0 [] [] [] None) (block Select [] [] [] ((port (negsuc 0) (pos 1) (pos 5)) ∷ (port (negsuc 0) (pos 1) (pos 5)) ∷ []) ((port (negsuc 0) (pos 1) (pos 5)) ∷ []) 2 0 (true ∷ true ∷ []))
passes101 = refl

passes102 : Passes (codes "SELECT_m") (fields (negsuc 0 ∷ negsuc 0 ∷ negsuc 0 ∷ negsuc 0 ∷ negsuc 0 ∷ negsuc 0 ∷ negsuc 0 ∷ negsuc 0 ∷ []) [] (pos 5 ∷ pos 5 ∷ pos 5 ∷ pos 5 ∷ pos 5 ∷ pos 5 ∷ pos 5 ∷ pos 5 ∷ []) (negsuc 0 ∷ []) [] (pos 5 ∷ []) 8 0 [] [] [] None) (block Select [] [] [] ((port (negsuc 0) (pos 1) (pos 5)) ∷ (port (negsuc 0) (pos 1) (pos 5)) ∷ (port (negsuc 0) (pos 1) (pos 5)) ∷ (port (negsuc 0) (pos 1) (pos 5)) ∷ (port (negsuc 0) (pos 1) (pos 5)) ∷ (port (negsuc 0) (pos 1) (pos 5)) ∷ (port (negsuc 0) (pos 1) (pos 5)) ∷ (port (negsuc 0) (pos 1) (pos 5)) ∷ []) ((port (negsuc 0) (pos 1) (pos 5)) ∷ []) 8 0 (true ∷ true ∷ true ∷ true ∷ true ∷ true ∷ true ∷ true ∷ []))
passes102 = refl

passes103 : Passes (codes "LOGIC") (fields (negsuc 0 ∷ []) [] (pos 5 ∷ []) (negsuc 0 ∷ []) [] (pos 5 ∷ []) 0 0 [] (pos 0 ∷ pos 1 ∷ []) [] None) (block Logic (pos 0 ∷ pos 1 ∷ []) [] [] ((port (negsuc 0) (pos 1) (pos 5)) ∷ []) ((port (negsuc 0) (pos 1) (pos 5)) ∷ []) 0 0 (true ∷ []))
passes103 = refl

passes104 : Passes (codes "LOGIC") (fields (negsuc 0 ∷ negsuc 0 ∷ negsuc 0 ∷ []) [] (pos 5 ∷ pos 5 ∷ pos 5 ∷ []) (negsuc 0 ∷ negsuc 0 ∷ negsuc 0 ∷ negsuc 0 ∷ negsuc 0 ∷ negsuc 0 ∷ negsuc 0 ∷ negsuc 0 ∷ []) [] (pos 5 ∷ pos 5 ∷ pos 5 ∷ pos 5 ∷ pos 5 ∷ pos 5 ∷ pos 5 ∷ pos 5 ∷ []) 0 0 [] (pos 0 ∷ pos 1 ∷ pos 0 ∷ pos 1 ∷ pos 0 ∷ pos 1 ∷ pos 0 ∷ pos 1 ∷ pos 0 ∷ pos 1 ∷ pos 0 ∷ pos 1 ∷ pos 0 ∷ pos 1 ∷ pos 0 ∷ pos 1 ∷ pos 0 ∷ pos 1 ∷ pos 0 ∷ pos 1 ∷ pos 0 ∷ pos 1 ∷ pos 0 ∷ pos 1 ∷ pos 0 ∷ pos 1 ∷ pos 0 ∷ pos 1 ∷ pos 0 ∷ pos 1 ∷ pos 0 ∷ pos 1 ∷ pos 0 ∷ pos 1 ∷ pos 0 ∷ pos 1 ∷ pos 0 ∷ pos 1 ∷ pos 0 ∷ pos 1 ∷ pos 0 ∷ pos 1 ∷ pos 0 ∷ pos 1 ∷ pos 0 ∷ pos 1 ∷ pos 0 ∷ pos 1 ∷ pos 0 ∷ pos 1 ∷ pos 0 ∷ pos 1 ∷ pos 0 ∷ pos 1 ∷ pos 0 ∷ pos 1 ∷ pos 0 ∷ pos 1 ∷ pos 0 ∷ pos 1 ∷ pos 0 ∷ pos 1 ∷ pos 0 ∷ pos 1 ∷ []) [] None) (block Logic (pos 0 ∷ pos 1 ∷ pos 0 ∷ pos 1 ∷ pos 0 ∷ pos 1 ∷ pos 0 ∷ pos 1 ∷ pos 0 ∷ pos 1 ∷ pos 0 ∷ pos 1 ∷ pos 0 ∷ pos 1 ∷ pos 0 ∷ pos 1 ∷ pos 0 ∷ pos 1 ∷ pos 0 ∷ pos 1 ∷ pos 0 ∷ pos 1 ∷ pos 0 ∷ pos 1 ∷ pos 0 ∷ pos 1 ∷ pos 0 ∷ pos 1 ∷ pos 0 ∷ pos 1 ∷ pos 0 ∷ pos 1 ∷ pos 0 ∷ pos 1 ∷ pos 0 ∷ pos 1 ∷ pos 0 ∷ pos 1 ∷ pos 0 ∷ pos 1 ∷ pos 0 ∷ pos 1 ∷ pos 0 ∷ pos 1 ∷ pos 0 ∷ pos 1 ∷ pos 0 ∷ pos 1 ∷ pos 0 ∷ pos 1 ∷ pos 0 ∷ pos 1 ∷ pos 0 ∷ pos 1 ∷ pos 0 ∷ pos 1 ∷ pos 0 ∷ pos 1 ∷ pos 0 ∷ pos 1 ∷ pos 0 ∷ pos 1 ∷ pos 0 ∷ pos 1 ∷ []) [] [] ((port (negsuc 0) (pos 1) (pos 5)) ∷ (port (negsuc 0) (pos 1) (pos 5)) ∷ (port (negsuc 0) (pos 1) (pos 5)) ∷ []) ((port (negsuc 0) (pos 1) (pos 5)) ∷ (port (negsuc 0) (pos 1) (pos 5)) ∷ (port (negsuc 0) (pos 1) (pos 5)) ∷ (port (negsuc 0) (pos 1) (pos 5)) ∷ (port (negsuc 0) (pos 1) (pos 5)) ∷ (port (negsuc 0) (pos 1) (pos 5)) ∷ (port (negsuc 0) (pos 1) (pos 5)) ∷ (port (negsuc 0) (pos 1) (pos 5)) ∷ []) 0 0 (true ∷ true ∷ true ∷ []))
passes104 = refl

passes105 : Passes (codes "SUMMATION") (fields (negsuc 0 ∷ negsuc 0 ∷ []) (negsuc 0 ∷ negsuc 0 ∷ []) (pos 5 ∷ pos 5 ∷ []) (negsuc 0 ∷ []) [] (pos 5 ∷ []) 0 0 [] (pos 0 ∷ pos 1 ∷ negsuc 0 ∷ []) [] None) (block Summation (pos 0 ∷ pos 1 ∷ negsuc 0 ∷ []) [] [] ((port (negsuc 0) (negsuc 0) (pos 5)) ∷ (port (negsuc 0) (negsuc 0) (pos 5)) ∷ []) ((port (negsuc 0) (pos 1) (pos 5)) ∷ []) 0 0 (true ∷ true ∷ []))
passes105 = refl

passes106 : Passes (codes "CONST_m") (fields [] [] (pos 0 ∷ pos 1 ∷ pos 2 ∷ []) (negsuc 0 ∷ []) [] (pos 5 ∷ []) 0 0 [] (pos 7 ∷ []) [] None) (block Const (pos 7 ∷ []) [] [] [] ((port (negsuc 0) (pos 1) (pos 5)) ∷ []) 0 0 [])
passes106 = refl

passes107 : Passes (codes "GAINBLK") (fields (negsuc 0 ∷ []) [] (pos 5 ∷ []) (negsuc 0 ∷ []) (pos 4 ∷ []) (pos 5 ∷ []) 0 0 [] (pos 0 ∷ pos 3 ∷ []) [] None) (block GainBlk (pos 0 ∷ pos 3 ∷ []) [] [] ((port (negsuc 0) (pos 1) (pos 5)) ∷ []) ((port (negsuc 0) (pos 4) (pos 5)) ∷ []) 0 0 (true ∷ []))
passes107 = refl

passes108 : Passes (codes "IFTHEL_f") (fields (negsuc 0 ∷ []) [] (pos 5 ∷ []) [] [] (pos 0 ∷ []) 0 2 [] [] [] None) (block IfThEl [] [] [] ((port (negsuc 0) (pos 1) (pos 5)) ∷ []) [] 0 2 (true ∷ []))
passes108 = refl

passes109 : Passes (codes "IFTHEL_f") (fields (negsuc 0 ∷ []) [] (pos 5 ∷ []) [] [] [] 0 2 [] [] [] None) (block IfThEl [] [] [] ((port (negsuc 0) (pos 1) (pos 5)) ∷ []) [] 0 2 (true ∷ []))
passes109 = refl

passes110 : Passes (codes "IFTHEL_f") (fields (negsuc 0 ∷ []) [] (pos 5 ∷ []) [] [] [] 0 2 [] [] (pos 9 ∷ pos 9 ∷ pos 2147483648 ∷ []) None) (block IfThEl [] [] [] ((port (negsuc 0) (pos 1) (pos 5)) ∷ []) [] 0 2 (true ∷ []))
passes110 = refl

passes111 : Passes (codes "GAINBLK") (fields (negsuc 0 ∷ []) [] (pos 5 ∷ []) (negsuc 0 ∷ []) [] (pos 5 ∷ []) 0 0 [] (pos 0 ∷ pos 3 ∷ []) (pos 2147483648 ∷ []) None) (block GainBlk (pos 0 ∷ pos 3 ∷ []) [] [] ((port (negsuc 0) (pos 1) (pos 5)) ∷ []) ((port (negsuc 0) (pos 1) (pos 5)) ∷ []) 0 0 (true ∷ []))
passes111 = refl

passes112 : Passes (codes "SUMMATION") (fields (negsuc 0 ∷ negsuc 0 ∷ []) [] (pos 3 ∷ pos 3 ∷ []) (negsuc 0 ∷ []) [] (pos 5 ∷ []) 0 0 [] (pos 0 ∷ pos 1 ∷ negsuc 0 ∷ []) [] None) (block Summation (pos 0 ∷ pos 1 ∷ negsuc 0 ∷ []) [] [] ((port (negsuc 0) (pos 1) (pos 3)) ∷ (port (negsuc 0) (pos 1) (pos 3)) ∷ []) ((port (negsuc 0) (pos 1) (pos 5)) ∷ []) 0 0 (true ∷ true ∷ []))
passes112 = refl

passes113 : Passes (codes "SUMMATION") (fields (negsuc 0 ∷ negsuc 0 ∷ []) [] (pos 4 ∷ pos 4 ∷ []) (negsuc 0 ∷ []) [] (pos 5 ∷ []) 0 0 [] (pos 0 ∷ pos 1 ∷ negsuc 0 ∷ []) [] None) (block Summation (pos 0 ∷ pos 1 ∷ negsuc 0 ∷ []) [] [] ((port (negsuc 0) (pos 1) (pos 4)) ∷ (port (negsuc 0) (pos 1) (pos 4)) ∷ []) ((port (negsuc 0) (pos 1) (pos 5)) ∷ []) 0 0 (true ∷ true ∷ []))
passes113 = refl

passes114 : Passes (codes "SUMMATION") (fields (negsuc 0 ∷ negsuc 0 ∷ []) [] (pos 5 ∷ pos 5 ∷ []) (negsuc 0 ∷ []) [] (pos 5 ∷ []) 0 0 [] (pos 0 ∷ pos 1 ∷ negsuc 0 ∷ []) [] None) (block Summation (pos 0 ∷ pos 1 ∷ negsuc 0 ∷ []) [] [] ((port (negsuc 0) (pos 1) (pos 5)) ∷ (port (negsuc 0) (pos 1) (pos 5)) ∷ []) ((port (negsuc 0) (pos 1) (pos 5)) ∷ []) 0 0 (true ∷ true ∷ []))
passes114 = refl

passes115 : Passes (codes "SUMMATION") (fields (negsuc 0 ∷ negsuc 0 ∷ []) [] (pos 6 ∷ pos 6 ∷ []) (negsuc 0 ∷ []) [] (pos 5 ∷ []) 0 0 [] (pos 0 ∷ pos 1 ∷ negsuc 0 ∷ []) [] None) (block Summation (pos 0 ∷ pos 1 ∷ negsuc 0 ∷ []) [] [] ((port (negsuc 0) (pos 1) (pos 6)) ∷ (port (negsuc 0) (pos 1) (pos 6)) ∷ []) ((port (negsuc 0) (pos 1) (pos 5)) ∷ []) 0 0 (true ∷ true ∷ []))
passes115 = refl

passes116 : Passes (codes "SUMMATION") (fields (negsuc 0 ∷ negsuc 0 ∷ []) [] (pos 7 ∷ pos 7 ∷ []) (negsuc 0 ∷ []) [] (pos 5 ∷ []) 0 0 [] (pos 0 ∷ pos 1 ∷ negsuc 0 ∷ []) [] None) (block Summation (pos 0 ∷ pos 1 ∷ negsuc 0 ∷ []) [] [] ((port (negsuc 0) (pos 1) (pos 7)) ∷ (port (negsuc 0) (pos 1) (pos 7)) ∷ []) ((port (negsuc 0) (pos 1) (pos 5)) ∷ []) 0 0 (true ∷ true ∷ []))
passes116 = refl

passes117 : Passes (codes "SUMMATION") (fields (negsuc 0 ∷ negsuc 0 ∷ []) [] (pos 8 ∷ pos 8 ∷ []) (negsuc 0 ∷ []) [] (pos 5 ∷ []) 0 0 [] (pos 0 ∷ pos 1 ∷ negsuc 0 ∷ []) [] None) (block Summation (pos 0 ∷ pos 1 ∷ negsuc 0 ∷ []) [] [] ((port (negsuc 0) (pos 1) (pos 8)) ∷ (port (negsuc 0) (pos 1) (pos 8)) ∷ []) ((port (negsuc 0) (pos 1) (pos 5)) ∷ []) 0 0 (true ∷ true ∷ []))
passes117 = refl

passes118 : Passes (codes "SUMMATION") (fields (negsuc 0 ∷ negsuc 0 ∷ []) [] (negsuc 0 ∷ negsuc 0 ∷ []) (negsuc 0 ∷ []) [] (pos 5 ∷ []) 0 0 [] (pos 0 ∷ pos 1 ∷ negsuc 0 ∷ []) [] None) (block Summation (pos 0 ∷ pos 1 ∷ negsuc 0 ∷ []) [] [] ((port (negsuc 0) (pos 1) (negsuc 0)) ∷ (port (negsuc 0) (pos 1) (negsuc 0)) ∷ []) ((port (negsuc 0) (pos 1) (pos 5)) ∷ []) 0 0 (true ∷ true ∷ []))
passes118 = refl

passes119 : Passes (codes "SUMMATION") (fields (negsuc 0 ∷ negsuc 0 ∷ []) [] (negsuc 2147483647 ∷ negsuc 2147483647 ∷ []) (negsuc 0 ∷ []) [] (pos 5 ∷ []) 0 0 [] (pos 0 ∷ pos 1 ∷ negsuc 0 ∷ []) [] None) (block Summation (pos 0 ∷ pos 1 ∷ negsuc 0 ∷ []) [] [] ((port (negsuc 0) (pos 1) (negsuc 2147483647)) ∷ (port (negsuc 0) (pos 1) (negsuc 2147483647)) ∷ []) ((port (negsuc 0) (pos 1) (pos 5)) ∷ []) 0 0 (true ∷ true ∷ []))
passes119 = refl

passes120 : Passes (codes "CONST_m") (fields [] [] [] (negsuc 0 ∷ []) [] (pos 5 ∷ []) 0 0 [] (pos 7 ∷ []) [] (all true false)) (block Const (pos 7 ∷ []) [] [] [] ((port (negsuc 0) (pos 1) (pos 5)) ∷ []) 0 0 [])
passes120 = refl

passes121 : Passes (codes "CONST_m") (fields [] [] [] (negsuc 0 ∷ []) [] (pos 5 ∷ []) 0 0 [] (pos 7 ∷ []) [] (all false false)) (block Const (pos 7 ∷ []) [] [] [] ((port (negsuc 0) (pos 1) (pos 5)) ∷ []) 0 0 [])
passes121 = refl

passes122 : Passes (codes "SUMMATION") (fields (negsuc 0 ∷ negsuc 0 ∷ []) [] (pos 5 ∷ pos 5 ∷ []) (negsuc 0 ∷ []) [] (pos 5 ∷ []) 0 0 [] (pos 0 ∷ pos 1 ∷ negsuc 0 ∷ []) [] (all true false)) (block Summation (pos 0 ∷ pos 1 ∷ negsuc 0 ∷ []) [] [] ((port (negsuc 0) (pos 1) (pos 5)) ∷ (port (negsuc 0) (pos 1) (pos 5)) ∷ []) ((port (negsuc 0) (pos 1) (pos 5)) ∷ []) 0 0 (true ∷ true ∷ []))
passes122 = refl

passes123 : Passes (codes "GAINBLK") (fields (negsuc 0 ∷ []) [] (pos 5 ∷ []) (negsuc 0 ∷ []) [] (pos 5 ∷ []) 0 0 [] (pos 0 ∷ pos 3 ∷ []) [] (all true false)) (block GainBlk (pos 0 ∷ pos 3 ∷ []) [] [] ((port (negsuc 0) (pos 1) (pos 5)) ∷ []) ((port (negsuc 0) (pos 1) (pos 5)) ∷ []) 0 0 (true ∷ []))
passes123 = refl

passes124 : Passes (codes "PRODUCT") (fields (negsuc 0 ∷ negsuc 0 ∷ []) [] (pos 5 ∷ pos 5 ∷ []) (negsuc 0 ∷ []) [] (pos 5 ∷ []) 0 0 [] (pos 0 ∷ pos 1 ∷ []) [] (all true false)) (block Product (pos 0 ∷ pos 1 ∷ []) [] [] ((port (negsuc 0) (pos 1) (pos 5)) ∷ (port (negsuc 0) (pos 1) (pos 5)) ∷ []) ((port (negsuc 0) (pos 1) (pos 5)) ∷ []) 0 0 (true ∷ true ∷ []))
passes124 = refl

passes125 : Passes (codes "ABS_VALUE") (fields (negsuc 0 ∷ []) [] (pos 5 ∷ []) (negsuc 0 ∷ []) [] (pos 5 ∷ []) 0 0 [] (pos 0 ∷ []) [] (all true false)) (block AbsValue (pos 0 ∷ []) [] [] ((port (negsuc 0) (pos 1) (pos 5)) ∷ []) ((port (negsuc 0) (pos 1) (pos 5)) ∷ []) 0 0 (true ∷ []))
passes125 = refl

passes126 : Passes (codes "SIGNUM") (fields (negsuc 0 ∷ []) [] (pos 5 ∷ []) (negsuc 0 ∷ []) [] (pos 5 ∷ []) 0 0 [] [] [] (all true false)) (block Signum [] [] [] ((port (negsuc 0) (pos 1) (pos 5)) ∷ []) ((port (negsuc 0) (pos 1) (pos 5)) ∷ []) 0 0 (true ∷ []))
passes126 = refl

passes127 : Passes (codes "MAXMIN") (fields (negsuc 0 ∷ negsuc 0 ∷ []) [] (pos 5 ∷ pos 5 ∷ []) (negsuc 0 ∷ []) [] (pos 5 ∷ []) 0 0 [] (pos 1 ∷ []) [] (all true false)) (block MaxMin (pos 1 ∷ []) [] [] ((port (negsuc 0) (pos 1) (pos 5)) ∷ (port (negsuc 0) (pos 1) (pos 5)) ∷ []) ((port (negsuc 0) (pos 1) (pos 5)) ∷ []) 0 0 (true ∷ true ∷ []))
passes127 = refl

passes128 : Passes (codes "SATURATION") (fields (negsuc 0 ∷ []) [] (pos 5 ∷ []) (negsuc 0 ∷ []) [] (pos 5 ∷ []) 0 0 [] (negsuc 4 ∷ pos 5 ∷ []) [] (all true false)) (block Saturation (negsuc 4 ∷ pos 5 ∷ []) [] [] ((port (negsuc 0) (pos 1) (pos 5)) ∷ []) ((port (negsuc 0) (pos 1) (pos 5)) ∷ []) 0 0 (true ∷ []))
passes128 = refl

passes129 : Passes (codes "DEADBAND") (fields (negsuc 0 ∷ []) [] (pos 5 ∷ []) (negsuc 0 ∷ []) [] (pos 5 ∷ []) 0 0 [] (pos 0 ∷ negsuc 4 ∷ pos 5 ∷ []) [] (all true false)) (block DeadBand (pos 0 ∷ negsuc 4 ∷ pos 5 ∷ []) [] [] ((port (negsuc 0) (pos 1) (pos 5)) ∷ []) ((port (negsuc 0) (pos 1) (pos 5)) ∷ []) 0 0 (true ∷ []))
passes129 = refl

passes130 : Passes (codes "CONVERT") (fields (negsuc 0 ∷ []) [] (pos 5 ∷ []) (negsuc 0 ∷ []) [] (pos 5 ∷ []) 0 0 [] (pos 0 ∷ []) [] (all true false)) (block Convert (pos 0 ∷ []) [] [] ((port (negsuc 0) (pos 1) (pos 5)) ∷ []) ((port (negsuc 0) (pos 1) (pos 5)) ∷ []) 0 0 (true ∷ []))
passes130 = refl

passes131 : Passes (codes "MUX") (fields (negsuc 0 ∷ negsuc 0 ∷ []) [] (pos 5 ∷ pos 5 ∷ []) (negsuc 0 ∷ []) [] (pos 5 ∷ []) 0 0 [] [] [] (all true false)) (block Mux [] [] [] ((port (negsuc 0) (pos 1) (pos 5)) ∷ (port (negsuc 0) (pos 1) (pos 5)) ∷ []) ((port (negsuc 0) (pos 1) (pos 5)) ∷ []) 0 0 (true ∷ true ∷ []))
passes131 = refl

passes132 : Passes (codes "DEMUX") (fields (negsuc 0 ∷ []) [] (pos 5 ∷ []) (negsuc 0 ∷ negsuc 0 ∷ []) [] (pos 5 ∷ pos 5 ∷ []) 0 0 [] [] [] (all true false)) (block Demux [] [] [] ((port (negsuc 0) (pos 1) (pos 5)) ∷ []) ((port (negsuc 0) (pos 1) (pos 5)) ∷ (port (negsuc 0) (pos 1) (pos 5)) ∷ []) 0 0 (true ∷ []))
passes132 = refl

passes133 : Passes (codes "EXTRACTOR") (fields (negsuc 0 ∷ []) [] (pos 5 ∷ []) (negsuc 0 ∷ []) [] (pos 5 ∷ []) 0 0 [] (pos 2 ∷ pos 1 ∷ []) [] (all true false)) (block Extractor (pos 2 ∷ pos 1 ∷ []) [] [] ((port (negsuc 0) (pos 1) (pos 5)) ∷ []) ((port (negsuc 0) (pos 1) (pos 5)) ∷ []) 0 0 (true ∷ []))
passes133 = refl

passes134 : Passes (codes "LOGICAL_OP") (fields (negsuc 0 ∷ negsuc 0 ∷ []) [] (pos 5 ∷ pos 5 ∷ []) (negsuc 0 ∷ []) [] (pos 5 ∷ []) 0 0 [] (pos 0 ∷ pos 0 ∷ []) [] (all true false)) (block LogicalOp (pos 0 ∷ pos 0 ∷ []) [] [] ((port (negsuc 0) (pos 1) (pos 5)) ∷ (port (negsuc 0) (pos 1) (pos 5)) ∷ []) ((port (negsuc 0) (pos 1) (pos 5)) ∷ []) 0 0 (true ∷ true ∷ []))
passes134 = refl

passes135 : Passes (codes "RELATIONALOP") (fields (negsuc 0 ∷ negsuc 0 ∷ []) [] (pos 5 ∷ pos 5 ∷ []) (negsuc 0 ∷ []) [] (pos 5 ∷ []) 0 0 [] (pos 0 ∷ []) [] (all true false)) (block RelationalOp (pos 0 ∷ []) [] [] ((port (negsuc 0) (pos 1) (pos 5)) ∷ (port (negsuc 0) (pos 1) (pos 5)) ∷ []) ((port (negsuc 0) (pos 1) (pos 5)) ∷ []) 0 0 (true ∷ true ∷ []))
passes135 = refl

passes136 : Passes (codes "SHIFT") (fields (negsuc 0 ∷ []) [] (pos 5 ∷ []) (negsuc 0 ∷ []) [] (pos 5 ∷ []) 0 0 [] (pos 3 ∷ pos 0 ∷ []) [] (all true false)) (block Shift (pos 3 ∷ pos 0 ∷ []) [] [] ((port (negsuc 0) (pos 1) (pos 5)) ∷ []) ((port (negsuc 0) (pos 1) (pos 5)) ∷ []) 0 0 (true ∷ []))
passes136 = refl

passes137 : Passes (codes "BITSET") (fields (negsuc 0 ∷ []) [] (pos 5 ∷ []) (negsuc 0 ∷ []) [] (pos 5 ∷ []) 0 0 [] (pos 3 ∷ []) [] (all true false)) (block BitSet (pos 3 ∷ []) [] [] ((port (negsuc 0) (pos 1) (pos 5)) ∷ []) ((port (negsuc 0) (pos 1) (pos 5)) ∷ []) 0 0 (true ∷ []))
passes137 = refl

passes138 : Passes (codes "BITCLEAR") (fields (negsuc 0 ∷ []) [] (pos 5 ∷ []) (negsuc 0 ∷ []) [] (pos 5 ∷ []) 0 0 [] (pos 3 ∷ []) [] (all true false)) (block BitClear (pos 3 ∷ []) [] [] ((port (negsuc 0) (pos 1) (pos 5)) ∷ []) ((port (negsuc 0) (pos 1) (pos 5)) ∷ []) 0 0 (true ∷ []))
passes138 = refl

passes139 : Passes (codes "EXTRACTBITS") (fields (negsuc 0 ∷ []) [] (pos 5 ∷ []) (negsuc 0 ∷ []) [] (pos 5 ∷ []) 0 0 [] (pos 1 ∷ pos 3 ∷ []) [] (all true false)) (block ExtractBits (pos 1 ∷ pos 3 ∷ []) [] [] ((port (negsuc 0) (pos 1) (pos 5)) ∷ []) ((port (negsuc 0) (pos 1) (pos 5)) ∷ []) 0 0 (true ∷ []))
passes139 = refl

passes140 : Passes (codes "SWITCH2_m") (fields (negsuc 0 ∷ negsuc 0 ∷ negsuc 0 ∷ []) [] (pos 5 ∷ pos 5 ∷ pos 5 ∷ []) (negsuc 0 ∷ []) [] (pos 5 ∷ []) 0 0 [] (pos 0 ∷ pos 0 ∷ []) [] (all true false)) (block Switch2 (pos 0 ∷ pos 0 ∷ []) [] [] ((port (negsuc 0) (pos 1) (pos 5)) ∷ (port (negsuc 0) (pos 1) (pos 5)) ∷ (port (negsuc 0) (pos 1) (pos 5)) ∷ []) ((port (negsuc 0) (pos 1) (pos 5)) ∷ []) 0 0 (true ∷ true ∷ true ∷ []))
passes140 = refl

passes141 : Passes (codes "SELECT_m") (fields (negsuc 0 ∷ negsuc 0 ∷ negsuc 0 ∷ []) [] (pos 5 ∷ pos 5 ∷ pos 5 ∷ []) (negsuc 0 ∷ []) [] (pos 5 ∷ []) 3 0 [] [] [] (all true false)) (block Select [] [] [] ((port (negsuc 0) (pos 1) (pos 5)) ∷ (port (negsuc 0) (pos 1) (pos 5)) ∷ (port (negsuc 0) (pos 1) (pos 5)) ∷ []) ((port (negsuc 0) (pos 1) (pos 5)) ∷ []) 3 0 (true ∷ true ∷ true ∷ []))
passes141 = refl

passes142 : Passes (codes "LOGIC") (fields (negsuc 0 ∷ negsuc 0 ∷ []) [] (pos 5 ∷ pos 5 ∷ []) (negsuc 0 ∷ []) [] (pos 5 ∷ []) 0 0 [] (pos 0 ∷ pos 0 ∷ pos 0 ∷ pos 1 ∷ []) [] (all true false)) (block Logic (pos 0 ∷ pos 0 ∷ pos 0 ∷ pos 1 ∷ []) [] [] ((port (negsuc 0) (pos 1) (pos 5)) ∷ (port (negsuc 0) (pos 1) (pos 5)) ∷ []) ((port (negsuc 0) (pos 1) (pos 5)) ∷ []) 0 0 (true ∷ true ∷ []))
passes142 = refl

passes143 : Passes (codes "ANDLOG_f") (fields [] [] [] (negsuc 0 ∷ []) [] (pos 5 ∷ []) 2 0 [] [] [] (all true false)) (block AndLog [] [] [] [] ((port (negsuc 0) (pos 1) (pos 5)) ∷ []) 2 0 [])
passes143 = refl

passes144 : Passes (codes "ANDLOG_f") (fields [] [] [] (negsuc 0 ∷ []) [] (pos 5 ∷ []) 2 0 [] [] [] (all false false)) (block AndLog [] [] [] [] ((port (negsuc 0) (pos 1) (pos 5)) ∷ []) 2 0 [])
passes144 = refl

passes145 : Passes (codes "DOLLAR_m") (fields (negsuc 0 ∷ []) [] (pos 5 ∷ []) (negsuc 0 ∷ []) [] (pos 5 ∷ []) 1 0 (pos 0 ∷ []) [] [] (all true false)) (block Dollar [] (pos 0 ∷ []) [] ((port (negsuc 0) (pos 1) (pos 5)) ∷ []) ((port (negsuc 0) (pos 1) (pos 5)) ∷ []) 1 0 (true ∷ []))
passes145 = refl

passes146 : Passes (codes "DOLLAR_m") (fields (negsuc 0 ∷ []) [] (pos 5 ∷ []) (negsuc 0 ∷ []) [] (pos 5 ∷ []) 1 0 (pos 0 ∷ []) [] [] (all false false)) (block Dollar [] (pos 0 ∷ []) [] ((port (negsuc 0) (pos 1) (pos 5)) ∷ []) ((port (negsuc 0) (pos 1) (pos 5)) ∷ []) 1 0 (false ∷ []))
passes146 = refl

passes147 : Passes (codes "SAMPHOLD_m") (fields (negsuc 0 ∷ []) [] (pos 5 ∷ []) (negsuc 0 ∷ []) [] (pos 5 ∷ []) 1 0 [] [] [] (all true false)) (block SampHold [] [] [] ((port (negsuc 0) (pos 1) (pos 5)) ∷ []) ((port (negsuc 0) (pos 1) (pos 5)) ∷ []) 1 0 (true ∷ []))
passes147 = refl

passes148 : Passes (codes "REGISTER") (fields (negsuc 0 ∷ []) [] (pos 5 ∷ []) (negsuc 0 ∷ []) [] (pos 5 ∷ []) 1 0 (pos 0 ∷ pos 0 ∷ []) [] [] (all true false)) (block Register [] (pos 0 ∷ pos 0 ∷ []) [] ((port (negsuc 0) (pos 1) (pos 5)) ∷ []) ((port (negsuc 0) (pos 1) (pos 5)) ∷ []) 1 0 (true ∷ []))
passes148 = refl

passes149 : Passes (codes "REGISTER") (fields (negsuc 0 ∷ []) [] (pos 5 ∷ []) (negsuc 0 ∷ []) [] (pos 5 ∷ []) 1 0 (pos 0 ∷ pos 0 ∷ []) [] [] (all false false)) (block Register [] (pos 0 ∷ pos 0 ∷ []) [] ((port (negsuc 0) (pos 1) (pos 5)) ∷ []) ((port (negsuc 0) (pos 1) (pos 5)) ∷ []) 1 0 (false ∷ []))
passes149 = refl

passes150 : Passes (codes "Modulo_Count") (fields [] [] [] (negsuc 0 ∷ []) [] (pos 5 ∷ []) 1 0 (pos 0 ∷ []) (pos 10 ∷ []) [] (all true false)) (block ModuloCount (pos 10 ∷ []) (pos 0 ∷ []) [] [] ((port (negsuc 0) (pos 1) (pos 5)) ∷ []) 1 0 [])
passes150 = refl

passes151 : Passes (codes "Modulo_Count") (fields [] [] [] (negsuc 0 ∷ []) [] (pos 5 ∷ []) 1 0 (pos 0 ∷ []) (pos 10 ∷ []) [] (all false false)) (block ModuloCount (pos 10 ∷ []) (pos 0 ∷ []) [] [] ((port (negsuc 0) (pos 1) (pos 5)) ∷ []) 1 0 [])
passes151 = refl

passes152 : Passes (codes "GATED_DELAY") (fields (negsuc 0 ∷ negsuc 0 ∷ []) [] (pos 5 ∷ pos 5 ∷ []) (negsuc 0 ∷ []) [] (pos 5 ∷ []) 1 0 (pos 0 ∷ []) [] [] (all true false)) (block GatedDelay [] (pos 0 ∷ []) [] ((port (negsuc 0) (pos 1) (pos 5)) ∷ (port (negsuc 0) (pos 1) (pos 5)) ∷ []) ((port (negsuc 0) (pos 1) (pos 5)) ∷ []) 1 0 (true ∷ true ∷ []))
passes152 = refl

passes153 : Passes (codes "SENSOR") (fields [] [] [] (negsuc 0 ∷ []) [] (pos 5 ∷ []) 1 0 [] (pos 1 ∷ []) [] (all true false)) (block Sensor (pos 1 ∷ []) [] [] [] ((port (negsuc 0) (pos 1) (pos 5)) ∷ []) 1 0 [])
passes153 = refl

passes154 : Passes (codes "SENSOR") (fields [] [] [] (negsuc 0 ∷ []) [] (pos 5 ∷ []) 1 0 [] (pos 1 ∷ []) [] (all false false)) (block Sensor (pos 1 ∷ []) [] [] [] ((port (negsuc 0) (pos 1) (pos 5)) ∷ []) 1 0 [])
passes154 = refl

passes155 : Passes (codes "EVTDLY_c") (fields [] [] [] [] [] [] 1 1 [] (pos 5 ∷ []) (pos 0 ∷ []) (all true false)) (block EvtDly (pos 5 ∷ []) [] (pos 0 ∷ []) [] [] 1 1 [])
passes155 = refl

passes156 : Passes (codes "EVTDLY_c") (fields [] [] [] [] [] [] 1 1 [] (pos 5 ∷ []) (pos 0 ∷ []) (all false false)) (block EvtDly (pos 5 ∷ []) [] (pos 0 ∷ []) [] [] 1 1 [])
passes156 = refl

passes157 : Passes (codes "EVTVARDLY") (fields (negsuc 0 ∷ []) [] (pos 5 ∷ []) [] [] [] 1 1 [] [] (negsuc 0 ∷ []) (all true false)) (block EvtVarDly [] [] (negsuc 0 ∷ []) ((port (negsuc 0) (pos 1) (pos 5)) ∷ []) [] 1 1 (true ∷ []))
passes157 = refl

passes158 : Passes (codes "EVTVARDLY") (fields (negsuc 0 ∷ []) [] (pos 5 ∷ []) [] [] [] 1 1 [] [] (negsuc 0 ∷ []) (all false false)) (block EvtVarDly [] [] (negsuc 0 ∷ []) ((port (negsuc 0) (pos 1) (pos 5)) ∷ []) [] 1 1 (false ∷ []))
passes158 = refl

passes159 : Passes (codes "IFTHEL_f") (fields (negsuc 0 ∷ []) [] (pos 5 ∷ []) [] [] [] 0 2 [] [] [] (all true false)) (block IfThEl [] [] [] ((port (negsuc 0) (pos 1) (pos 5)) ∷ []) [] 0 2 (true ∷ []))
passes159 = refl

passes160 : Passes (codes "ESELECT_f") (fields (negsuc 0 ∷ []) [] (pos 5 ∷ []) [] [] [] 0 3 [] [] [] (all true false)) (block ESelect [] [] [] ((port (negsuc 0) (pos 1) (pos 5)) ∷ []) [] 0 3 (true ∷ []))
passes160 = refl

passes161 : Passes (codes "HALT_f") (fields [] [] [] [] [] [] 1 0 [] [] [] (all true false)) (block Halt [] [] [] [] [] 1 0 [])
passes161 = refl

passes162 : Passes (codes "HALT_f") (fields [] [] [] [] [] [] 1 0 [] [] [] (all false false)) (block Halt [] [] [] [] [] 1 0 [])
passes162 = refl

passes163 : Passes (codes "CONST_m") (fields [] [] [] (negsuc 0 ∷ []) [] (pos 5 ∷ []) 0 0 [] (pos 7 ∷ []) [] (each [] false)) (block Const (pos 7 ∷ []) [] [] [] ((port (negsuc 0) (pos 1) (pos 5)) ∷ []) 0 0 [])
passes163 = refl

passes164 : Passes (codes "CONST_m") (fields [] [] [] (negsuc 0 ∷ []) [] (pos 5 ∷ []) 0 0 [] (pos 7 ∷ []) [] (each [] false)) (block Const (pos 7 ∷ []) [] [] [] ((port (negsuc 0) (pos 1) (pos 5)) ∷ []) 0 0 [])
passes164 = refl

passes165 : Passes (codes "SUMMATION") (fields (negsuc 0 ∷ negsuc 0 ∷ []) [] (pos 5 ∷ pos 5 ∷ []) (negsuc 0 ∷ []) [] (pos 5 ∷ []) 0 0 [] (pos 0 ∷ pos 1 ∷ negsuc 0 ∷ []) [] (each (true ∷ true ∷ []) false)) (block Summation (pos 0 ∷ pos 1 ∷ negsuc 0 ∷ []) [] [] ((port (negsuc 0) (pos 1) (pos 5)) ∷ (port (negsuc 0) (pos 1) (pos 5)) ∷ []) ((port (negsuc 0) (pos 1) (pos 5)) ∷ []) 0 0 (true ∷ true ∷ []))
passes165 = refl

passes166 : Passes (codes "GAINBLK") (fields (negsuc 0 ∷ []) [] (pos 5 ∷ []) (negsuc 0 ∷ []) [] (pos 5 ∷ []) 0 0 [] (pos 0 ∷ pos 3 ∷ []) [] (each (true ∷ []) false)) (block GainBlk (pos 0 ∷ pos 3 ∷ []) [] [] ((port (negsuc 0) (pos 1) (pos 5)) ∷ []) ((port (negsuc 0) (pos 1) (pos 5)) ∷ []) 0 0 (true ∷ []))
passes166 = refl

passes167 : Passes (codes "PRODUCT") (fields (negsuc 0 ∷ negsuc 0 ∷ []) [] (pos 5 ∷ pos 5 ∷ []) (negsuc 0 ∷ []) [] (pos 5 ∷ []) 0 0 [] (pos 0 ∷ pos 1 ∷ []) [] (each (true ∷ true ∷ []) false)) (block Product (pos 0 ∷ pos 1 ∷ []) [] [] ((port (negsuc 0) (pos 1) (pos 5)) ∷ (port (negsuc 0) (pos 1) (pos 5)) ∷ []) ((port (negsuc 0) (pos 1) (pos 5)) ∷ []) 0 0 (true ∷ true ∷ []))
passes167 = refl

passes168 : Passes (codes "ABS_VALUE") (fields (negsuc 0 ∷ []) [] (pos 5 ∷ []) (negsuc 0 ∷ []) [] (pos 5 ∷ []) 0 0 [] (pos 0 ∷ []) [] (each (true ∷ []) false)) (block AbsValue (pos 0 ∷ []) [] [] ((port (negsuc 0) (pos 1) (pos 5)) ∷ []) ((port (negsuc 0) (pos 1) (pos 5)) ∷ []) 0 0 (true ∷ []))
passes168 = refl

passes169 : Passes (codes "SIGNUM") (fields (negsuc 0 ∷ []) [] (pos 5 ∷ []) (negsuc 0 ∷ []) [] (pos 5 ∷ []) 0 0 [] [] [] (each (true ∷ []) false)) (block Signum [] [] [] ((port (negsuc 0) (pos 1) (pos 5)) ∷ []) ((port (negsuc 0) (pos 1) (pos 5)) ∷ []) 0 0 (true ∷ []))
passes169 = refl

passes170 : Passes (codes "MAXMIN") (fields (negsuc 0 ∷ negsuc 0 ∷ []) [] (pos 5 ∷ pos 5 ∷ []) (negsuc 0 ∷ []) [] (pos 5 ∷ []) 0 0 [] (pos 1 ∷ []) [] (each (true ∷ true ∷ []) false)) (block MaxMin (pos 1 ∷ []) [] [] ((port (negsuc 0) (pos 1) (pos 5)) ∷ (port (negsuc 0) (pos 1) (pos 5)) ∷ []) ((port (negsuc 0) (pos 1) (pos 5)) ∷ []) 0 0 (true ∷ true ∷ []))
passes170 = refl

passes171 : Passes (codes "SATURATION") (fields (negsuc 0 ∷ []) [] (pos 5 ∷ []) (negsuc 0 ∷ []) [] (pos 5 ∷ []) 0 0 [] (negsuc 4 ∷ pos 5 ∷ []) [] (each (true ∷ []) false)) (block Saturation (negsuc 4 ∷ pos 5 ∷ []) [] [] ((port (negsuc 0) (pos 1) (pos 5)) ∷ []) ((port (negsuc 0) (pos 1) (pos 5)) ∷ []) 0 0 (true ∷ []))
passes171 = refl

passes172 : Passes (codes "DEADBAND") (fields (negsuc 0 ∷ []) [] (pos 5 ∷ []) (negsuc 0 ∷ []) [] (pos 5 ∷ []) 0 0 [] (pos 0 ∷ negsuc 4 ∷ pos 5 ∷ []) [] (each (true ∷ []) false)) (block DeadBand (pos 0 ∷ negsuc 4 ∷ pos 5 ∷ []) [] [] ((port (negsuc 0) (pos 1) (pos 5)) ∷ []) ((port (negsuc 0) (pos 1) (pos 5)) ∷ []) 0 0 (true ∷ []))
passes172 = refl

passes173 : Passes (codes "CONVERT") (fields (negsuc 0 ∷ []) [] (pos 5 ∷ []) (negsuc 0 ∷ []) [] (pos 5 ∷ []) 0 0 [] (pos 0 ∷ []) [] (each (true ∷ []) false)) (block Convert (pos 0 ∷ []) [] [] ((port (negsuc 0) (pos 1) (pos 5)) ∷ []) ((port (negsuc 0) (pos 1) (pos 5)) ∷ []) 0 0 (true ∷ []))
passes173 = refl

passes174 : Passes (codes "MUX") (fields (negsuc 0 ∷ negsuc 0 ∷ []) [] (pos 5 ∷ pos 5 ∷ []) (negsuc 0 ∷ []) [] (pos 5 ∷ []) 0 0 [] [] [] (each (true ∷ true ∷ []) false)) (block Mux [] [] [] ((port (negsuc 0) (pos 1) (pos 5)) ∷ (port (negsuc 0) (pos 1) (pos 5)) ∷ []) ((port (negsuc 0) (pos 1) (pos 5)) ∷ []) 0 0 (true ∷ true ∷ []))
passes174 = refl

passes175 : Passes (codes "DEMUX") (fields (negsuc 0 ∷ []) [] (pos 5 ∷ []) (negsuc 0 ∷ negsuc 0 ∷ []) [] (pos 5 ∷ pos 5 ∷ []) 0 0 [] [] [] (each (true ∷ []) false)) (block Demux [] [] [] ((port (negsuc 0) (pos 1) (pos 5)) ∷ []) ((port (negsuc 0) (pos 1) (pos 5)) ∷ (port (negsuc 0) (pos 1) (pos 5)) ∷ []) 0 0 (true ∷ []))
passes175 = refl

passes176 : Passes (codes "EXTRACTOR") (fields (negsuc 0 ∷ []) [] (pos 5 ∷ []) (negsuc 0 ∷ []) [] (pos 5 ∷ []) 0 0 [] (pos 2 ∷ pos 1 ∷ []) [] (each (true ∷ []) false)) (block Extractor (pos 2 ∷ pos 1 ∷ []) [] [] ((port (negsuc 0) (pos 1) (pos 5)) ∷ []) ((port (negsuc 0) (pos 1) (pos 5)) ∷ []) 0 0 (true ∷ []))
passes176 = refl

passes177 : Passes (codes "LOGICAL_OP") (fields (negsuc 0 ∷ negsuc 0 ∷ []) [] (pos 5 ∷ pos 5 ∷ []) (negsuc 0 ∷ []) [] (pos 5 ∷ []) 0 0 [] (pos 0 ∷ pos 0 ∷ []) [] (each (true ∷ true ∷ []) false)) (block LogicalOp (pos 0 ∷ pos 0 ∷ []) [] [] ((port (negsuc 0) (pos 1) (pos 5)) ∷ (port (negsuc 0) (pos 1) (pos 5)) ∷ []) ((port (negsuc 0) (pos 1) (pos 5)) ∷ []) 0 0 (true ∷ true ∷ []))
passes177 = refl

passes178 : Passes (codes "RELATIONALOP") (fields (negsuc 0 ∷ negsuc 0 ∷ []) [] (pos 5 ∷ pos 5 ∷ []) (negsuc 0 ∷ []) [] (pos 5 ∷ []) 0 0 [] (pos 0 ∷ []) [] (each (true ∷ true ∷ []) false)) (block RelationalOp (pos 0 ∷ []) [] [] ((port (negsuc 0) (pos 1) (pos 5)) ∷ (port (negsuc 0) (pos 1) (pos 5)) ∷ []) ((port (negsuc 0) (pos 1) (pos 5)) ∷ []) 0 0 (true ∷ true ∷ []))
passes178 = refl

passes179 : Passes (codes "SHIFT") (fields (negsuc 0 ∷ []) [] (pos 5 ∷ []) (negsuc 0 ∷ []) [] (pos 5 ∷ []) 0 0 [] (pos 3 ∷ pos 0 ∷ []) [] (each (true ∷ []) false)) (block Shift (pos 3 ∷ pos 0 ∷ []) [] [] ((port (negsuc 0) (pos 1) (pos 5)) ∷ []) ((port (negsuc 0) (pos 1) (pos 5)) ∷ []) 0 0 (true ∷ []))
passes179 = refl

passes180 : Passes (codes "BITSET") (fields (negsuc 0 ∷ []) [] (pos 5 ∷ []) (negsuc 0 ∷ []) [] (pos 5 ∷ []) 0 0 [] (pos 3 ∷ []) [] (each (true ∷ []) false)) (block BitSet (pos 3 ∷ []) [] [] ((port (negsuc 0) (pos 1) (pos 5)) ∷ []) ((port (negsuc 0) (pos 1) (pos 5)) ∷ []) 0 0 (true ∷ []))
passes180 = refl

passes181 : Passes (codes "BITCLEAR") (fields (negsuc 0 ∷ []) [] (pos 5 ∷ []) (negsuc 0 ∷ []) [] (pos 5 ∷ []) 0 0 [] (pos 3 ∷ []) [] (each (true ∷ []) false)) (block BitClear (pos 3 ∷ []) [] [] ((port (negsuc 0) (pos 1) (pos 5)) ∷ []) ((port (negsuc 0) (pos 1) (pos 5)) ∷ []) 0 0 (true ∷ []))
passes181 = refl

passes182 : Passes (codes "EXTRACTBITS") (fields (negsuc 0 ∷ []) [] (pos 5 ∷ []) (negsuc 0 ∷ []) [] (pos 5 ∷ []) 0 0 [] (pos 1 ∷ pos 3 ∷ []) [] (each (true ∷ []) false)) (block ExtractBits (pos 1 ∷ pos 3 ∷ []) [] [] ((port (negsuc 0) (pos 1) (pos 5)) ∷ []) ((port (negsuc 0) (pos 1) (pos 5)) ∷ []) 0 0 (true ∷ []))
passes182 = refl

passes183 : Passes (codes "SWITCH2_m") (fields (negsuc 0 ∷ negsuc 0 ∷ negsuc 0 ∷ []) [] (pos 5 ∷ pos 5 ∷ pos 5 ∷ []) (negsuc 0 ∷ []) [] (pos 5 ∷ []) 0 0 [] (pos 0 ∷ pos 0 ∷ []) [] (each (true ∷ true ∷ true ∷ []) false)) (block Switch2 (pos 0 ∷ pos 0 ∷ []) [] [] ((port (negsuc 0) (pos 1) (pos 5)) ∷ (port (negsuc 0) (pos 1) (pos 5)) ∷ (port (negsuc 0) (pos 1) (pos 5)) ∷ []) ((port (negsuc 0) (pos 1) (pos 5)) ∷ []) 0 0 (true ∷ true ∷ true ∷ []))
passes183 = refl

passes184 : Passes (codes "SELECT_m") (fields (negsuc 0 ∷ negsuc 0 ∷ negsuc 0 ∷ []) [] (pos 5 ∷ pos 5 ∷ pos 5 ∷ []) (negsuc 0 ∷ []) [] (pos 5 ∷ []) 3 0 [] [] [] (each (true ∷ true ∷ true ∷ []) false)) (block Select [] [] [] ((port (negsuc 0) (pos 1) (pos 5)) ∷ (port (negsuc 0) (pos 1) (pos 5)) ∷ (port (negsuc 0) (pos 1) (pos 5)) ∷ []) ((port (negsuc 0) (pos 1) (pos 5)) ∷ []) 3 0 (true ∷ true ∷ true ∷ []))
passes184 = refl

passes185 : Passes (codes "LOGIC") (fields (negsuc 0 ∷ negsuc 0 ∷ []) [] (pos 5 ∷ pos 5 ∷ []) (negsuc 0 ∷ []) [] (pos 5 ∷ []) 0 0 [] (pos 0 ∷ pos 0 ∷ pos 0 ∷ pos 1 ∷ []) [] (each (true ∷ true ∷ []) false)) (block Logic (pos 0 ∷ pos 0 ∷ pos 0 ∷ pos 1 ∷ []) [] [] ((port (negsuc 0) (pos 1) (pos 5)) ∷ (port (negsuc 0) (pos 1) (pos 5)) ∷ []) ((port (negsuc 0) (pos 1) (pos 5)) ∷ []) 0 0 (true ∷ true ∷ []))
passes185 = refl

passes186 : Passes (codes "ANDLOG_f") (fields [] [] [] (negsuc 0 ∷ []) [] (pos 5 ∷ []) 2 0 [] [] [] (each [] false)) (block AndLog [] [] [] [] ((port (negsuc 0) (pos 1) (pos 5)) ∷ []) 2 0 [])
passes186 = refl

passes187 : Passes (codes "ANDLOG_f") (fields [] [] [] (negsuc 0 ∷ []) [] (pos 5 ∷ []) 2 0 [] [] [] (each [] false)) (block AndLog [] [] [] [] ((port (negsuc 0) (pos 1) (pos 5)) ∷ []) 2 0 [])
passes187 = refl

passes188 : Passes (codes "DOLLAR_m") (fields (negsuc 0 ∷ []) [] (pos 5 ∷ []) (negsuc 0 ∷ []) [] (pos 5 ∷ []) 1 0 (pos 0 ∷ []) [] [] (each (true ∷ []) false)) (block Dollar [] (pos 0 ∷ []) [] ((port (negsuc 0) (pos 1) (pos 5)) ∷ []) ((port (negsuc 0) (pos 1) (pos 5)) ∷ []) 1 0 (true ∷ []))
passes188 = refl

passes189 : Passes (codes "DOLLAR_m") (fields (negsuc 0 ∷ []) [] (pos 5 ∷ []) (negsuc 0 ∷ []) [] (pos 5 ∷ []) 1 0 (pos 0 ∷ []) [] [] (each (false ∷ []) false)) (block Dollar [] (pos 0 ∷ []) [] ((port (negsuc 0) (pos 1) (pos 5)) ∷ []) ((port (negsuc 0) (pos 1) (pos 5)) ∷ []) 1 0 (false ∷ []))
passes189 = refl

passes190 : Passes (codes "SAMPHOLD_m") (fields (negsuc 0 ∷ []) [] (pos 5 ∷ []) (negsuc 0 ∷ []) [] (pos 5 ∷ []) 1 0 [] [] [] (each (true ∷ []) false)) (block SampHold [] [] [] ((port (negsuc 0) (pos 1) (pos 5)) ∷ []) ((port (negsuc 0) (pos 1) (pos 5)) ∷ []) 1 0 (true ∷ []))
passes190 = refl

passes191 : Passes (codes "REGISTER") (fields (negsuc 0 ∷ []) [] (pos 5 ∷ []) (negsuc 0 ∷ []) [] (pos 5 ∷ []) 1 0 (pos 0 ∷ pos 0 ∷ []) [] [] (each (true ∷ []) false)) (block Register [] (pos 0 ∷ pos 0 ∷ []) [] ((port (negsuc 0) (pos 1) (pos 5)) ∷ []) ((port (negsuc 0) (pos 1) (pos 5)) ∷ []) 1 0 (true ∷ []))
passes191 = refl

passes192 : Passes (codes "REGISTER") (fields (negsuc 0 ∷ []) [] (pos 5 ∷ []) (negsuc 0 ∷ []) [] (pos 5 ∷ []) 1 0 (pos 0 ∷ pos 0 ∷ []) [] [] (each (false ∷ []) false)) (block Register [] (pos 0 ∷ pos 0 ∷ []) [] ((port (negsuc 0) (pos 1) (pos 5)) ∷ []) ((port (negsuc 0) (pos 1) (pos 5)) ∷ []) 1 0 (false ∷ []))
passes192 = refl

passes193 : Passes (codes "Modulo_Count") (fields [] [] [] (negsuc 0 ∷ []) [] (pos 5 ∷ []) 1 0 (pos 0 ∷ []) (pos 10 ∷ []) [] (each [] false)) (block ModuloCount (pos 10 ∷ []) (pos 0 ∷ []) [] [] ((port (negsuc 0) (pos 1) (pos 5)) ∷ []) 1 0 [])
passes193 = refl

passes194 : Passes (codes "Modulo_Count") (fields [] [] [] (negsuc 0 ∷ []) [] (pos 5 ∷ []) 1 0 (pos 0 ∷ []) (pos 10 ∷ []) [] (each [] false)) (block ModuloCount (pos 10 ∷ []) (pos 0 ∷ []) [] [] ((port (negsuc 0) (pos 1) (pos 5)) ∷ []) 1 0 [])
passes194 = refl

passes195 : Passes (codes "GATED_DELAY") (fields (negsuc 0 ∷ negsuc 0 ∷ []) [] (pos 5 ∷ pos 5 ∷ []) (negsuc 0 ∷ []) [] (pos 5 ∷ []) 1 0 (pos 0 ∷ []) [] [] (each (true ∷ true ∷ []) false)) (block GatedDelay [] (pos 0 ∷ []) [] ((port (negsuc 0) (pos 1) (pos 5)) ∷ (port (negsuc 0) (pos 1) (pos 5)) ∷ []) ((port (negsuc 0) (pos 1) (pos 5)) ∷ []) 1 0 (true ∷ true ∷ []))
passes195 = refl

passes196 : Passes (codes "SENSOR") (fields [] [] [] (negsuc 0 ∷ []) [] (pos 5 ∷ []) 1 0 [] (pos 1 ∷ []) [] (each [] false)) (block Sensor (pos 1 ∷ []) [] [] [] ((port (negsuc 0) (pos 1) (pos 5)) ∷ []) 1 0 [])
passes196 = refl

passes197 : Passes (codes "SENSOR") (fields [] [] [] (negsuc 0 ∷ []) [] (pos 5 ∷ []) 1 0 [] (pos 1 ∷ []) [] (each [] false)) (block Sensor (pos 1 ∷ []) [] [] [] ((port (negsuc 0) (pos 1) (pos 5)) ∷ []) 1 0 [])
passes197 = refl

passes198 : Passes (codes "EVTDLY_c") (fields [] [] [] [] [] [] 1 1 [] (pos 5 ∷ []) (pos 0 ∷ []) (each [] false)) (block EvtDly (pos 5 ∷ []) [] (pos 0 ∷ []) [] [] 1 1 [])
passes198 = refl

passes199 : Passes (codes "EVTDLY_c") (fields [] [] [] [] [] [] 1 1 [] (pos 5 ∷ []) (pos 0 ∷ []) (each [] false)) (block EvtDly (pos 5 ∷ []) [] (pos 0 ∷ []) [] [] 1 1 [])
passes199 = refl

passes200 : Passes (codes "EVTVARDLY") (fields (negsuc 0 ∷ []) [] (pos 5 ∷ []) [] [] [] 1 1 [] [] (negsuc 0 ∷ []) (each (true ∷ []) false)) (block EvtVarDly [] [] (negsuc 0 ∷ []) ((port (negsuc 0) (pos 1) (pos 5)) ∷ []) [] 1 1 (true ∷ []))
passes200 = refl

passes201 : Passes (codes "EVTVARDLY") (fields (negsuc 0 ∷ []) [] (pos 5 ∷ []) [] [] [] 1 1 [] [] (negsuc 0 ∷ []) (each (false ∷ []) false)) (block EvtVarDly [] [] (negsuc 0 ∷ []) ((port (negsuc 0) (pos 1) (pos 5)) ∷ []) [] 1 1 (false ∷ []))
passes201 = refl

passes202 : Passes (codes "IFTHEL_f") (fields (negsuc 0 ∷ []) [] (pos 5 ∷ []) [] [] [] 0 2 [] [] [] (each (true ∷ []) false)) (block IfThEl [] [] [] ((port (negsuc 0) (pos 1) (pos 5)) ∷ []) [] 0 2 (true ∷ []))
passes202 = refl

passes203 : Passes (codes "ESELECT_f") (fields (negsuc 0 ∷ []) [] (pos 5 ∷ []) [] [] [] 0 3 [] [] [] (each (true ∷ []) false)) (block ESelect [] [] [] ((port (negsuc 0) (pos 1) (pos 5)) ∷ []) [] 0 3 (true ∷ []))
passes203 = refl

passes204 : Passes (codes "HALT_f") (fields [] [] [] [] [] [] 1 0 [] [] [] (each [] false)) (block Halt [] [] [] [] [] 1 0 [])
passes204 = refl

passes205 : Passes (codes "HALT_f") (fields [] [] [] [] [] [] 1 0 [] [] [] (each [] false)) (block Halt [] [] [] [] [] 1 0 [])
passes205 = refl

passes206 : Passes (codes "GATED_DELAY") (fields (negsuc 0 ∷ negsuc 0 ∷ []) [] (pos 5 ∷ pos 5 ∷ []) (negsuc 0 ∷ []) [] (pos 5 ∷ []) 1 0 (pos 0 ∷ []) [] [] (each (false ∷ true ∷ []) false)) (block GatedDelay [] (pos 0 ∷ []) [] ((port (negsuc 0) (pos 1) (pos 5)) ∷ (port (negsuc 0) (pos 1) (pos 5)) ∷ []) ((port (negsuc 0) (pos 1) (pos 5)) ∷ []) 1 0 (false ∷ true ∷ []))
passes206 = refl

passes207 : Passes (codes "LOGICAL_OP") (fields (negsuc 0 ∷ negsuc 0 ∷ negsuc 0 ∷ []) [] (pos 5 ∷ pos 5 ∷ pos 5 ∷ []) (negsuc 0 ∷ []) [] (pos 5 ∷ []) 0 0 [] (pos 0 ∷ pos 0 ∷ []) [] (each (true ∷ true ∷ true ∷ []) false)) (block LogicalOp (pos 0 ∷ pos 0 ∷ []) [] [] ((port (negsuc 0) (pos 1) (pos 5)) ∷ (port (negsuc 0) (pos 1) (pos 5)) ∷ (port (negsuc 0) (pos 1) (pos 5)) ∷ []) ((port (negsuc 0) (pos 1) (pos 5)) ∷ []) 0 0 (true ∷ true ∷ true ∷ []))
passes207 = refl

passes208 : Passes (codes "SUMMATION") (fields (many 64 (negsuc 0)) [] (many 64 (pos 5)) (negsuc 0 ∷ []) [] (pos 5 ∷ []) 0 0 [] (pos 2 ∷ pos 1 ∷ pos 1 ∷ pos 1 ∷ pos 1 ∷ pos 1 ∷ pos 1 ∷ pos 1 ∷ pos 1 ∷ pos 1 ∷ pos 1 ∷ pos 1 ∷ pos 1 ∷ pos 1 ∷ pos 1 ∷ pos 1 ∷ pos 1 ∷ pos 1 ∷ pos 1 ∷ pos 1 ∷ pos 1 ∷ pos 1 ∷ pos 1 ∷ pos 1 ∷ pos 1 ∷ pos 1 ∷ pos 1 ∷ pos 1 ∷ pos 1 ∷ pos 1 ∷ pos 1 ∷ pos 1 ∷ pos 1 ∷ pos 1 ∷ pos 1 ∷ pos 1 ∷ pos 1 ∷ pos 1 ∷ pos 1 ∷ pos 1 ∷ pos 1 ∷ pos 1 ∷ pos 1 ∷ pos 1 ∷ pos 1 ∷ pos 1 ∷ pos 1 ∷ pos 1 ∷ pos 1 ∷ pos 1 ∷ pos 1 ∷ pos 1 ∷ pos 1 ∷ pos 1 ∷ pos 1 ∷ pos 1 ∷ pos 1 ∷ pos 1 ∷ pos 1 ∷ pos 1 ∷ pos 1 ∷ pos 1 ∷ pos 1 ∷ pos 1 ∷ pos 1 ∷ []) [] (each (many 64 true) false)) (block Summation (pos 2 ∷ pos 1 ∷ pos 1 ∷ pos 1 ∷ pos 1 ∷ pos 1 ∷ pos 1 ∷ pos 1 ∷ pos 1 ∷ pos 1 ∷ pos 1 ∷ pos 1 ∷ pos 1 ∷ pos 1 ∷ pos 1 ∷ pos 1 ∷ pos 1 ∷ pos 1 ∷ pos 1 ∷ pos 1 ∷ pos 1 ∷ pos 1 ∷ pos 1 ∷ pos 1 ∷ pos 1 ∷ pos 1 ∷ pos 1 ∷ pos 1 ∷ pos 1 ∷ pos 1 ∷ pos 1 ∷ pos 1 ∷ pos 1 ∷ pos 1 ∷ pos 1 ∷ pos 1 ∷ pos 1 ∷ pos 1 ∷ pos 1 ∷ pos 1 ∷ pos 1 ∷ pos 1 ∷ pos 1 ∷ pos 1 ∷ pos 1 ∷ pos 1 ∷ pos 1 ∷ pos 1 ∷ pos 1 ∷ pos 1 ∷ pos 1 ∷ pos 1 ∷ pos 1 ∷ pos 1 ∷ pos 1 ∷ pos 1 ∷ pos 1 ∷ pos 1 ∷ pos 1 ∷ pos 1 ∷ pos 1 ∷ pos 1 ∷ pos 1 ∷ pos 1 ∷ pos 1 ∷ []) [] [] (many 64 (port (negsuc 0) (pos 1) (pos 5))) ((port (negsuc 0) (pos 1) (pos 5)) ∷ []) 0 0 (many 64 true))
passes208 = refl

passes209 : Passes (codes "CONST_m") (fields [] [] [] (negsuc 0 ∷ []) [] (pos 5 ∷ []) 0 0 [] (pos 1 ∷ pos 2 ∷ pos 3 ∷ []) [] None) (block Const (pos 1 ∷ pos 2 ∷ pos 3 ∷ []) [] [] [] ((port (negsuc 0) (pos 1) (pos 5)) ∷ []) 0 0 [])
passes209 = refl

passes210 : Passes (codes "EXTRACTOR") (fields (negsuc 0 ∷ []) [] (pos 5 ∷ []) (negsuc 0 ∷ []) [] (pos 5 ∷ []) 0 0 [] (many 256 (pos 1)) [] None) (block Extractor (many 256 (pos 1)) [] [] ((port (negsuc 0) (pos 1) (pos 5)) ∷ []) ((port (negsuc 0) (pos 1) (pos 5)) ∷ []) 0 0 (true ∷ []))
passes210 = refl

passes211 : Passes (codes "SUMMATION") (fields (negsuc 0 ∷ negsuc 0 ∷ []) [] (pos 5 ∷ pos 5 ∷ []) (negsuc 0 ∷ []) [] (pos 5 ∷ []) 0 0 [] (pos 0 ∷ pos 1 ∷ negsuc 0 ∷ []) [] None) (block Summation (pos 0 ∷ pos 1 ∷ negsuc 0 ∷ []) [] [] ((port (negsuc 0) (pos 1) (pos 5)) ∷ (port (negsuc 0) (pos 1) (pos 5)) ∷ []) ((port (negsuc 0) (pos 1) (pos 5)) ∷ []) 0 0 (true ∷ true ∷ []))
passes211 = refl

passes212 : Passes (codes "SUMMATION") (fields (negsuc 0 ∷ negsuc 0 ∷ []) [] (pos 5 ∷ pos 5 ∷ []) (negsuc 0 ∷ []) [] (pos 5 ∷ []) 0 0 [] (pos 2 ∷ pos 1 ∷ negsuc 0 ∷ []) [] None) (block Summation (pos 2 ∷ pos 1 ∷ negsuc 0 ∷ []) [] [] ((port (negsuc 0) (pos 1) (pos 5)) ∷ (port (negsuc 0) (pos 1) (pos 5)) ∷ []) ((port (negsuc 0) (pos 1) (pos 5)) ∷ []) 0 0 (true ∷ true ∷ []))
passes212 = refl

passes213 : Passes (codes "GAINBLK") (fields (negsuc 0 ∷ []) [] (pos 5 ∷ []) (negsuc 0 ∷ []) [] (pos 5 ∷ []) 0 0 [] (pos 0 ∷ pos 3 ∷ []) [] None) (block GainBlk (pos 0 ∷ pos 3 ∷ []) [] [] ((port (negsuc 0) (pos 1) (pos 5)) ∷ []) ((port (negsuc 0) (pos 1) (pos 5)) ∷ []) 0 0 (true ∷ []))
passes213 = refl

passes214 : Passes (codes "GAINBLK") (fields (negsuc 0 ∷ []) [] (pos 5 ∷ []) (negsuc 0 ∷ []) [] (pos 5 ∷ []) 0 0 [] (pos 2 ∷ pos 3 ∷ []) [] None) (block GainBlk (pos 2 ∷ pos 3 ∷ []) [] [] ((port (negsuc 0) (pos 1) (pos 5)) ∷ []) ((port (negsuc 0) (pos 1) (pos 5)) ∷ []) 0 0 (true ∷ []))
passes214 = refl

passes215 : Passes (codes "GAINBLK") (fields (negsuc 0 ∷ []) [] (pos 5 ∷ []) (negsuc 0 ∷ []) [] (pos 5 ∷ []) 0 0 [] (pos 0 ∷ pos 9223372036854775807 ∷ []) [] None) (block GainBlk (pos 0 ∷ pos 9223372036854775807 ∷ []) [] [] ((port (negsuc 0) (pos 1) (pos 5)) ∷ []) ((port (negsuc 0) (pos 1) (pos 5)) ∷ []) 0 0 (true ∷ []))
passes215 = refl

passes216 : Passes (codes "PRODUCT") (fields (negsuc 0 ∷ negsuc 0 ∷ []) [] (pos 5 ∷ pos 5 ∷ []) (negsuc 0 ∷ []) [] (pos 5 ∷ []) 0 0 [] (pos 0 ∷ pos 1 ∷ []) [] None) (block Product (pos 0 ∷ pos 1 ∷ []) [] [] ((port (negsuc 0) (pos 1) (pos 5)) ∷ (port (negsuc 0) (pos 1) (pos 5)) ∷ []) ((port (negsuc 0) (pos 1) (pos 5)) ∷ []) 0 0 (true ∷ true ∷ []))
passes216 = refl

passes217 : Passes (codes "PRODUCT") (fields (negsuc 0 ∷ negsuc 0 ∷ []) [] (pos 5 ∷ pos 5 ∷ []) (negsuc 0 ∷ []) [] (pos 5 ∷ []) 0 0 [] (pos 2 ∷ pos 1 ∷ []) [] None) (block Product (pos 2 ∷ pos 1 ∷ []) [] [] ((port (negsuc 0) (pos 1) (pos 5)) ∷ (port (negsuc 0) (pos 1) (pos 5)) ∷ []) ((port (negsuc 0) (pos 1) (pos 5)) ∷ []) 0 0 (true ∷ true ∷ []))
passes217 = refl

passes218 : Passes (codes "PRODUCT") (fields (negsuc 0 ∷ negsuc 0 ∷ []) [] (pos 5 ∷ pos 5 ∷ []) (negsuc 0 ∷ []) [] (pos 5 ∷ []) 0 0 [] (pos 2 ∷ negsuc 0 ∷ []) [] None) (block Product (pos 2 ∷ negsuc 0 ∷ []) [] [] ((port (negsuc 0) (pos 1) (pos 5)) ∷ (port (negsuc 0) (pos 1) (pos 5)) ∷ []) ((port (negsuc 0) (pos 1) (pos 5)) ∷ []) 0 0 (true ∷ true ∷ []))
passes218 = refl

passes219 : Passes (codes "ABS_VALUE") (fields (negsuc 0 ∷ []) [] (pos 5 ∷ []) (negsuc 0 ∷ []) [] (pos 5 ∷ []) 0 0 [] (pos 0 ∷ []) [] None) (block AbsValue (pos 0 ∷ []) [] [] ((port (negsuc 0) (pos 1) (pos 5)) ∷ []) ((port (negsuc 0) (pos 1) (pos 5)) ∷ []) 0 0 (true ∷ []))
passes219 = refl

passes220 : Passes (codes "ABS_VALUE") (fields (negsuc 0 ∷ []) [] (pos 5 ∷ []) (negsuc 0 ∷ []) [] (pos 5 ∷ []) 0 0 [] (pos 2 ∷ []) [] None) (block AbsValue (pos 2 ∷ []) [] [] ((port (negsuc 0) (pos 1) (pos 5)) ∷ []) ((port (negsuc 0) (pos 1) (pos 5)) ∷ []) 0 0 (true ∷ []))
passes220 = refl

passes221 : Passes (codes "MAXMIN") (fields (negsuc 0 ∷ negsuc 0 ∷ []) [] (pos 5 ∷ pos 5 ∷ []) (negsuc 0 ∷ []) [] (pos 5 ∷ []) 0 0 [] (pos 1 ∷ []) [] None) (block MaxMin (pos 1 ∷ []) [] [] ((port (negsuc 0) (pos 1) (pos 5)) ∷ (port (negsuc 0) (pos 1) (pos 5)) ∷ []) ((port (negsuc 0) (pos 1) (pos 5)) ∷ []) 0 0 (true ∷ true ∷ []))
passes221 = refl

passes222 : Passes (codes "MAXMIN") (fields (negsuc 0 ∷ negsuc 0 ∷ []) [] (pos 5 ∷ pos 5 ∷ []) (negsuc 0 ∷ []) [] (pos 5 ∷ []) 0 0 [] (pos 2 ∷ []) [] None) (block MaxMin (pos 2 ∷ []) [] [] ((port (negsuc 0) (pos 1) (pos 5)) ∷ (port (negsuc 0) (pos 1) (pos 5)) ∷ []) ((port (negsuc 0) (pos 1) (pos 5)) ∷ []) 0 0 (true ∷ true ∷ []))
passes222 = refl

passes223 : Passes (codes "SATURATION") (fields (negsuc 0 ∷ []) [] (pos 5 ∷ []) (negsuc 0 ∷ []) [] (pos 5 ∷ []) 0 0 [] (pos 5 ∷ pos 5 ∷ []) [] None) (block Saturation (pos 5 ∷ pos 5 ∷ []) [] [] ((port (negsuc 0) (pos 1) (pos 5)) ∷ []) ((port (negsuc 0) (pos 1) (pos 5)) ∷ []) 0 0 (true ∷ []))
passes223 = refl

passes224 : Passes (codes "DEADBAND") (fields (negsuc 0 ∷ []) [] (pos 5 ∷ []) (negsuc 0 ∷ []) [] (pos 5 ∷ []) 0 0 [] (pos 0 ∷ negsuc 4 ∷ pos 5 ∷ []) [] None) (block DeadBand (pos 0 ∷ negsuc 4 ∷ pos 5 ∷ []) [] [] ((port (negsuc 0) (pos 1) (pos 5)) ∷ []) ((port (negsuc 0) (pos 1) (pos 5)) ∷ []) 0 0 (true ∷ []))
passes224 = refl

passes225 : Passes (codes "DEADBAND") (fields (negsuc 0 ∷ []) [] (pos 5 ∷ []) (negsuc 0 ∷ []) [] (pos 5 ∷ []) 0 0 [] (pos 2 ∷ negsuc 4 ∷ pos 5 ∷ []) [] None) (block DeadBand (pos 2 ∷ negsuc 4 ∷ pos 5 ∷ []) [] [] ((port (negsuc 0) (pos 1) (pos 5)) ∷ []) ((port (negsuc 0) (pos 1) (pos 5)) ∷ []) 0 0 (true ∷ []))
passes225 = refl

passes226 : Passes (codes "DEADBAND") (fields (negsuc 0 ∷ []) [] (pos 5 ∷ []) (negsuc 0 ∷ []) [] (pos 5 ∷ []) 0 0 [] (pos 0 ∷ pos 5 ∷ pos 5 ∷ []) [] None) (block DeadBand (pos 0 ∷ pos 5 ∷ pos 5 ∷ []) [] [] ((port (negsuc 0) (pos 1) (pos 5)) ∷ []) ((port (negsuc 0) (pos 1) (pos 5)) ∷ []) 0 0 (true ∷ []))
passes226 = refl

passes227 : Passes (codes "CONVERT") (fields (negsuc 0 ∷ []) [] (pos 5 ∷ []) (negsuc 0 ∷ []) [] (pos 5 ∷ []) 0 0 [] (pos 0 ∷ []) [] None) (block Convert (pos 0 ∷ []) [] [] ((port (negsuc 0) (pos 1) (pos 5)) ∷ []) ((port (negsuc 0) (pos 1) (pos 5)) ∷ []) 0 0 (true ∷ []))
passes227 = refl

passes228 : Passes (codes "CONVERT") (fields (negsuc 0 ∷ []) [] (pos 5 ∷ []) (negsuc 0 ∷ []) [] (pos 5 ∷ []) 0 0 [] (pos 2 ∷ []) [] None) (block Convert (pos 2 ∷ []) [] [] ((port (negsuc 0) (pos 1) (pos 5)) ∷ []) ((port (negsuc 0) (pos 1) (pos 5)) ∷ []) 0 0 (true ∷ []))
passes228 = refl

passes229 : Passes (codes "EXTRACTOR") (fields (negsuc 0 ∷ []) [] (pos 5 ∷ []) (negsuc 0 ∷ []) [] (pos 5 ∷ []) 0 0 [] (pos 1000000 ∷ []) [] None) (block Extractor (pos 1000000 ∷ []) [] [] ((port (negsuc 0) (pos 1) (pos 5)) ∷ []) ((port (negsuc 0) (pos 1) (pos 5)) ∷ []) 0 0 (true ∷ []))
passes229 = refl

passes230 : Passes (codes "LOGICAL_OP") (fields (negsuc 0 ∷ negsuc 0 ∷ []) [] (pos 5 ∷ pos 5 ∷ []) (negsuc 0 ∷ []) [] (pos 5 ∷ []) 0 0 [] (pos 0 ∷ pos 0 ∷ []) [] None) (block LogicalOp (pos 0 ∷ pos 0 ∷ []) [] [] ((port (negsuc 0) (pos 1) (pos 5)) ∷ (port (negsuc 0) (pos 1) (pos 5)) ∷ []) ((port (negsuc 0) (pos 1) (pos 5)) ∷ []) 0 0 (true ∷ true ∷ []))
passes230 = refl

passes231 : Passes (codes "LOGICAL_OP") (fields (negsuc 0 ∷ negsuc 0 ∷ []) [] (pos 5 ∷ pos 5 ∷ []) (negsuc 0 ∷ []) [] (pos 5 ∷ []) 0 0 [] (pos 4 ∷ pos 0 ∷ []) [] None) (block LogicalOp (pos 4 ∷ pos 0 ∷ []) [] [] ((port (negsuc 0) (pos 1) (pos 5)) ∷ (port (negsuc 0) (pos 1) (pos 5)) ∷ []) ((port (negsuc 0) (pos 1) (pos 5)) ∷ []) 0 0 (true ∷ true ∷ []))
passes231 = refl

passes232 : Passes (codes "LOGICAL_OP") (fields (negsuc 0 ∷ []) [] (pos 5 ∷ []) (negsuc 0 ∷ []) [] (pos 5 ∷ []) 0 0 [] (pos 5 ∷ pos 1 ∷ []) [] None) (block LogicalOp (pos 5 ∷ pos 1 ∷ []) [] [] ((port (negsuc 0) (pos 1) (pos 5)) ∷ []) ((port (negsuc 0) (pos 1) (pos 5)) ∷ []) 0 0 (true ∷ []))
passes232 = refl

passes233 : Passes (codes "LOGICAL_OP") (fields (negsuc 0 ∷ []) [] (pos 5 ∷ []) (negsuc 0 ∷ []) [] (pos 5 ∷ []) 0 0 [] (pos 5 ∷ pos 1 ∷ []) [] None) (block LogicalOp (pos 5 ∷ pos 1 ∷ []) [] [] ((port (negsuc 0) (pos 1) (pos 5)) ∷ []) ((port (negsuc 0) (pos 1) (pos 5)) ∷ []) 0 0 (true ∷ []))
passes233 = refl

passes234 : Passes (codes "LOGICAL_OP") (fields (negsuc 0 ∷ negsuc 0 ∷ []) [] (pos 5 ∷ pos 5 ∷ []) (negsuc 0 ∷ []) [] (pos 5 ∷ []) 0 0 [] (pos 4 ∷ pos 0 ∷ []) [] None) (block LogicalOp (pos 4 ∷ pos 0 ∷ []) [] [] ((port (negsuc 0) (pos 1) (pos 5)) ∷ (port (negsuc 0) (pos 1) (pos 5)) ∷ []) ((port (negsuc 0) (pos 1) (pos 5)) ∷ []) 0 0 (true ∷ true ∷ []))
passes234 = refl

passes235 : Passes (codes "LOGICAL_OP") (fields (negsuc 0 ∷ negsuc 0 ∷ []) [] (pos 5 ∷ pos 5 ∷ []) (negsuc 0 ∷ []) [] (pos 5 ∷ []) 0 0 [] (pos 4 ∷ pos 1 ∷ []) [] None) (block LogicalOp (pos 4 ∷ pos 1 ∷ []) [] [] ((port (negsuc 0) (pos 1) (pos 5)) ∷ (port (negsuc 0) (pos 1) (pos 5)) ∷ []) ((port (negsuc 0) (pos 1) (pos 5)) ∷ []) 0 0 (true ∷ true ∷ []))
passes235 = refl

passes236 : Passes (codes "RELATIONALOP") (fields (negsuc 0 ∷ negsuc 0 ∷ []) [] (pos 5 ∷ pos 5 ∷ []) (negsuc 0 ∷ []) [] (pos 5 ∷ []) 0 0 [] (pos 0 ∷ []) [] None) (block RelationalOp (pos 0 ∷ []) [] [] ((port (negsuc 0) (pos 1) (pos 5)) ∷ (port (negsuc 0) (pos 1) (pos 5)) ∷ []) ((port (negsuc 0) (pos 1) (pos 5)) ∷ []) 0 0 (true ∷ true ∷ []))
passes236 = refl

passes237 : Passes (codes "RELATIONALOP") (fields (negsuc 0 ∷ negsuc 0 ∷ []) [] (pos 5 ∷ pos 5 ∷ []) (negsuc 0 ∷ []) [] (pos 5 ∷ []) 0 0 [] (pos 5 ∷ []) [] None) (block RelationalOp (pos 5 ∷ []) [] [] ((port (negsuc 0) (pos 1) (pos 5)) ∷ (port (negsuc 0) (pos 1) (pos 5)) ∷ []) ((port (negsuc 0) (pos 1) (pos 5)) ∷ []) 0 0 (true ∷ true ∷ []))
passes237 = refl

passes238 : Passes (codes "SHIFT") (fields (negsuc 0 ∷ []) [] (pos 5 ∷ []) (negsuc 0 ∷ []) [] (pos 5 ∷ []) 0 0 [] (negsuc 30 ∷ pos 0 ∷ []) [] None) (block Shift (negsuc 30 ∷ pos 0 ∷ []) [] [] ((port (negsuc 0) (pos 1) (pos 5)) ∷ []) ((port (negsuc 0) (pos 1) (pos 5)) ∷ []) 0 0 (true ∷ []))
passes238 = refl

passes239 : Passes (codes "SHIFT") (fields (negsuc 0 ∷ []) [] (pos 5 ∷ []) (negsuc 0 ∷ []) [] (pos 5 ∷ []) 0 0 [] (pos 31 ∷ pos 0 ∷ []) [] None) (block Shift (pos 31 ∷ pos 0 ∷ []) [] [] ((port (negsuc 0) (pos 1) (pos 5)) ∷ []) ((port (negsuc 0) (pos 1) (pos 5)) ∷ []) 0 0 (true ∷ []))
passes239 = refl

passes240 : Passes (codes "SHIFT") (fields (negsuc 0 ∷ []) [] (pos 5 ∷ []) (negsuc 0 ∷ []) [] (pos 5 ∷ []) 0 0 [] (negsuc 30 ∷ pos 0 ∷ []) [] None) (block Shift (negsuc 30 ∷ pos 0 ∷ []) [] [] ((port (negsuc 0) (pos 1) (pos 5)) ∷ []) ((port (negsuc 0) (pos 1) (pos 5)) ∷ []) 0 0 (true ∷ []))
passes240 = refl

passes241 : Passes (codes "SHIFT") (fields (negsuc 0 ∷ []) [] (pos 5 ∷ []) (negsuc 0 ∷ []) [] (pos 5 ∷ []) 0 0 [] (negsuc 30 ∷ pos 1 ∷ []) [] None) (block Shift (negsuc 30 ∷ pos 1 ∷ []) [] [] ((port (negsuc 0) (pos 1) (pos 5)) ∷ []) ((port (negsuc 0) (pos 1) (pos 5)) ∷ []) 0 0 (true ∷ []))
passes241 = refl

passes242 : Passes (codes "BITSET") (fields (negsuc 0 ∷ []) [] (pos 5 ∷ []) (negsuc 0 ∷ []) [] (pos 5 ∷ []) 0 0 [] (pos 0 ∷ []) [] None) (block BitSet (pos 0 ∷ []) [] [] ((port (negsuc 0) (pos 1) (pos 5)) ∷ []) ((port (negsuc 0) (pos 1) (pos 5)) ∷ []) 0 0 (true ∷ []))
passes242 = refl

passes243 : Passes (codes "BITSET") (fields (negsuc 0 ∷ []) [] (pos 5 ∷ []) (negsuc 0 ∷ []) [] (pos 5 ∷ []) 0 0 [] (pos 31 ∷ []) [] None) (block BitSet (pos 31 ∷ []) [] [] ((port (negsuc 0) (pos 1) (pos 5)) ∷ []) ((port (negsuc 0) (pos 1) (pos 5)) ∷ []) 0 0 (true ∷ []))
passes243 = refl

passes244 : Passes (codes "BITCLEAR") (fields (negsuc 0 ∷ []) [] (pos 5 ∷ []) (negsuc 0 ∷ []) [] (pos 5 ∷ []) 0 0 [] (pos 0 ∷ []) [] None) (block BitClear (pos 0 ∷ []) [] [] ((port (negsuc 0) (pos 1) (pos 5)) ∷ []) ((port (negsuc 0) (pos 1) (pos 5)) ∷ []) 0 0 (true ∷ []))
passes244 = refl

passes245 : Passes (codes "BITCLEAR") (fields (negsuc 0 ∷ []) [] (pos 5 ∷ []) (negsuc 0 ∷ []) [] (pos 5 ∷ []) 0 0 [] (pos 31 ∷ []) [] None) (block BitClear (pos 31 ∷ []) [] [] ((port (negsuc 0) (pos 1) (pos 5)) ∷ []) ((port (negsuc 0) (pos 1) (pos 5)) ∷ []) 0 0 (true ∷ []))
passes245 = refl

passes246 : Passes (codes "EXTRACTBITS") (fields (negsuc 0 ∷ []) [] (pos 5 ∷ []) (negsuc 0 ∷ []) [] (pos 5 ∷ []) 0 0 [] (pos 4 ∷ pos 4 ∷ []) [] None) (block ExtractBits (pos 4 ∷ pos 4 ∷ []) [] [] ((port (negsuc 0) (pos 1) (pos 5)) ∷ []) ((port (negsuc 0) (pos 1) (pos 5)) ∷ []) 0 0 (true ∷ []))
passes246 = refl

passes247 : Passes (codes "EXTRACTBITS") (fields (negsuc 0 ∷ []) [] (pos 5 ∷ []) (negsuc 0 ∷ []) [] (pos 5 ∷ []) 0 0 [] (pos 0 ∷ pos 31 ∷ []) [] None) (block ExtractBits (pos 0 ∷ pos 31 ∷ []) [] [] ((port (negsuc 0) (pos 1) (pos 5)) ∷ []) ((port (negsuc 0) (pos 1) (pos 5)) ∷ []) 0 0 (true ∷ []))
passes247 = refl

passes248 : Passes (codes "SWITCH2_m") (fields (negsuc 0 ∷ negsuc 0 ∷ negsuc 0 ∷ []) [] (pos 5 ∷ pos 5 ∷ pos 5 ∷ []) (negsuc 0 ∷ []) [] (pos 5 ∷ []) 0 0 [] (pos 0 ∷ pos 0 ∷ []) [] None) (block Switch2 (pos 0 ∷ pos 0 ∷ []) [] [] ((port (negsuc 0) (pos 1) (pos 5)) ∷ (port (negsuc 0) (pos 1) (pos 5)) ∷ (port (negsuc 0) (pos 1) (pos 5)) ∷ []) ((port (negsuc 0) (pos 1) (pos 5)) ∷ []) 0 0 (true ∷ true ∷ true ∷ []))
passes248 = refl

passes249 : Passes (codes "SWITCH2_m") (fields (negsuc 0 ∷ negsuc 0 ∷ negsuc 0 ∷ []) [] (pos 5 ∷ pos 5 ∷ pos 5 ∷ []) (negsuc 0 ∷ []) [] (pos 5 ∷ []) 0 0 [] (pos 2 ∷ pos 0 ∷ []) [] None) (block Switch2 (pos 2 ∷ pos 0 ∷ []) [] [] ((port (negsuc 0) (pos 1) (pos 5)) ∷ (port (negsuc 0) (pos 1) (pos 5)) ∷ (port (negsuc 0) (pos 1) (pos 5)) ∷ []) ((port (negsuc 0) (pos 1) (pos 5)) ∷ []) 0 0 (true ∷ true ∷ true ∷ []))
passes249 = refl

passes250 : Passes (codes "SWITCH2_m") (fields (negsuc 0 ∷ negsuc 0 ∷ negsuc 0 ∷ []) [] (pos 5 ∷ pos 5 ∷ pos 5 ∷ []) (negsuc 0 ∷ []) [] (pos 5 ∷ []) 0 0 [] (pos 0 ∷ negsuc 2147483647 ∷ []) [] None) (block Switch2 (pos 0 ∷ negsuc 2147483647 ∷ []) [] [] ((port (negsuc 0) (pos 1) (pos 5)) ∷ (port (negsuc 0) (pos 1) (pos 5)) ∷ (port (negsuc 0) (pos 1) (pos 5)) ∷ []) ((port (negsuc 0) (pos 1) (pos 5)) ∷ []) 0 0 (true ∷ true ∷ true ∷ []))
passes250 = refl

passes251 : Passes (codes "SWITCH2_m") (fields (negsuc 0 ∷ negsuc 0 ∷ negsuc 0 ∷ []) [] (pos 5 ∷ pos 5 ∷ pos 5 ∷ []) (negsuc 0 ∷ []) [] (pos 5 ∷ []) 0 0 [] (pos 0 ∷ pos 4294967295 ∷ []) [] None) (block Switch2 (pos 0 ∷ pos 4294967295 ∷ []) [] [] ((port (negsuc 0) (pos 1) (pos 5)) ∷ (port (negsuc 0) (pos 1) (pos 5)) ∷ (port (negsuc 0) (pos 1) (pos 5)) ∷ []) ((port (negsuc 0) (pos 1) (pos 5)) ∷ []) 0 0 (true ∷ true ∷ true ∷ []))
passes251 = refl

passes252 : Passes (codes "Modulo_Count") (fields [] [] [] (negsuc 0 ∷ []) [] (pos 5 ∷ []) 1 0 (pos 0 ∷ []) (pos 1 ∷ []) [] None) (block ModuloCount (pos 1 ∷ []) (pos 0 ∷ []) [] [] ((port (negsuc 0) (pos 1) (pos 5)) ∷ []) 1 0 [])
passes252 = refl

passes253 : Passes (codes "Modulo_Count") (fields [] [] [] (negsuc 0 ∷ []) [] (pos 5 ∷ []) 1 0 (pos 0 ∷ []) (pos 2147483647 ∷ []) [] None) (block ModuloCount (pos 2147483647 ∷ []) (pos 0 ∷ []) [] [] ((port (negsuc 0) (pos 1) (pos 5)) ∷ []) 1 0 [])
passes253 = refl

passes254 : Passes (codes "SENSOR") (fields [] [] [] (negsuc 0 ∷ []) [] (pos 5 ∷ []) 1 0 [] (pos 1 ∷ []) [] None) (block Sensor (pos 1 ∷ []) [] [] [] ((port (negsuc 0) (pos 1) (pos 5)) ∷ []) 1 0 [])
passes254 = refl

passes255 : Passes (codes "SENSOR") (fields [] [] [] (negsuc 0 ∷ []) [] (pos 5 ∷ []) 1 0 [] (pos 255 ∷ []) [] None) (block Sensor (pos 255 ∷ []) [] [] [] ((port (negsuc 0) (pos 1) (pos 5)) ∷ []) 1 0 [])
passes255 = refl

passes256 : Passes (codes "EVTDLY_c") (fields [] [] [] [] [] [] 1 1 [] (negsuc 0 ∷ []) (pos 0 ∷ []) None) (block EvtDly (negsuc 0 ∷ []) [] (pos 0 ∷ []) [] [] 1 1 [])
passes256 = refl

passes257 : Passes (codes "EVTDLY_c") (fields [] [] [] [] [] [] 1 1 [] (pos 2147483647 ∷ []) (pos 0 ∷ []) None) (block EvtDly (pos 2147483647 ∷ []) [] (pos 0 ∷ []) [] [] 1 1 [])
passes257 = refl

passes258 : Passes (codes "DOLLAR_m") (fields (negsuc 0 ∷ []) [] (pos 5 ∷ []) (negsuc 0 ∷ []) [] (pos 5 ∷ []) 1 0 (pos 1000000 ∷ pos 2 ∷ pos 3 ∷ []) [] [] None) (block Dollar [] (pos 1000000 ∷ pos 2 ∷ pos 3 ∷ []) [] ((port (negsuc 0) (pos 1) (pos 5)) ∷ []) ((port (negsuc 0) (pos 1) (pos 5)) ∷ []) 1 0 (false ∷ []))
passes258 = refl

passes259 : Passes (codes "GATED_DELAY") (fields (negsuc 0 ∷ negsuc 0 ∷ []) [] (pos 5 ∷ pos 5 ∷ []) (negsuc 0 ∷ []) [] (pos 5 ∷ []) 1 0 (pos 1 ∷ pos 2 ∷ []) [] [] None) (block GatedDelay [] (pos 1 ∷ pos 2 ∷ []) [] ((port (negsuc 0) (pos 1) (pos 5)) ∷ (port (negsuc 0) (pos 1) (pos 5)) ∷ []) ((port (negsuc 0) (pos 1) (pos 5)) ∷ []) 1 0 (false ∷ true ∷ []))
passes259 = refl

passes260 : Passes (codes "REGISTER") (fields (negsuc 0 ∷ []) [] (pos 5 ∷ []) (negsuc 0 ∷ []) [] (pos 5 ∷ []) 1 0 (many 256 (pos 1)) [] [] None) (block Register [] (many 256 (pos 1)) [] ((port (negsuc 0) (pos 1) (pos 5)) ∷ []) ((port (negsuc 0) (pos 1) (pos 5)) ∷ []) 1 0 (false ∷ []))
passes260 = refl

passes261 : Passes (codes "Modulo_Count") (fields [] [] [] (negsuc 0 ∷ []) [] (pos 5 ∷ []) 1 0 (pos 0 ∷ []) (pos 10 ∷ []) [] None) (block ModuloCount (pos 10 ∷ []) (pos 0 ∷ []) [] [] ((port (negsuc 0) (pos 1) (pos 5)) ∷ []) 1 0 [])
passes261 = refl

passes262 : Passes (codes "Modulo_Count") (fields [] [] [] (negsuc 0 ∷ []) [] (pos 5 ∷ []) 1 0 (pos 9 ∷ []) (pos 10 ∷ []) [] None) (block ModuloCount (pos 10 ∷ []) (pos 9 ∷ []) [] [] ((port (negsuc 0) (pos 1) (pos 5)) ∷ []) 1 0 [])
passes262 = refl

passes263 : Passes (codes "GAINBLK") (fields (negsuc 0 ∷ []) [] (pos 5 ∷ []) (negsuc 0 ∷ []) [] (pos 5 ∷ []) 0 0 (pos 9 ∷ pos 9 ∷ pos 9 ∷ []) (pos 0 ∷ pos 3 ∷ []) [] None) (block GainBlk (pos 0 ∷ pos 3 ∷ []) [] [] ((port (negsuc 0) (pos 1) (pos 5)) ∷ []) ((port (negsuc 0) (pos 1) (pos 5)) ∷ []) 0 0 (true ∷ []))
passes263 = refl

passes264 : Passes (codes "EVTDLY_c") (fields [] [] [] [] [] [] 1 1 [] (pos 5 ∷ []) (pos 2147483647 ∷ []) None) (block EvtDly (pos 5 ∷ []) [] (pos 2147483647 ∷ []) [] [] 1 1 [])
passes264 = refl

passes265 : Passes (codes "EVTDLY_c") (fields [] [] [] [] [] [] 1 1 [] (pos 5 ∷ []) (negsuc 9223372036854775807 ∷ []) None) (block EvtDly (pos 5 ∷ []) [] (negsuc 9223372036854775807 ∷ []) [] [] 1 1 [])
passes265 = refl

passes266 : Passes (codes "EVTVARDLY") (fields (negsuc 0 ∷ []) [] (pos 5 ∷ []) [] [] [] 1 1 [] [] (pos 2147483647 ∷ []) None) (block EvtVarDly [] [] (pos 2147483647 ∷ []) ((port (negsuc 0) (pos 1) (pos 5)) ∷ []) [] 1 1 (false ∷ []))
passes266 = refl

passes267 : Passes (codes "EVTVARDLY") (fields (negsuc 0 ∷ []) [] (pos 5 ∷ []) [] [] [] 1 1 [] [] (negsuc 9223372036854775807 ∷ []) None) (block EvtVarDly [] [] (negsuc 9223372036854775807 ∷ []) ((port (negsuc 0) (pos 1) (pos 5)) ∷ []) [] 1 1 (false ∷ []))
passes267 = refl
