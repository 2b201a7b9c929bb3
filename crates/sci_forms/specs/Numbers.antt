-- The kinds' numbers.
use Rattle.std.specs.Prelude.{ℕ, List, [], ◌∷◌, Option, Some, None, nat_eq, if◌then◌else◌}
use Rattle.sci_forms.specs.declared.TheConstants.{KINDS}
use Rattle.sci_forms.specs.declared.Kind.{Kind}
use Rattle.sci_forms.specs.declared.Kind.TheVariants.{Const, Summation, GainBlk, Product, AbsValue, Signum, MaxMin, Saturation, DeadBand, Convert, Mux, Demux, Extractor, LogicalOp, RelationalOp, Shift, BitSet, BitClear, ExtractBits, Switch2, Select, Logic, AndLog, Dollar, SampHold, Register, ModuloCount, GatedDelay, Sensor, EvtDly, EvtVarDly, IfThEl, ESelect, Halt}

abbrev pub number_of : Kind → ℕ
number_of Const = 1
number_of Summation = 2
number_of GainBlk = 3
number_of Product = 4
number_of AbsValue = 5
number_of Signum = 6
number_of MaxMin = 7
number_of Saturation = 8
number_of DeadBand = 9
number_of Convert = 10
number_of Mux = 11
number_of Demux = 12
number_of Extractor = 13
number_of LogicalOp = 14
number_of RelationalOp = 15
number_of Shift = 16
number_of BitSet = 17
number_of BitClear = 18
number_of ExtractBits = 19
number_of Switch2 = 20
number_of Select = 21
number_of Logic = 22
number_of AndLog = 23
number_of Dollar = 24
number_of SampHold = 25
number_of Register = 26
number_of ModuloCount = 27
number_of GatedDelay = 28
number_of Sensor = 29
number_of EvtDly = 30
number_of EvtVarDly = 31
number_of IfThEl = 32
number_of ESelect = 33
number_of Halt = 34

-- all kinds, in the order of their numbers
abbrev pub all_kinds : List Kind
all_kinds = Const ∷ Summation ∷ GainBlk ∷ Product ∷ AbsValue ∷ Signum ∷ MaxMin ∷ Saturation ∷ DeadBand ∷ Convert ∷ Mux ∷ Demux ∷ Extractor ∷ LogicalOp ∷ RelationalOp ∷ Shift ∷ BitSet ∷ BitClear ∷ ExtractBits ∷ Switch2 ∷ Select ∷ Logic ∷ AndLog ∷ Dollar ∷ SampHold ∷ Register ∷ ModuloCount ∷ GatedDelay ∷ Sensor ∷ EvtDly ∷ EvtVarDly ∷ IfThEl ∷ ESelect ∷ Halt ∷ []

-- the kind of a number, from 1
abbrev pub kind_at : ℕ → Option Kind
kind_at n =
    if nat_eq n 1 then Some Const else
    if nat_eq n 2 then Some Summation else
    if nat_eq n 3 then Some GainBlk else
    if nat_eq n 4 then Some Product else
    if nat_eq n 5 then Some AbsValue else
    if nat_eq n 6 then Some Signum else
    if nat_eq n 7 then Some MaxMin else
    if nat_eq n 8 then Some Saturation else
    if nat_eq n 9 then Some DeadBand else
    if nat_eq n 10 then Some Convert else
    if nat_eq n 11 then Some Mux else
    if nat_eq n 12 then Some Demux else
    if nat_eq n 13 then Some Extractor else
    if nat_eq n 14 then Some LogicalOp else
    if nat_eq n 15 then Some RelationalOp else
    if nat_eq n 16 then Some Shift else
    if nat_eq n 17 then Some BitSet else
    if nat_eq n 18 then Some BitClear else
    if nat_eq n 19 then Some ExtractBits else
    if nat_eq n 20 then Some Switch2 else
    if nat_eq n 21 then Some Select else
    if nat_eq n 22 then Some Logic else
    if nat_eq n 23 then Some AndLog else
    if nat_eq n 24 then Some Dollar else
    if nat_eq n 25 then Some SampHold else
    if nat_eq n 26 then Some Register else
    if nat_eq n 27 then Some ModuloCount else
    if nat_eq n 28 then Some GatedDelay else
    if nat_eq n 29 then Some Sensor else
    if nat_eq n 30 then Some EvtDly else
    if nat_eq n 31 then Some EvtVarDly else
    if nat_eq n 32 then Some IfThEl else
    if nat_eq n 33 then Some ESelect else
    if nat_eq n 34 then Some Halt else
    None

-- how many kinds there are
abbrev pub kinds : ℕ
kinds = KINDS
