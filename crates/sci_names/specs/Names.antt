-- The names of the kinds in a diagram.
use Rattle.std.specs.Prelude.{ℕ, List, Option, Some, None, if◌then◌else◌, codes, bytes_eq}
use Rattle.sci_forms.specs.declared.Kind.{Kind}
use Rattle.sci_forms.specs.declared.Kind.TheVariants.{Const, Summation, GainBlk, Product, AbsValue, Signum, MaxMin, Saturation, DeadBand, Convert, Mux, Demux, Extractor, LogicalOp, RelationalOp, Shift, BitSet, BitClear, ExtractBits, Switch2, Select, Logic, AndLog, Dollar, SampHold, Register, ModuloCount, GatedDelay, Sensor, EvtDly, EvtVarDly, IfThEl, ESelect, Halt}

abbrev pub name_of : Kind → List ℕ
name_of Const = codes "CONST_m"
name_of Summation = codes "SUMMATION"
name_of GainBlk = codes "GAINBLK"
name_of Product = codes "PRODUCT"
name_of AbsValue = codes "ABS_VALUE"
name_of Signum = codes "SIGNUM"
name_of MaxMin = codes "MAXMIN"
name_of Saturation = codes "SATURATION"
name_of DeadBand = codes "DEADBAND"
name_of Convert = codes "CONVERT"
name_of Mux = codes "MUX"
name_of Demux = codes "DEMUX"
name_of Extractor = codes "EXTRACTOR"
name_of LogicalOp = codes "LOGICAL_OP"
name_of RelationalOp = codes "RELATIONALOP"
name_of Shift = codes "SHIFT"
name_of BitSet = codes "BITSET"
name_of BitClear = codes "BITCLEAR"
name_of ExtractBits = codes "EXTRACTBITS"
name_of Switch2 = codes "SWITCH2_m"
name_of Select = codes "SELECT_m"
name_of Logic = codes "LOGIC"
name_of AndLog = codes "ANDLOG_f"
name_of Dollar = codes "DOLLAR_m"
name_of SampHold = codes "SAMPHOLD_m"
name_of Register = codes "REGISTER"
name_of ModuloCount = codes "Modulo_Count"
name_of GatedDelay = codes "GATED_DELAY"
name_of Sensor = codes "SENSOR"
name_of EvtDly = codes "EVTDLY_c"
name_of EvtVarDly = codes "EVTVARDLY"
name_of IfThEl = codes "IFTHEL_f"
name_of ESelect = codes "ESELECT_f"
name_of Halt = codes "HALT_f"

-- the kind of a name
abbrev pub by_name : List ℕ → Option Kind
by_name s =
    if bytes_eq s (name_of Const) then Some Const else
    if bytes_eq s (name_of Summation) then Some Summation else
    if bytes_eq s (name_of GainBlk) then Some GainBlk else
    if bytes_eq s (name_of Product) then Some Product else
    if bytes_eq s (name_of AbsValue) then Some AbsValue else
    if bytes_eq s (name_of Signum) then Some Signum else
    if bytes_eq s (name_of MaxMin) then Some MaxMin else
    if bytes_eq s (name_of Saturation) then Some Saturation else
    if bytes_eq s (name_of DeadBand) then Some DeadBand else
    if bytes_eq s (name_of Convert) then Some Convert else
    if bytes_eq s (name_of Mux) then Some Mux else
    if bytes_eq s (name_of Demux) then Some Demux else
    if bytes_eq s (name_of Extractor) then Some Extractor else
    if bytes_eq s (name_of LogicalOp) then Some LogicalOp else
    if bytes_eq s (name_of RelationalOp) then Some RelationalOp else
    if bytes_eq s (name_of Shift) then Some Shift else
    if bytes_eq s (name_of BitSet) then Some BitSet else
    if bytes_eq s (name_of BitClear) then Some BitClear else
    if bytes_eq s (name_of ExtractBits) then Some ExtractBits else
    if bytes_eq s (name_of Switch2) then Some Switch2 else
    if bytes_eq s (name_of Select) then Some Select else
    if bytes_eq s (name_of Logic) then Some Logic else
    if bytes_eq s (name_of AndLog) then Some AndLog else
    if bytes_eq s (name_of Dollar) then Some Dollar else
    if bytes_eq s (name_of SampHold) then Some SampHold else
    if bytes_eq s (name_of Register) then Some Register else
    if bytes_eq s (name_of ModuloCount) then Some ModuloCount else
    if bytes_eq s (name_of GatedDelay) then Some GatedDelay else
    if bytes_eq s (name_of Sensor) then Some Sensor else
    if bytes_eq s (name_of EvtDly) then Some EvtDly else
    if bytes_eq s (name_of EvtVarDly) then Some EvtVarDly else
    if bytes_eq s (name_of IfThEl) then Some IfThEl else
    if bytes_eq s (name_of ESelect) then Some ESelect else
    if bytes_eq s (name_of Halt) then Some Halt else
    None
