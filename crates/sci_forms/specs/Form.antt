-- What each kind asks of its blocks, kind by kind, as the table of docs/FORMAT.md tells it; and what follows from one column of it.
use Rattle.std.specs.Prelude.{ℕ, ℤ, pos, negsuc, Bool, true, false, nat_eq, ◌||◌}
use Rattle.sci_base.specs.declared.limits.TheConstants.{PORTS, DELAY}
use Rattle.sci_forms.specs.declared.Kind.{Kind}
use Rattle.sci_forms.specs.declared.Kind.TheVariants.{Const, Summation, GainBlk, Product, AbsValue, Signum, MaxMin, Saturation, DeadBand, Convert, Mux, Demux, Extractor, LogicalOp, RelationalOp, Shift, BitSet, BitClear, ExtractBits, Switch2, Select, Logic, AndLog, Dollar, SampHold, Register, ModuloCount, GatedDelay, Sensor, EvtDly, EvtVarDly, IfThEl, ESelect, Halt}
use Rattle.sci_forms.specs.declared.form.Form.{Form}
use Rattle.sci_forms.specs.declared.form.Count.{Count}
use Rattle.sci_forms.specs.declared.form.Count.TheVariants.{Between as From, AsInputs}
use Rattle.sci_forms.specs.declared.form.Feedthrough.{Feedthrough}
use Rattle.sci_forms.specs.declared.form.Feedthrough.TheVariants.{None as NoInput, All as EachInput, Second as SecondInput}
use Rattle.sci_forms.specs.declared.form.Memory.TheVariants.{Elements, Moving, Counter}
use Rattle.sci_forms.specs.declared.form.Role.{Role}
use Rattle.sci_forms.specs.declared.form.Role.TheVariants.{Values, State, Delay, Branch, Sensor as Senses, Halt as Halts}
use Rattle.sci_forms.specs.declared.form.ParamCount.{ParamCount}
use Rattle.sci_forms.specs.declared.form.ParamCount.TheVariants.{Exactly, PerElement, PerRow, BehindOne, Truths}
use Rattle.sci_forms.specs.declared.form.Param.{Param}
use Rattle.sci_forms.specs.declared.form.Param.TheVariants.{Any, Between, Mode, Sign, Flag, Value, High, Element, Operation, Places, Bit, LastBit, Base}
use Rattle.sci_forms.specs.declared.form.Params.{Params}
use Rattle.sci_forms.specs.declared.form.Types.TheVariants.{Alike as OneType, AnyOutput, AnySecond, Any as AnyTypes, Int32}
use Rattle.sci_forms.specs.declared.form.Sizes.TheVariants.{Alike as OneSize, Scalars, ScalarSecond, Stacked, Cut, Chosen}
use Rattle.sci_forms.specs.declared.form.Mask.{Mask}
use Rattle.sci_forms.specs.declared.form.Mask.TheVariants.{Unread, Read, Needed}

-- ---- words of the table

abbrev pub exactly : ℕ → Count
exactly n = From n n

-- from two on, as many as a block may have
abbrev pub many : Count
many = From 2 PORTS

abbrev pub one : Param → Params
one p = record { count = Exactly 1; first = p; second = Any; third = Any }

abbrev pub two : Param → Param → Params
two p q = record { count = Exactly 2; first = p; second = q; third = Any }

abbrev pub three : Param → Param → Param → Params
three p q r = record { count = Exactly 3; first = p; second = q; third = r }

abbrev pub each : ParamCount → Param → Params
each n p = record { count = n; first = p; second = p; third = p }

-- one input and one output, alike, none or one activation input, feedthrough, and no parameters
abbrev pub usual : Form
usual = record {
  ins = exactly 1;
  outs = exactly 1;
  evtin = From 0 1;
  evtout = exactly 0;
  feedthrough = EachInput;
  params = each (Exactly 0) Any;
  role = Values;
  holds_state = false;
  types = OneType;
  sizes = OneSize;
  mask = Unread;
}

-- ---- the table: what a kind asks that isn't as usual

abbrev pub form : Kind → Form
form Const = record usual { ins = exactly 0; evtin = exactly 0; feedthrough = NoInput; params = each PerElement Value }
form Summation = record usual { ins = many; params = record { count = BehindOne; first = Mode; second = Sign; third = Sign } }
form GainBlk = record usual { params = two Mode Value }
form Product = record usual { ins = exactly 2; params = two Mode Sign }
form AbsValue = record usual { params = one Mode }
form Signum = usual
form MaxMin = record usual { ins = many; params = one (Between (pos 1) (pos 2)) }
form Saturation = record usual { params = two Value High }
form DeadBand = record usual { params = three Mode Value High }
form Convert = record usual { params = one Mode; types = AnyOutput }
form Mux = record usual { ins = many; sizes = Stacked }
form Demux = record usual { outs = many; sizes = Cut }
form Extractor = record usual { params = each PerRow Element; sizes = Chosen }
form LogicalOp = record usual { ins = From 1 PORTS; params = two Operation Flag }
form RelationalOp = record usual { ins = exactly 2; params = one (Between (pos 0) (pos 5)); types = AnyOutput }
form Shift = record usual { params = two Places Flag }
form BitSet = record usual { params = one Bit }
form BitClear = record usual { params = one Bit }
form ExtractBits = record usual { params = two (Between (pos 0) (pos 31)) LastBit }
form Switch2 = record usual { ins = exactly 3; params = two (Between (pos 0) (pos 2)) (Between (negsuc 2147483647) (pos 4294967295)); types = AnySecond; sizes = ScalarSecond }
form Select = record usual { ins = From 2 8; evtin = AsInputs; mask = Needed }
form Logic = record usual { ins = From 1 8; outs = From 1 8; params = each Truths Flag; types = AnyTypes; sizes = Scalars }
form AndLog = record usual { ins = exactly 0; evtin = exactly 2; feedthrough = NoInput; types = Int32; sizes = Scalars; mask = Read }
form Dollar = record usual { feedthrough = NoInput; role = State Elements; holds_state = true }
form SampHold = usual
form Register = record usual { feedthrough = NoInput; role = State Moving; holds_state = true; sizes = Scalars }
form ModuloCount = record usual { ins = exactly 0; evtin = exactly 1; feedthrough = NoInput; params = one Base; role = State Counter; holds_state = true; sizes = Scalars }
form GatedDelay = record usual { ins = exactly 2; feedthrough = SecondInput; role = State Elements; types = AnySecond; sizes = ScalarSecond }
form Sensor = record usual { ins = exactly 0; evtin = exactly 1; feedthrough = NoInput; params = one (Between (pos 1) (pos 255)); role = Senses; sizes = Scalars }
form EvtDly = record usual { ins = exactly 0; outs = exactly 0; evtin = exactly 1; evtout = exactly 1; feedthrough = NoInput; params = one (Between (negsuc 0) DELAY); role = Delay }
form EvtVarDly = record usual { outs = exactly 0; evtin = exactly 1; evtout = exactly 1; feedthrough = NoInput; role = Delay; sizes = Scalars }
form IfThEl = record usual { outs = exactly 0; evtout = exactly 2; role = Branch; sizes = Scalars }
form ESelect = record usual { outs = exactly 0; evtout = many; role = Branch; sizes = Scalars }
form Halt = record usual { ins = exactly 0; outs = exactly 0; evtin = exactly 1; feedthrough = NoInput; role = Halts }

-- ---- what a kind does beside giving values

abbrev pub role_of : Kind → Role
role_of c = (form c).role

abbrev pub branches : Role → Bool
branches Branch = true
branches Values = false
branches (State m) = false
branches Delay = false
branches Senses = false
branches Halts = false

abbrev pub delays : Role → Bool
delays Delay = true
delays Values = false
delays (State m) = false
delays Branch = false
delays Senses = false
delays Halts = false

abbrev pub keeps_state : Role → Bool
keeps_state (State m) = true
keeps_state Values = false
keeps_state Delay = false
keeps_state Branch = false
keeps_state Senses = false
keeps_state Halts = false

abbrev pub senses : Role → Bool
senses Senses = true
senses Values = false
senses (State m) = false
senses Delay = false
senses Branch = false
senses Halts = false

abbrev pub ends_run : Role → Bool
ends_run Halts = true
ends_run Values = false
ends_run (State m) = false
ends_run Delay = false
ends_run Branch = false
ends_run Senses = false

-- whether the kind chooses a branch
abbrev pub is_sync : Kind → Bool
is_sync c = branches (role_of c)

-- whether the kind's activation outputs are programmed with a delay
abbrev pub has_delay : Kind → Bool
has_delay c = delays (role_of c)

-- whether the kind has a state, given in `dstate`
abbrev pub has_state : Kind → Bool
has_state c = keeps_state (role_of c)

-- whether the kind takes values of the input file
abbrev pub is_sensor : Kind → Bool
is_sensor c = senses (role_of c)

-- whether the kind ends the run
abbrev pub is_halt : Kind → Bool
is_halt c = ends_run (role_of c)

-- whether the kind's blocks remember more than their outputs: a state, or how far they have read their column
abbrev pub remembers : Kind → Bool
remembers c = is_sensor c || has_state c

-- ---- feedthrough

abbrev pub feeds_by : Feedthrough → ℕ → Bool
feeds_by NoInput k = false
feeds_by EachInput k = true
feeds_by SecondInput k = nat_eq k 2

-- whether the kind has direct feedthrough from input k, counted from 1: its outputs or its branch depend on the input
abbrev pub feeds : Kind → ℕ → Bool
feeds c k = feeds_by (form c).feedthrough k

-- ---- masks

abbrev pub is_read : Mask → Bool
is_read Unread = false
is_read Read = true
is_read Needed = true

-- whether it means something to the kind which activation inputs are activated
abbrev pub reads_mask : Kind → Bool
reads_mask c = is_read (form c).mask
