-- What the forms of kinds ask of a block: counts of ports, feedthrough, parameters, state, types and sizes.
use Rattle.std.specs.Prelude.{ℕ, zero, suc, ◌+◌, ◌-◌, ◌*◌, ◌^◌, ℤ, pos, negsuc, ◌-ℤ◌, List, [], ◌∷◌, ◌++◌, length, Bool, true, false, ◌&&◌, ◌||◌, not, nat_eq, nat_lt, nat_le, int_lt, int_le, if◌then◌else◌, Option, Some, None, is_none, unsigned_abs}
use Rattle.sci_base.specs.declared.limits.TheConstants.{DELAY}
use Rattle.sci_base.specs.declared.Ty.{Ty}
use Rattle.sci_base.specs.Fit.{int_eq, in_range, width}
use Rattle.sci_base.specs.Lists.{at, truth_at}
use Rattle.sci_forms.specs.declared.Kind.{Kind}
use Rattle.sci_forms.specs.declared.forms.Counts.{Counts}
use Rattle.sci_forms.specs.declared.form.Count.{Count}
use Rattle.sci_forms.specs.declared.form.Count.TheVariants.{Between as From, AsInputs}
use Rattle.sci_forms.specs.declared.form.Memory.TheVariants.{Elements, Moving, Counter}
use Rattle.sci_forms.specs.declared.form.Role.{Role}
use Rattle.sci_forms.specs.declared.form.Role.TheVariants.{Values, State, Delay, Branch, Sensor as Senses, Halt as Halts}
use Rattle.sci_forms.specs.declared.form.ParamCount.{ParamCount}
use Rattle.sci_forms.specs.declared.form.ParamCount.TheVariants.{Exactly, PerElement, PerRow, BehindOne, Truths}
use Rattle.sci_forms.specs.declared.form.Param.{Param}
use Rattle.sci_forms.specs.declared.form.Param.TheVariants.{Any, Between, Mode, Sign, Flag, Value, High, Element, Operation, Places, Bit, LastBit, Base}
use Rattle.sci_forms.specs.declared.form.Params.{Params}
use Rattle.sci_forms.specs.declared.form.Types.{Types}
use Rattle.sci_forms.specs.declared.form.Types.TheVariants.{Alike as OneType, AnyOutput, AnySecond, Any as AnyTypes, Int32}
use Rattle.sci_forms.specs.declared.form.Sizes.{Sizes}
use Rattle.sci_forms.specs.declared.form.Sizes.TheVariants.{Alike as OneSize, Scalars, ScalarSecond, Stacked, Cut, Chosen}
use Rattle.sci_forms.specs.declared.ports.Port.{Port}
use Rattle.sci_forms.specs.declared.spec.Spec.{Spec}
use Rattle.sci_forms.specs.Ports.{port_at, elements, sum_rows}
use Rattle.sci_forms.specs.Form.{form, role_of, feeds}

-- ---- counts of ports

abbrev pub least_of : Count → ℕ → ℕ
least_of (From a b) n = a
least_of AsInputs n = n

abbrev pub most_of : Count → ℕ → ℕ
most_of (From a b) n = b
most_of AsInputs n = n

-- the least and the most of each class, of a block with n regular inputs
abbrev pub counts_of : Kind → ℕ → Counts
counts_of c n = record {
  ins_least = least_of (form c).ins n;
  ins_most = most_of (form c).ins n;
  outs_least = least_of (form c).outs n;
  outs_most = most_of (form c).outs n;
  evtin_least = least_of (form c).evtin n;
  evtin_most = most_of (form c).evtin n;
  evtout_least = least_of (form c).evtout n;
  evtout_most = most_of (form c).evtout n;
}

-- ---- feedthrough

-- input k, counted from 0, has no feedthrough by the kind
abbrev pub unfed : Kind → ℕ → Bool
unfed c k = not (feeds c (k + 1))

-- of each of n inputs, whether it has feedthrough by the kind
abbrev pub own_feed : Kind → ℕ → List Bool
own_feed c zero = []
own_feed c (suc n) = own_feed c n ++ feeds c (suc n) ∷ []

-- these truths give input k, counted from 0, the feedthrough that the kind has
abbrev pub fed : Kind → List Bool → ℕ → Bool
fed c ts k = truth_at ts k || unfed c k

-- ---- values of parameters

abbrev pub between : ℤ → ℤ → ℤ → Bool
between low high v = int_le low v && int_le v high

abbrev pub is_mode : ℤ → Bool
is_mode v = between (pos 0) (pos 2) v

abbrev pub is_flag : ℤ → Bool
is_flag v = between (pos 0) (pos 1) v

abbrev pub is_sign : ℤ → Bool
is_sign v = int_eq v (pos 1) || int_eq v (negsuc 0)

-- a logical operation of n inputs: NOT, the last, is the one of one input
abbrev pub is_operation : ℕ → ℤ → Bool
is_operation n v = if nat_eq n 1 then int_eq v (pos 5) else between (pos 0) (pos 4) v

abbrev pub has_count : ParamCount → ℕ → ℕ → ℕ → Bool
has_count (Exactly k) n m len = nat_eq len k
has_count PerElement n m len = nat_le 1 len
has_count PerRow n m len = nat_le 1 len && nat_le len 256
has_count BehindOne n m len = nat_eq len (n + 1)
has_count Truths n m len = nat_eq len (2 ^ n * m)

-- the number of parameters, of a block with n inputs and m outputs
abbrev pub params_len_ok : Kind → ℕ → ℕ → ℕ → Bool
params_len_ok c n m len = has_count (form c).params.count n m len

-- what holds of parameter k, counted from 0, by what it is
abbrev pub by_place : {A : Type 0} → (Param → A) → Params → ℕ → A
by_place f ps k = if nat_eq k 0 then f ps.first else if nat_eq k 1 then f ps.second else f ps.third

-- number k of ps is such a parameter, of a block with n inputs
abbrev pub is_param : ℕ → List ℤ → ℕ → Param → Bool
is_param n ps k Any = true
is_param n ps k (Between low high) = between low high (at ps k)
is_param n ps k Mode = is_mode (at ps k)
is_param n ps k Sign = is_sign (at ps k)
is_param n ps k Flag = is_flag (at ps k)
is_param n ps k Value = true
is_param n ps k High = int_le (at ps (k - 1)) (at ps k)
is_param n ps k Element = int_le (pos 1) (at ps k)
is_param n ps k Operation = is_operation n (at ps k)
is_param n ps k Places = between (negsuc 30) (pos 31) (at ps k)
is_param n ps k Bit = between (pos 0) (pos 31) (at ps k)
is_param n ps k LastBit = between (pos 0) (pos 31) (at ps k) && int_le (at ps (k - 1)) (at ps k)
is_param n ps k Base = between (pos 1) (pos 2147483647) (at ps k)

-- parameter k of ps, counted from 0, of a block with n inputs
abbrev pub param_ok : Kind → ℕ → List ℤ → ℕ → Bool
param_ok c n ps k = by_place (is_param n ps k) (form c).params k

-- ---- states

abbrev pub has_state_count : Role → ℕ → Bool
has_state_count (State Elements) len = nat_le 1 len
has_state_count (State Moving) len = nat_le 1 len && nat_le len 256
has_state_count (State Counter) len = nat_eq len 1
has_state_count Values len = true
has_state_count Delay len = true
has_state_count Branch len = true
has_state_count Senses len = true
has_state_count Halts len = true

-- the number of values of the state
abbrev pub state_len_ok : Kind → ℕ → Bool
state_len_ok c len = has_state_count (role_of c) len

abbrev pub is_state_value : Role → List ℤ → List ℤ → ℕ → Bool
is_state_value (State Elements) ps xs k = true
is_state_value (State Moving) ps xs k = true
is_state_value (State Counter) ps xs k = int_le (pos 0) (at xs k) && int_lt (at xs k) (at ps 0)
is_state_value Values ps xs k = true
is_state_value Delay ps xs k = true
is_state_value Branch ps xs k = true
is_state_value Senses ps xs k = true
is_state_value Halts ps xs k = true

-- value k of the state xs, of a block with parameters ps
abbrev pub state_ok : Kind → List ℤ → List ℤ → ℕ → Bool
state_ok c ps xs k = is_state_value (role_of c) ps xs k

-- the first date of an activation output
abbrev pub firing_ok : ℤ → Bool
firing_ok v = int_le v DELAY

-- ---- types

-- the port that the others are compared with: the first, inputs before outputs
abbrev pub first_port : Spec → Port
first_port s = if nat_eq (length s.ins) 0 then port_at s.outs 0 else port_at s.ins 0

abbrev pub any_input : Types → ℕ → Bool
any_input OneType k = false
any_input AnyOutput k = false
any_input AnySecond k = nat_eq k 1
any_input AnyTypes k = true
any_input Int32 k = false

-- whether input k may be of any type
abbrev pub any_in : Kind → ℕ → Bool
any_in c k = any_input (form c).types k

abbrev pub any_output : Types → Bool
any_output OneType = false
any_output AnyOutput = true
any_output AnySecond = false
any_output AnyTypes = true
any_output Int32 = false

-- whether the outputs may be of any type
abbrev pub any_out : Kind → Bool
any_out c = any_output (form c).types

abbrev pub type_by : Types → ℤ → ℤ
type_by OneType t = t
type_by AnyOutput t = t
type_by AnySecond t = t
type_by AnyTypes t = t
type_by Int32 t = pos 3

-- the code of the type that a kind takes at its other ports
abbrev pub type_wanted : Kind → Spec → ℤ
type_wanted c s = type_by (form c).types (first_port s).ty

abbrev pub in_type_ok : Kind → Spec → ℕ → Bool
in_type_ok c s k = any_in c k || int_eq (port_at s.ins k).ty (type_wanted c s)

abbrev pub out_type_ok : Kind → Spec → ℕ → Bool
out_type_ok c s k = any_out c || int_eq (port_at s.outs k).ty (type_wanted c s)

-- whether a value of such a parameter suits a type
abbrev pub suits : Ty → ℤ → Param → Bool
suits t v Any = true
suits t v (Between low high) = true
suits t v Mode = true
suits t v Sign = true
suits t v Flag = true
suits t v Value = in_range t v
suits t v High = in_range t v
suits t v Element = true
suits t v Operation = true
suits t v Places = nat_lt (unsigned_abs v) (width t)
suits t v Bit = int_lt v (pos (width t))
suits t v LastBit = int_lt v (pos (width t))
suits t v Base = in_range t (v -ℤ pos 1)

-- whether parameter k, of value v, suits the type of the first output
abbrev pub param_fits : Kind → Ty → ℕ → ℤ → Bool
param_fits c t k v = by_place (suits t v) (form c).params k

abbrev pub suits_state : Role → Ty → ℤ → Bool
suits_state (State Elements) t v = in_range t v
suits_state (State Moving) t v = in_range t v
suits_state (State Counter) t v = true
suits_state Values t v = true
suits_state Delay t v = true
suits_state Branch t v = true
suits_state Senses t v = true
suits_state Halts t v = true

-- whether a value of the state suits the type of the first output
abbrev pub state_fits : Kind → Ty → ℤ → Bool
state_fits c t v = suits_state (role_of c) t v

-- ---- sizes

abbrev pub is_scalar : Port → Bool
is_scalar p = int_eq p.rows (pos 1) && int_eq p.cols (pos 1)

abbrev pub same_size : Port → Port → Bool
same_size p q = int_eq p.rows q.rows && int_eq p.cols q.cols

-- p is one column of n rows
abbrev pub is_column : ℤ → Port → Bool
is_column n p = int_eq p.cols (pos 1) && int_eq p.rows n

-- p is a scalar where all ports are, and else of the size of the first port
abbrev pub as_first : Sizes → Spec → Port → Bool
as_first Scalars s p = is_scalar p
as_first OneSize s p = same_size p (first_port s)
as_first ScalarSecond s p = same_size p (first_port s)
as_first Stacked s p = same_size p (first_port s)
as_first Cut s p = same_size p (first_port s)
as_first Chosen s p = same_size p (first_port s)

abbrev pub input_size : Sizes → Spec → ℕ → Bool
input_size OneSize s k = as_first OneSize s (port_at s.ins k)
input_size Scalars s k = as_first Scalars s (port_at s.ins k)
input_size ScalarSecond s k = if nat_eq k 1 then is_scalar (port_at s.ins k) else same_size (port_at s.ins k) (first_port s)
input_size Stacked s k = int_eq (port_at s.ins k).cols (pos 1)
input_size Cut s k = is_column (sum_rows s.outs) (port_at s.ins k)
input_size Chosen s k = true

abbrev pub in_size_ok : Kind → Spec → ℕ → Bool
in_size_ok c s k = input_size (form c).sizes s k

abbrev pub output_size : Sizes → Spec → ℕ → Bool
output_size OneSize s k = as_first OneSize s (port_at s.outs k)
output_size Scalars s k = as_first Scalars s (port_at s.outs k)
output_size ScalarSecond s k = as_first ScalarSecond s (port_at s.outs k)
output_size Stacked s k = is_column (sum_rows s.ins) (port_at s.outs k)
output_size Cut s k = int_eq (port_at s.outs k).cols (pos 1)
output_size Chosen s k = is_column (pos (length s.params)) (port_at s.outs k)

abbrev pub out_size_ok : Kind → Spec → ℕ → Bool
out_size_ok c s k = output_size (form c).sizes s k

-- one value for all elements, or one for each
abbrev pub is_spread : ℕ → ℕ → Bool
is_spread len n = nat_eq len 1 || nat_eq len n

abbrev pub spreads : ParamCount → Spec → Bool
spreads (Exactly k) s = true
spreads PerElement s = is_spread (length s.params) (elements (port_at s.outs 0))
spreads PerRow s = true
spreads BehindOne s = true
spreads Truths s = true

-- whether as many parameters as the ports want
abbrev pub params_spread : Kind → Spec → Bool
params_spread c s = spreads (form c).params.count s

abbrev pub spreads_state : Role → Spec → Bool
spreads_state (State Elements) s = is_spread (length s.state) (elements (port_at s.outs 0))
spreads_state (State Moving) s = true
spreads_state (State Counter) s = true
spreads_state Values s = true
spreads_state Delay s = true
spreads_state Branch s = true
spreads_state Senses s = true
spreads_state Halts s = true

abbrev pub state_spread : Kind → Spec → Bool
state_spread c s = spreads_state (role_of c) s

-- where such a parameter names an element, the input has it
abbrev pub names_element : Spec → ℕ → Param → Bool
names_element s k Element = int_le (at s.params k) (pos (elements (port_at s.ins 0)))
names_element s k Any = true
names_element s k (Between low high) = true
names_element s k Mode = true
names_element s k Sign = true
names_element s k Flag = true
names_element s k Value = true
names_element s k High = true
names_element s k Operation = true
names_element s k Places = true
names_element s k Bit = true
names_element s k LastBit = true
names_element s k Base = true

-- whether parameter k names an element of the input
abbrev pub index_ok : Kind → Spec → ℕ → Bool
index_ok c s k = by_place (names_element s k) (form c).params k

-- ---- searches

abbrev pub or_else : {A : Type 0} → Option A → Option A → Option A
or_else (Some a) b = Some a
or_else None b = b

abbrev pub unless : {A : Type 0} → Bool → A → Option A
unless b a = if b then None else Some a

-- the first of 0 to n - 1 of which f doesn't hold
abbrev pub first_not : (ℕ → Bool) → ℕ → Option ℕ
first_not f zero = None
first_not f (suc n) = or_else (first_not f n) (unless (f n) n)

-- what such a number gives
abbrev pub given : {A : Type 0} → Option ℕ → (ℕ → A) → Option A
given None f = None
given (Some k) f = Some (f k)

-- whether f holds of 0 to n - 1
abbrev pub all_to : (ℕ → Bool) → ℕ → Bool
all_to f n = is_none (first_not f n)

abbrev pub within : ℕ → ℕ → ℕ → Bool
within least most n = nat_le least n && nat_le n most
