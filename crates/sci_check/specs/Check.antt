-- What is tested of a block's fields, in order, and the spec that they give.
use Rattle.std.specs.Prelude.{ℕ, zero, suc, ◌+◌, ℤ, pos, List, [], ◌∷◌, ◌++◌, length, Bool, false, ◌||◌, not, nat_eq, int_lt, if◌then◌else◌, Option, Some, None, Result, Ok, Err}
use Rattle.sci_base.specs.declared.refusal.Rule.TheVariants.{UnknownBlock, BadParameter, PortShape, NotInteger, AlwaysActive}
use Rattle.sci_base.specs.Lists.{at, repeated}
use Rattle.sci_base.specs.Plain.{Violation, Fields, Feedthrough, all_inputs, each_input, Dependence}
use Rattle.sci_forms.specs.declared.Kind.{Kind}
use Rattle.sci_forms.specs.declared.broken.Broken.{Broken}
use Rattle.sci_forms.specs.declared.broken.Detail.TheVariants.{Empty, Pair, Triple}
use Rattle.sci_forms.specs.declared.ports.Port.{Port}
use Rattle.sci_forms.specs.declared.spec.Spec.{Spec}
use Rattle.sci_forms.specs.Forms.{or_else, first_not, given, counts_of, own_feed, fed, unfed, between, params_len_ok, param_ok, state_len_ok, state_ok, firing_ok, within}
use Rattle.sci_forms.specs.Form.{has_delay, has_state}
use Rattle.sci_forms.specs.Broken.{violation_at}
use Rattle.sci_names.specs.Names.{by_name}

-- ---- counts and lengths

abbrev pub shape : ℤ → ℕ → Broken
shape code n = record { rule = PortShape; detail = Pair code (pos n) }

-- a list of columns is empty, or has one for each port
abbrev pub cols_ok : ℕ → ℕ → Bool
cols_ok len n = nat_eq len 0 || nat_eq len n

-- types are looked at only where there are ports
abbrev pub types_len_ok : ℕ → ℕ → Bool
types_len_ok len n = nat_eq n 0 || nat_eq len n

abbrev pub firing_len_ok : Kind → ℕ → Bool
firing_len_ok c len = not (has_delay c) || nat_eq len 1

abbrev pub counts_broken : Kind → Fields → Option Broken
counts_broken c f =
    if not (within (counts_of c (length f.ins)).ins_least (counts_of c (length f.ins)).ins_most (length f.ins)) then Some (shape (pos 1) (length f.ins)) else
    if not (within (counts_of c (length f.ins)).outs_least (counts_of c (length f.ins)).outs_most (length f.outs)) then Some (shape (pos 2) (length f.outs)) else
    if not (within (counts_of c (length f.ins)).evtin_least (counts_of c (length f.ins)).evtin_most f.evtin) then Some (shape (pos 3) f.evtin) else
    if not (within (counts_of c (length f.ins)).evtout_least (counts_of c (length f.ins)).evtout_most f.evtout) then Some (shape (pos 4) f.evtout) else None

abbrev pub lengths_broken : Kind → Fields → Option Broken
lengths_broken c f =
    if not (cols_ok (length f.in2) (length f.ins)) then Some (shape (pos 5) (length f.in2)) else
    if not (types_len_ok (length f.intyp) (length f.ins)) then Some (shape (pos 6) (length f.intyp)) else
    if not (cols_ok (length f.out2) (length f.outs)) then Some (shape (pos 7) (length f.out2)) else
    if not (types_len_ok (length f.outtyp) (length f.outs)) then Some (shape (pos 8) (length f.outtyp)) else
    if not (firing_len_ok c (length f.firing)) then Some (shape (pos 9) (length f.firing)) else None

-- ---- types

-- a type of integers, or an unknown one
abbrev pub is_integer : ℤ → Bool
is_integer v = int_lt v (pos 0) || between (pos 3) (pos 8) v

abbrev pub integer_at : List ℤ → ℕ → Bool
integer_at ts k = is_integer (at ts k)

abbrev pub not_integer : ℤ → List ℤ → ℕ → Broken
not_integer side ts k = record { rule = NotInteger; detail = Triple side (pos (k + 1)) (at ts k) }

-- among the first n types of a side
abbrev pub side_broken : ℤ → List ℤ → ℕ → Option Broken
side_broken side ts n = given (first_not (integer_at ts) n) (not_integer side ts)

-- ---- activation and parameters

abbrev pub always : Option Dependence → Bool
always None = false
always (Some d) = d.always

abbrev pub bad : ℤ → ℕ → ℤ → Broken
bad field k v = record { rule = BadParameter; detail = Triple field (pos k) v }

abbrev pub bad_value : ℤ → List ℤ → ℕ → Broken
bad_value field vs k = bad field (k + 1) (at vs k)

abbrev pub params_broken : Kind → Fields → Option Broken
params_broken c f =
    if not (params_len_ok c (length f.ins) (length f.outs) (length f.ipar)) then Some (bad (pos 1) 0 (pos (length f.ipar))) else
    given (first_not (param_ok c (length f.ins) f.ipar) (length f.ipar)) (bad_value (pos 1) f.ipar)

abbrev pub state_broken : Kind → Fields → Option Broken
state_broken c f =
    if not (state_len_ok c (length f.dstate)) then Some (bad (pos 2) 0 (pos (length f.dstate))) else
    given (first_not (state_ok c f.ipar f.dstate) (length f.dstate)) (bad_value (pos 2) f.dstate)

-- ---- feedthrough

-- of each of n inputs, as it is declared
abbrev pub feed_by : Feedthrough → ℕ → List Bool
feed_by (all_inputs b) n = repeated b n
feed_by (each_input ts) n = ts

-- as it is declared, or the kind's own
abbrev pub feed_of : Kind → Option Dependence → ℕ → List Bool
feed_of c None n = own_feed c n
feed_of c (Some d) n = feed_by d.part n

abbrev pub bad_truth : ℕ → Broken
bad_truth k = bad (pos 4) (k + 1) (pos 0)

-- a list has a truth for each of n inputs, which is true where the kind has feedthrough
abbrev pub list_broken : Kind → List Bool → ℕ → Option Broken
list_broken c ts n =
    if not (nat_eq (length ts) n) then Some (bad (pos 4) 0 (pos (length ts))) else given (first_not (fed c ts) n) bad_truth

-- false for all is for kinds that have no input with feedthrough
abbrev pub part_broken : Kind → Feedthrough → ℕ → Option Broken
part_broken c (all_inputs b) n = if b then None else given (first_not (unfed c) n) (λ k. bad (pos 4) 1 (pos 0))
part_broken c (each_input ts) n = list_broken c ts n

abbrev pub feed_broken : Kind → Option Dependence → ℕ → Option Broken
feed_broken c None n = None
feed_broken c (Some d) n = part_broken c d.part n

abbrev pub date_ok : Kind → List ℤ → Bool
date_ok c firing = not (has_delay c) || firing_ok (at firing 0)

abbrev pub events_broken : Kind → Fields → Option Broken
events_broken c f =
    if not (date_ok c f.firing) then Some (bad (pos 3) 1 (at f.firing 0)) else
    feed_broken c f.dep (length f.ins)

-- ---- the whole check

abbrev pub forms_broken : Kind → Fields → Option Broken
forms_broken c f = or_else (counts_broken c f) (lengths_broken c f)

abbrev pub types_broken : Fields → Option Broken
types_broken f = or_else (side_broken (pos 1) f.intyp (length f.ins)) (side_broken (pos 2) f.outtyp (length f.outs))

abbrev pub values_broken : Kind → Fields → Option Broken
values_broken c f = or_else (params_broken c f) (or_else (state_broken c f) (events_broken c f))

abbrev pub active_broken : Fields → Option Broken
active_broken f = if always f.dep then Some (record { rule = AlwaysActive; detail = Empty }) else None

abbrev pub broken : Kind → Fields → Option Broken
broken c f = or_else (forms_broken c f) (or_else (types_broken f) (or_else (active_broken f) (values_broken c f)))

-- port k of a side; one column where none are given
abbrev pub columns_at : List ℤ → ℕ → ℤ
columns_at cols k = if nat_eq (length cols) 0 then pos 1 else at cols k

abbrev pub declared_port : List ℤ → List ℤ → List ℤ → ℕ → Port
declared_port rows cols types k =
    record { rows = at rows k; cols = columns_at cols k; ty = at types k }

abbrev pub declared_ports : List ℤ → List ℤ → List ℤ → ℕ → List Port
declared_ports rows cols types zero = []
declared_ports rows cols types (suc n) = declared_ports rows cols types n ++ declared_port rows cols types n ∷ []

abbrev pub kept : Bool → List ℤ → List ℤ
kept b vs = if b then vs else []

abbrev pub spec_of : Kind → Fields → Spec
spec_of c f = record {
  kind = c;
  params = f.ipar;
  state = kept (has_state c) f.dstate;
  firing = kept (has_delay c) f.firing;
  ins = declared_ports f.ins f.in2 f.intyp (length f.ins);
  outs = declared_ports f.outs f.out2 f.outtyp (length f.outs);
  evtin = f.evtin;
  evtout = f.evtout;
  feed = feed_of c f.dep (length f.ins);
}

abbrev pub judged : List ℕ → Kind → Fields → Option Broken → Result Spec Violation
judged place c f None = Ok (spec_of c f)
judged place c f (Some b) = Err (violation_at place b)

abbrev pub checked_kind : List ℕ → Fields → Option Kind → Result Spec Violation
checked_kind place f None = Err (violation_at place (record { rule = UnknownBlock; detail = Empty }))
checked_kind place f (Some c) = judged place c f (broken c f)

abbrev pub checked : List ℕ → List ℕ → Fields → Result Spec Violation
checked place gui f = checked_kind place f (by_name gui)
