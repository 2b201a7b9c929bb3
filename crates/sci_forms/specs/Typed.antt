-- The rules on types and sizes of a spec whose ports are known, and typed specs.
use Rattle.std.specs.Prelude.{ℕ, ◌+◌, ℤ, pos, List, length, Bool, ◌&&◌, nat_eq, nat_le, int_le, if◌then◌else◌, Option, is_none}
use Rattle.sci_base.specs.declared.limits.TheConstants.{PORT_ELEMENTS}
use Rattle.sci_base.specs.Lists.{at}
use Rattle.sci_forms.specs.declared.Kind.{Kind}
use Rattle.sci_forms.specs.declared.forms.Counts.{Counts}
use Rattle.sci_forms.specs.declared.ports.Port.{Port}
use Rattle.sci_forms.specs.declared.spec.Spec.{Spec}
use Rattle.sci_forms.specs.Ports.{port_at, elements, type_of}
use Rattle.sci_base.specs.declared.refusal.Rule.TheVariants.{TypeNotHere, ShapeRule}
use Rattle.sci_forms.specs.declared.broken.Broken.{Broken}
use Rattle.sci_forms.specs.declared.broken.Detail.TheVariants.{Triple}
use Rattle.sci_forms.specs.Forms.{or_else, unless, first_not, given, all_to, within, counts_of, fed, between, params_len_ok, param_ok, state_len_ok, state_ok, firing_ok, in_type_ok, out_type_ok, param_fits, state_fits, in_size_ok, out_size_ok, params_spread, state_spread, index_ok}
use Rattle.sci_forms.specs.Form.{has_delay, has_state}

-- ---- types and sizes of a spec whose ports are known

abbrev pub param_fits_at : Kind → Spec → ℕ → Bool
param_fits_at c s k = param_fits c (type_of (port_at s.outs 0)) k (at s.params k)

abbrev pub state_fits_at : Kind → Spec → ℕ → Bool
state_fits_at c s k = state_fits c (type_of (port_at s.outs 0)) (at s.state k)

abbrev pub type_not_here : ℤ → ℕ → Broken
type_not_here side k = record { rule = TypeNotHere; detail = Triple (pos 1) side (pos (k + 1)) }

abbrev pub value_not_here : ℤ → ℕ → Broken
value_not_here field k = record { rule = TypeNotHere; detail = Triple (pos 2) field (pos (k + 1)) }

abbrev pub types_broken_of : Kind → Spec → Option Broken
types_broken_of c s =
    or_else (given (first_not (in_type_ok c s) (length s.ins)) (type_not_here (pos 1)))
    (or_else (given (first_not (out_type_ok c s) (length s.outs)) (type_not_here (pos 2)))
    (or_else (given (first_not (param_fits_at c s) (length s.params)) (value_not_here (pos 1)))
    (given (first_not (state_fits_at c s) (length s.state)) (value_not_here (pos 2)))))

abbrev pub wrong_size : ℤ → ℕ → Broken
wrong_size side k = record { rule = ShapeRule; detail = Triple (pos 1) side (pos (k + 1)) }

abbrev pub wrong_shape : ℤ → ℕ → Broken
wrong_shape field n = record { rule = ShapeRule; detail = Triple (pos 2) field (pos n) }

abbrev pub sizes_broken_of : Kind → Spec → Option Broken
sizes_broken_of c s =
    or_else (given (first_not (in_size_ok c s) (length s.ins)) (wrong_size (pos 1)))
    (or_else (given (first_not (out_size_ok c s) (length s.outs)) (wrong_size (pos 2)))
    (or_else (unless (params_spread c s) (wrong_shape (pos 1) (length s.params)))
    (or_else (unless (state_spread c s) (wrong_shape (pos 2) (length s.state)))
    (given (first_not (index_ok c s) (length s.params)) (λ k. wrong_shape (pos 1) (k + 1))))))

-- ---- a typed spec

-- a port of known size and type
abbrev pub is_known : Port → Bool
is_known p = int_le (pos 1) p.rows && int_le (pos 1) p.cols && between (pos 3) (pos 8) p.ty

abbrev pub counted : Spec → Counts → Bool
counted s c =
    within c.ins_least c.ins_most (length s.ins) && within c.outs_least c.outs_most (length s.outs)
    && within c.evtin_least c.evtin_most s.evtin && within c.evtout_least c.evtout_most s.evtout

-- one truth for each of n inputs, true wherever the kind has feedthrough
abbrev pub feed_ok : Kind → List Bool → ℕ → Bool
feed_ok c ts n = nat_eq (length ts) n && all_to (fed c ts) n

-- as a check of what is declared can give it
abbrev pub formed_of : Kind → Spec → Bool
formed_of c s =
    counted s (counts_of c (length s.ins)) && params_len_ok c (length s.ins) (length s.outs) (length s.params)
    && all_to (param_ok c (length s.ins) s.params) (length s.params)
    && (if has_state c then state_len_ok c (length s.state) else nat_eq (length s.state) 0)
    && all_to (state_ok c s.params s.state) (length s.state)
    && (if has_delay c then nat_eq (length s.firing) 1 && firing_ok (at s.firing 0) else nat_eq (length s.firing) 0)
    && feed_ok c s.feed (length s.ins)

abbrev pub known_in : Spec → ℕ → Bool
known_in s k = is_known (port_at s.ins k)

-- an output has at most 256 elements
abbrev pub known_out : Spec → ℕ → Bool
known_out s k = is_known (port_at s.outs k) && nat_le (elements (port_at s.outs k)) PORT_ELEMENTS

abbrev pub known_of : Spec → Bool
known_of s =
    all_to (known_in s) (length s.ins) && all_to (known_out s) (length s.outs)

abbrev pub typed : Spec → Bool
typed s = formed_of s.kind s && known_of s && is_none (types_broken_of s.kind s) && is_none (sizes_broken_of s.kind s)
