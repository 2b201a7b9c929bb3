-- Words of a spec.
use Rattle.std.specs.Prelude.{ℕ, ℤ, pos, length, if◌then◌else◌}
use Rattle.sci_base.specs.declared.Ty.{Ty}
use Rattle.sci_base.specs.Lists.{at, spread}
use Rattle.sci_forms.specs.declared.Kind.{Kind}
use Rattle.sci_forms.specs.declared.form.Memory.TheVariants.{Elements, Moving, Counter}
use Rattle.sci_forms.specs.declared.form.Role.{Role}
use Rattle.sci_forms.specs.declared.form.Role.TheVariants.{Values, State, Delay, Branch, Sensor as Senses, Halt as Halts}
use Rattle.sci_forms.specs.Form.{form, role_of}
use Rattle.sci_forms.specs.declared.spec.Spec.{Spec}
use Rattle.sci_forms.specs.Ports.{port_at, elements, type_of}

-- parameter k
abbrev pub param : Spec → ℕ → ℤ
param s k = at s.params k

-- the type and the size of the first output, the type of the first input
abbrev pub out_type : Spec → Ty
out_type s = type_of (port_at s.outs 0)

abbrev pub in_type : Spec → Ty
in_type s = type_of (port_at s.ins 0)

abbrev pub size : Spec → ℕ
size s = elements (port_at s.outs 0)

abbrev pub state_length : Role → Spec → ℕ
state_length (State Elements) s = size s
state_length (State Moving) s = length s.state
state_length (State Counter) s = 1
state_length Values s = 0
state_length Delay s = 0
state_length Branch s = 0
state_length Senses s = 0
state_length Halts s = 0

-- how many values the state has
abbrev pub state_len_of : Kind → Spec → ℕ
state_len_of c s = state_length (role_of c) s

-- element e of the state, as the outputs show it
abbrev pub shown_state : Role → Spec → ℕ → ℤ
shown_state (State Elements) s e = spread s.state e
shown_state (State Moving) s e = at s.state 0
shown_state (State Counter) s e = at s.state 0
shown_state Values s e = pos 0
shown_state Delay s e = pos 0
shown_state Branch s e = pos 0
shown_state Senses s e = pos 0
shown_state Halts s e = pos 0

-- element e of the outputs before the block's first activation
abbrev pub held_of : Kind → Spec → ℕ → ℤ
held_of c s e = if (form c).holds_state then shown_state (role_of c) s e else pos 0
