-- Which numbers may be saved of a block.
use Rattle.std.specs.Prelude.{ℕ, ℤ, pos, ◌-ℤ◌, ◌≤ℤ◌, ◌^◌, ◌<◌, List, [], ◌∷◌, ◌++◌, length, replicate, codes, Bool, ◌&&◌, int_le, if◌then◌else◌}
use Rattle.sci_base.specs.declared.Ty.{Ty}
use Rattle.sci_base.specs.Fit.{low, high}
use Rattle.sci_forms.specs.declared.Kind.{Kind}
use Rattle.sci_forms.specs.declared.form.Memory.TheVariants.{Elements, Moving, Counter}
use Rattle.sci_forms.specs.declared.form.Role.{Role}
use Rattle.sci_forms.specs.declared.form.Role.TheVariants.{Values, State, Delay, Branch, Sensor as Senses, Halt as Halts}
use Rattle.sci_forms.specs.Form.{role_of}
use Rattle.sci_forms.specs.declared.ports.Port.{Port}
use Rattle.sci_forms.specs.declared.spec.Spec.{Spec}
use Rattle.sci_forms.specs.Ports.{elements, type_of}
use Rattle.sci_forms.specs.Words.{param, out_type, state_len_of}
use Rattle.sci_net.specs.Parts.{numbered, column_of}
use Rattle.sci_forms.specs.Form.{is_sensor}
use Rattle.sci_reaction.specs.Memory.{Columns}
use Rattle.sci_save.specs.declared.bounds.Bounds.{Bounds}
use Rattle.sci_save.specs.declared.bounds.BlockLine.{BlockLine}
use Rattle.sci_save.specs.declared.bounds.BlockLine.TheVariants.{State, Held, Cursor}

-- the numbers from the least to the greatest
abbrev pub from_to : ℤ → ℤ → Bounds
from_to least greatest = record { low = least; high = greatest }

abbrev pub of_type : Ty → Bounds
of_type t = from_to (low t) (high t)

abbrev pub is_within : Bounds → ℤ → Bool
is_within r v = int_le r.low v && int_le v r.high

pub record IsWithin (r : Bounds) (v : ℤ) : Type 0 where
  pub above : r.low ≤ℤ v
  pub below : v ≤ℤ r.high

-- as many numbers as bounds, each within its own
abbrev pub AreWithin : List Bounds → List ℤ → Type 0
AreWithin [] [] = Unit {0}
AreWithin (r ∷ rs) (v ∷ vs) = IsWithin r v × AreWithin rs vs
AreWithin [] (v ∷ vs) = ⊥
AreWithin (r ∷ rs) [] = ⊥

-- one list for each block, within the bounds that its spec gives
abbrev pub AreByBlock : (Spec → List Bounds) → List Spec → List (List ℤ) → Type 0
AreByBlock bounds [] [] = Unit {0}
AreByBlock bounds (s ∷ ss) (vs ∷ rows) = AreWithin (bounds s) vs × AreByBlock bounds ss rows
AreByBlock bounds [] (vs ∷ rows) = ⊥
AreByBlock bounds (s ∷ ss) [] = ⊥

-- a counter counts from 0 to below its base
abbrev pub state_bound_by : Role → Spec → Bounds
state_bound_by (State Counter) s = from_to (pos 0) (param s 0 -ℤ pos 1)
state_bound_by (State Elements) s = of_type (out_type s)
state_bound_by (State Moving) s = of_type (out_type s)
state_bound_by Values s = of_type (out_type s)
state_bound_by Delay s = of_type (out_type s)
state_bound_by Branch s = of_type (out_type s)
state_bound_by Senses s = of_type (out_type s)
state_bound_by Halts s = of_type (out_type s)

abbrev pub state_bound_of : Kind → Spec → Bounds
state_bound_of c s = state_bound_by (role_of c) s

-- a state has numbers of the type of the block's output
abbrev pub state_bounds : Spec → List Bounds
state_bounds s = replicate (state_len_of s.kind s) (state_bound_of s.kind s)

-- each output holds a number of its type for each of its elements
abbrev pub port_bounds : List Port → List Bounds
port_bounds [] = []
port_bounds (p ∷ ps) = replicate (elements p) (of_type (type_of p)) ++ port_bounds ps

abbrev pub held_bounds : Spec → List Bounds
held_bounds s = port_bounds s.outs

-- a sensor has taken at most the values of its column
abbrev pub cursor_bounds : Columns → Spec → List Bounds
cursor_bounds i s = if is_sensor s.kind then from_to (pos 0) (pos (length (numbered [] i (column_of s)))) ∷ [] else []

-- each column has fewer than 2^63 values, as columns in memory do
abbrev pub AreShort : Columns → Type 0
AreShort i = (k : ℕ) → length (numbered [] i k) < 2 ^ 63

-- the word and the bounds of a block's line
abbrev pub word_of : BlockLine → List ℕ
word_of State = codes "state"
word_of Held = codes "held"
word_of Cursor = codes "cursor"

abbrev pub bounds_of : BlockLine → Columns → Spec → List Bounds
bounds_of State i s = state_bounds s
bounds_of Held i s = held_bounds s
bounds_of Cursor i s = cursor_bounds i s
