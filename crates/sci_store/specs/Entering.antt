-- What goes into an active block.
use Rattle.std.specs.Prelude.{◌≡◌, ℕ, ℤ, ◌≤◌, List, [], ◌∷◌, take, length, Option, Some, None, IsSome, if◌then◌else◌}
use Rattle.sci_net.specs.Parts.{spec_of}
use Rattle.sci_forms.specs.Form.{is_sensor}
use Rattle.sci_reaction.specs.Memory.{Columns, next_value}
use Rattle.sci_reaction.specs.Equations.{input_in, all_inputs}
use Rattle.sci_places.specs.Flat.{values_at}
use Rattle.sci_store.specs.Frame.{Fixed}
use Rattle.sci_store.specs.Store.{Standing, cursor_at}

-- the values on all inputs of a block
abbrev pub inputs_of : Fixed → Standing → ℕ → List ℤ
inputs_of f s b = all_inputs (spec_of f.net b) (input_in f.net (values_at f.net s.values) b)

-- a sensor's column has a value more
abbrev pub HasNext : Fixed → Columns → Standing → ℕ → Type 0
HasNext f i s b = IsSome (next_value i (spec_of f.net b) (cursor_at s b))

-- the next value of a sensor's column, where it has one; or the values on all inputs
abbrev pub one_value : Option ℤ → Option (List ℤ)
one_value None = None
one_value (Some v) = Some (v ∷ [])

abbrev pub entered : Fixed → Columns → Standing → ℕ → Option (List ℤ)
entered f i s b =
    if is_sensor (spec_of f.net b).kind then one_value (next_value i (spec_of f.net b) (cursor_at s b))
    else Some (inputs_of f s b)

-- so many values stand in the room, or there is none
abbrev pub IsRoomFor : Option (List ℤ) → List ℤ → Option ℕ → Type 0
IsRoomFor (Some vs) room (Some count) = (count ≤ length room) × (take count room ≡ vs)
IsRoomFor None room None = Unit {0}
IsRoomFor (Some vs) room None = ⊥
IsRoomFor None room (Some count) = ⊥

abbrev pub IsEntered : Fixed → Columns → Standing → ℕ → List ℤ → Option ℕ → Type 0
IsEntered f i s b room result = IsRoomFor (entered f i s b) room result
