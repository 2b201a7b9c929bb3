-- The memory after a reaction with values.
use Rattle.std.specs.Prelude.{◌≡◌, ℕ, ◌+◌, ◌⊎◌, if◌then◌else◌}
use Rattle.sci_kinds.specs.Table.{next}
use Rattle.sci_net.specs.declared.Source.{Source}
use Rattle.sci_net.specs.Parts.{Parts, IsBlock, spec_of}
use Rattle.sci_forms.specs.Form.{is_sensor}
use Rattle.sci_reaction.specs.Memory.{Memory}
use Rattle.sci_reaction.specs.Equations.{Signals, input_in, all_inputs, Active, IsMaskOf}

-- an active block has its next state and holds its values, and a sensor has taken one more value of its column
pub record IsUpdated (n : Parts) (m : Memory) (s : Source) (y : Signals) (after : Memory) (b : ℕ) : Type 0 where
  pub active : Active n s y b
  pub mask : ℕ
  pub mask_is : IsMaskOf n s y b mask
  pub state : after.state b ≡ next (spec_of n b) (m.state b) mask (all_inputs (spec_of n b) (input_in n y b))
  pub held : after.held b ≡ y b
  pub cursor : after.cursor b ≡ (if is_sensor (spec_of n b).kind then m.cursor b + 1 else m.cursor b)

-- every other block stays as it is
pub record Stays (n : Parts) (m : Memory) (s : Source) (y : Signals) (after : Memory) (b : ℕ) : Type 0 where
  pub idle : Active n s y b → ⊥
  pub state : after.state b ≡ m.state b
  pub held : after.held b ≡ m.held b
  pub cursor : after.cursor b ≡ m.cursor b

abbrev pub IsNextMemory : Parts → Memory → Source → Signals → Memory → Type 0
IsNextMemory n m s y after = (b : ℕ) → IsBlock n b → IsUpdated n m s y after b ⊎ Stays n m s y after b
