-- What is saved of a run behind a reaction, as plain lists.
use Rattle.std.specs.Prelude.{ℕ, ℤ, List, []}
use Rattle.sci_net.specs.Parts.{numbered, rows_of}
use Rattle.sci_reaction.specs.Memory.{Memory}
use Rattle.sci_save.specs.declared.image.Image.{Image}

-- how many events have fired, and the date of the last reaction; by block its state, the values that its outputs hold, and how many values of its
-- column a sensor has taken; and date and source of each pending event, in the order in which they fire
pub record Saved : Type 0 where
  pub fired : ℕ
  pub now : ℕ
  pub states : List (List ℤ)
  pub held : List (List ℤ)
  pub cursors : List ℕ
  pub pending : List (ℕ × ℕ)

abbrev pub saved_of : Image → Saved
saved_of m = record {
  fired = m.fired;
  now = m.now;
  states = rows_of m.states.items;
  held = rows_of m.held.items;
  cursors = m.cursors.items;
  pending = m.pending.items;
}

-- the memory of the net
abbrev pub memory_of : Saved → Memory
memory_of m = record { state = λ b. numbered [] m.states b; held = λ b. numbered [] m.held b; cursor = λ b. numbered 0 m.cursors b }
