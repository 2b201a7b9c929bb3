-- A dump follows a run.
use Rattle.std.specs.Prelude.{◌≡◌, ℕ, ◌-◌, ◌<◌, ◌≤◌, List, Option, [], nat_eq, if◌then◌else◌}
use Rattle.sci_base.specs.Lists.{at}
use Rattle.sci_forms.specs.Ports.{total}
use Rattle.sci_net.specs.Parts.{Parts, IsBlock, spec_of}
use Rattle.sci_places.specs.Flat.{values_at}
use Rattle.sci_reaction.specs.Memory.{first_memory}
use Rattle.sci_run.specs.Run.{State}
use Rattle.sci_vcd.specs.Waveforms.{Waveforms}
use Rattle.sci_vcd.specs.Signals.{number_of}
use Rattle.sci_vcd.specs.Writing.{Writing, MayClose, HasTold, told_value, tick_text, closed_at}
use Rattle.sci_wave.specs.History.{memory_at}
use Rattle.sci_wave.specs.Noted.{IsOf}

-- The run has passed these states, the last of which is this one; before them it stands at the first state. What is held there is noted, and
-- what was held before its date is told.
pub record IsFollowed (n : Parts) (states : List State) (st : State) (told : Option Waveforms) (o : Writing) : Type 0 where
  pub of : IsOf n o
  pub has : HasTold o told
  pub may : MayClose o.closed st.now
  pub noted : (b : ℕ) → IsBlock n b → values_at n o.noted b ≡ st.memory.held b
  pub last : (t : ℕ) → st.now ≤ t → memory_at (first_memory n) states t ≡ st.memory
  pub shown : (t b e : ℕ) → t < st.now → IsBlock n b → 1 ≤ e → e ≤ total (spec_of n b).outs
      → told_value told (number_of n b e) t ≡ at ((memory_at (first_memory n) states t).held b) (e - 1)

-- the tick under way is closed where the date has moved
abbrev pub due_text : Writing → (date now : ℕ) → List ℕ
due_text o date now = if nat_eq now date then [] else tick_text o date

abbrev pub moved_to : Writing → (date now : ℕ) → Writing
moved_to o date now = if nat_eq now date then o else closed_at o date
