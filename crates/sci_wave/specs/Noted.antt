-- What is noted of a net that runs.
use Rattle.std.specs.Prelude.{◌≡◌, ℕ, ◌+◌, ◌-◌, ◌<◌, ◌≤◌, ◌⊎◌, ℤ, List, take, drop, length, slice_index, true, if◌then◌else◌}
use Rattle.sci_forms.specs.Ports.{total, Fills}
use Rattle.sci_net.specs.Parts.{Parts, IsBlock, spec_of}
use Rattle.sci_places.specs.Flat.{start_of, values_at, IsWhole}
use Rattle.sci_vcd.specs.Signals.{signals_of, AreStarts}
use Rattle.sci_vcd.specs.Writing.{Writing, with_notes}
use Rattle.sci_run.specs.Run.{State}
use Rattle.sci_bank.specs.Bank.{Meaning}
use Rattle.sci_store.specs.Marks.{mark_at}
use Rattle.sci_sim.specs.At.{Running, IsAt}

-- the signals are those of the net
pub record IsOf (n : Parts) (o : Writing) : Type 0 where
  pub signals : o.signals ≡ signals_of n
  pub starts : AreStarts n o.starts

-- the values that the outputs of a block hold
abbrev pub holds_there : Running → ℕ → List ℤ
holds_there r b = values_at r.fixed.net r.store.values b

-- they are in range
abbrev pub IsMemoryThere : Running → Type 0
IsMemoryThere r = (b : ℕ) → IsBlock r.fixed.net b → Fills (spec_of r.fixed.net b).outs (holds_there r b)

-- the values that the outputs of blocks hold, from one block to another
abbrev pub holds_between : Running → (first last : ℕ) → List ℤ
holds_between r b l =
    let start = start_of r.fixed.net b in
    take ((start_of r.fixed.net l + total (spec_of r.fixed.net l).outs) - start) (drop start r.store.values)

-- these are noted
abbrev pub with_run : Running → Writing → (first last : ℕ) → Writing
with_run r o b l = with_notes o (start_of r.fixed.net b) (holds_between r b l)

-- The last reaction activated the blocks from place k to before place e of these, and their numbers adjoin.
pub record IsActiveRun (r : Running) (blocks : List ℕ) (k e : ℕ) : Type 0 where
  pub least : k < e
  pub most : e ≤ length blocks
  pub adjoin : (i : ℕ) → k ≤ i → i < e → slice_index blocks i ≡ slice_index blocks k + (i - k)
  pub active : (i : ℕ) → k ≤ i → i < e → (mark_at r.store.marks (slice_index blocks i)).active ≡ true

-- Of the first k of these blocks those that the last reaction activated are noted, and no other is.
pub record AreNotedTo (r : Running) (old now : List ℤ) (blocks : List ℕ) (k : ℕ) : Type 0 where
  pub whole : IsWhole r.fixed.net now
  pub done : (i : ℕ) → i < k → (mark_at r.store.marks (slice_index blocks i)).active ≡ true → values_at r.fixed.net now (slice_index blocks i) ≡ holds_there r (slice_index blocks i)
  pub each : (b : ℕ) → IsBlock r.fixed.net b
      → (values_at r.fixed.net now b ≡ values_at r.fixed.net old b) ⊎ (((mark_at r.store.marks b).active ≡ true) × (values_at r.fixed.net now b ≡ holds_there r b))

-- of the blocks that the last reaction activated what they hold is noted; of the others what was noted before
abbrev pub NotesActive : Running → (old new : Writing) → Type 0
NotesActive r old new =
    (banks : List Meaning) (st : State) → IsAt r banks st → (b : ℕ) → IsBlock r.fixed.net b
    → values_at r.fixed.net new.noted b ≡ (if st.active b then st.memory.held b else values_at r.fixed.net old.noted b)
