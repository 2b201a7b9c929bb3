-- A net that stands where a run was saved.
use Rattle.std.specs.Prelude.{◌≡◌, ℕ, true, List, []}
use Rattle.sci_net.specs.Parts.{Parts, IsBlock, numbered}
use Rattle.sci_places.specs.Flat.{values_at}
use Rattle.sci_bank.specs.Bank.{Meaning}
use Rattle.sci_store.specs.Seating.{IsSeatingBy, begun}
use Rattle.sci_kept.specs.Kept.{Kept, IsUntold}
use Rattle.sci_save.specs.Saved.{Saved}
use Rattle.sci_save.specs.Resumed.{state_of}
use Rattle.sci_sim.specs.At.{Running, IsAt}

-- What a run keeps, of what was saved: blocks in their states, what outputs hold, and how many values sensors have taken. Nothing is marked or counted.
pub record IsKeptOf (n : Parts) (k : Kept) (banks : List Meaning) (m : Saved) : Type 0 where
  pub net : k.fixed.net ≡ n
  pub seated : IsSeatingBy k.fixed.net (begun k.fixed.net m.states) k.fixed.seats banks
  pub held : (b : ℕ) → IsBlock k.fixed.net b → values_at k.fixed.net k.store.values b ≡ numbered [] m.held b
  pub cursors : k.store.cursors ≡ m.cursors
  pub untold : IsUntold k

-- It has begun, and stands at the state that was saved: the banks and what was observed are counted from there on, and dates in the wheel from the
-- date that was saved. The source of its last reaction isn't saved: until the next it has the row of start, of which no block counts as active.
pub record IsRestored (n : Parts) (r : Running) (banks : List Meaning) (m : Saved) : Type 0 where
  pub net : r.fixed.net ≡ n
  pub started : r.started ≡ true
  pub at : IsAt r banks (state_of m)
  pub offset : r.offset ≡ m.now
  pub row : r.row ≡ 0
  pub lines : r.store.lines ≡ 0
  pub sum : r.store.sum ≡ 0
