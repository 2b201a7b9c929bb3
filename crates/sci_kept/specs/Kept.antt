-- What a run keeps: what stays as it is, and what changes from one reaction to the next.
use Rattle.std.specs.Prelude.{◌≡◌, ℕ}
use Rattle.sci_net.specs.Parts.{IsBlock}
use Rattle.sci_reaction.specs.Memory.{first_memory}
use Rattle.sci_places.specs.Flat.{values_at}
use Rattle.sci_store.specs.Frame.{Fixed}
use Rattle.sci_store.specs.Store.{Standing, AreIdle, cursor_at}

pub record Kept : Type 0 where
  pub fixed : Fixed
  pub store : Standing

-- no block is marked, and nothing is counted
pub record IsUntold (k : Kept) : Type 0 where
  pub idle : AreIdle k.fixed k.store
  pub lines : k.store.lines ≡ 0
  pub sum : k.store.sum ≡ 0

-- before a run: all outputs hold what their blocks hold before their first activation, and no sensor has taken a value
pub record IsFirst (k : Kept) : Type 0 where
  pub held : (b : ℕ) → IsBlock k.fixed.net b → values_at k.fixed.net k.store.values b ≡ (first_memory k.fixed.net).held b
  pub cursors : (b : ℕ) → IsBlock k.fixed.net b → cursor_at k.store b ≡ 0
