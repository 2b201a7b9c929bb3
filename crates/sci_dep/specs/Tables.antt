-- The possible blocks of a source, and what they depend on.
use Rattle.std.specs.Prelude.{◌≡◌, ℕ, ◌⊎◌, ◌↔◌, List, [], length, Contains}
use Rattle.std.specs.List.Sorted.{IsStrictlyIncreasing}
use Rattle.sci_loop.specs.declared.table.DepTable.{DepTable}
use Rattle.sci_loop.specs.Table.{Needs, IsTable}
use Rattle.sci_net.specs.declared.Source.{Source}
use Rattle.sci_net.specs.Parts.{Parts, numbered}
use Rattle.sci_reaction.specs.Links.{SuppliesThrough}
use Rattle.sci_reaction.specs.Active.{Possible}
use Rattle.sci_reaction.specs.Depends.{Conditions, Depends}

-- by block, counted from 1, the blocks that it waits for whatever the source is: for a value on an input with feedthrough, or for the
-- choice of a branch that may activate it
pub record AreWaits (n : Parts) (w : List (List ℕ)) : Type 0 where
  pub enough : length w ≡ length n.specs
  pub rising : (c : ℕ) → IsStrictlyIncreasing (numbered [] w c)
  pub exactly : (c b : ℕ) → Contains (numbered [] w c) b ↔ (SuppliesThrough n b c ⊎ Conditions n b c)

-- the blocks that the source may activate
abbrev pub ArePossible : Parts → Source → List ℕ → Type 0
ArePossible n s bs = (b : ℕ) → Contains bs b ↔ Possible n s b

-- the dependencies among the possible blocks
pub record IsTableOf (n : Parts) (s : Source) (t : DepTable) : Type 0 where
  pub well_formed : IsTable t
  pub members : (b : ℕ) → Contains t.members.items b ↔ Possible n s b
  pub needs : (c b : ℕ) → Needs t c b ↔ Depends n s c b
