-- What a possible block depends on.
use Rattle.std.specs.Prelude.{ℕ, ◌⊎◌, ◌<◌, ◌≡◌}
use Rattle.sci_loop.specs.Depth.{IsDepth}
use Rattle.sci_loop.specs.Loops.{HasNoLoop}
use Rattle.sci_net.specs.declared.Source.{Source}
use Rattle.sci_net.specs.Parts.{Parts}
use Rattle.sci_reaction.specs.Links.{SuppliesThrough}
use Rattle.sci_reaction.specs.Active.{IsSync, Possible, Reaches}

-- b is synchronous and one of its activation outputs reaches c
pub record Conditions (n : Parts) (b c : ℕ) : Type 0 where
  pub sync : IsSync n b
  pub branch : ℕ
  pub reaches : Reaches n (record { block = b; port = branch }) c

-- c depends on b: for a value on an input with feedthrough, or for the choice of a branch that may activate c
pub record Depends (n : Parts) (s : Source) (c b : ℕ) : Type 0 where
  pub possible : Possible n s c
  pub on_possible : Possible n s b
  pub waits : SuppliesThrough n b c ⊎ Conditions n b c

-- the source has no algebraic loop
abbrev pub IsLoopFree : Parts → Source → Type 0
IsLoopFree n s = HasNoLoop (Depends n s)

-- a possible block has as depth the number of blocks in the longest chain of dependencies that ends at it
abbrev pub HasDepth : Parts → Source → ℕ → ℕ → Type 0
HasDepth n s b d = IsDepth (Depends n s) b d

-- a stands before b by depth and, at one depth, by number
pub record Precedes (n : Parts) (s : Source) (a b : ℕ) : Type 0 where
  pub depth : ℕ
  pub later_depth : ℕ
  pub has : HasDepth n s a depth
  pub later_has : HasDepth n s b later_depth
  pub less : (depth < later_depth) ⊎ ((depth ≡ later_depth) × (a < b))
