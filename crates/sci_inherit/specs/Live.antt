-- Blocks that some source may activate.
use Rattle.std.specs.Prelude.{◌≡◌, ℕ, ◌+◌, ◌<◌, ◌⊎◌, ◌↔◌, Bool, true, false, List, length, Contains, slice_index_or}
use Rattle.sci_loop.specs.Walk.{IsMarked}
use Rattle.sci_net.specs.declared.Source.{Source}
use Rattle.sci_net.specs.Parts.{Parts, IsBlock}
use Rattle.sci_reaction.specs.Links.{IsConstant, IsSource}
use Rattle.sci_reaction.specs.Active.{IsSync, Possible}
use Rattle.sci_inherit.specs.Followers.{FeedsSome}

-- some source may activate b
pub record IsLive (n : Parts) (b : ℕ) : Type 0 where
  pub source : Source
  pub is_source : IsSource n source
  pub possible : Possible n source b

-- ---- as they are found

-- c isn't synchronous, and an activation output of it feeds b
pub record FedFrom (n : Parts) (c b : ℕ) : Type 0 where
  pub other : IsSync n c → ⊥
  pub feeds : FeedsSome n c b

-- the same of one of the first k blocks
pub record FedFromUpto (n : Parts) (k b : ℕ) : Type 0 where
  pub block : ℕ
  pub below : block < k + 1
  pub fed : FedFrom n block b

-- start sets b off, or an activation output of one of the first k blocks
abbrev pub SetOffUpto : Parts → ℕ → ℕ → Type 0
SetOffUpto n k b = IsConstant n b ⊎ FedFromUpto n k b

-- these are the blocks that some source may activate
abbrev pub AreLive : Parts → List ℕ → Type 0
AreLive n bs = (b : ℕ) → Contains bs b ↔ IsLive n b

-- each block that isn't synchronous is marked
abbrev pub HaveSources : Parts → List Bool → Type 0
HaveSources n w = (c : ℕ) → IsBlock n c → (IsSync n c → ⊥) → IsMarked w c

-- by number, the blocks that aren't synchronous, and those that some source may activate
pub record AreWanted (n : Parts) (w : List Bool) : Type 0 where
  pub long : length w ≡ length n.specs + 1
  pub sources : HaveSources n w
  pub live : (c : ℕ) → IsBlock n c → IsSync n c → IsMarked w c ↔ IsLive n c

-- whether a block is wanted
pub record IsWanted (n : Parts) (c : ℕ) (mark : Bool) : Type 0 where
  pub source : (IsSync n c → ⊥) → mark ≡ true
  pub live : IsSync n c → (mark ≡ true) ↔ IsLive n c

-- the same of the first k blocks
pub record WantedTo (n : Parts) (k : ℕ) (w : List Bool) : Type 0 where
  pub long : length w ≡ k + 1
  pub each : (c : ℕ) → c < k → IsWanted n (c + 1) (slice_index_or w (c + 1) false)
