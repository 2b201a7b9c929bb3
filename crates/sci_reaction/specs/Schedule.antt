-- The schedule of a source.
use Rattle.std.specs.Prelude.{◌≡◌, ℕ, ◌<◌, ◌↔◌, Bool, true, List, [], map, length, slice_index_or, All, AllPairs, Contains}
use Rattle.sci_net.specs.declared.Feed.{Feed}
use Rattle.sci_net.specs.declared.Source.{Source}
use Rattle.sci_net.specs.Parts.{Parts, feeds_of, precedes}
use Rattle.sci_net.specs.Sources.{sources_of, source_of}
use Rattle.sci_reaction.specs.Links.{SourceFeeds}
use Rattle.sci_reaction.specs.Active.{IsSync, Possible, IsAlways, Reaches}
use Rattle.sci_reaction.specs.Depends.{HasDepth, Precedes}
use Rattle.sci_reaction.specs.Equations.{HasBits}

-- a branch that may activate a block, by the synchronous block and its port, and the activation inputs that it feeds
pub record Guard : Type 0 where
  pub block : ℕ
  pub port : ℕ
  pub mask : ℕ

abbrev pub branch_of : Guard → Feed
branch_of g = record { block = g.block; port = g.port }

-- a possible block: its depth, whether the source activates it whatever the values are, the activation inputs that the source feeds, and its guards
pub record Entry : Type 0 where
  pub block : ℕ
  pub depth : ℕ
  pub always : Bool
  pub mask : ℕ
  pub guards : List Guard

-- g is a branch of a possible synchronous block that reaches b
pub record IsGuard (n : Parts) (s : Source) (b : ℕ) (g : Guard) : Type 0 where
  pub possible : Possible n s g.block
  pub sync : IsSync n g.block
  pub reaches : Reaches n (branch_of g) b
  pub feeds : HasBits g.mask (λ p. Contains (feeds_of n b p) (branch_of g))

pub record IsEntry (n : Parts) (s : Source) (e : Entry) : Type 0 where
  pub depth_is : HasDepth n s e.block e.depth
  pub always_is : (e.always ≡ true) ↔ IsAlways n s e.block
  pub mask_is : HasBits e.mask (SourceFeeds n s e.block)
  pub rising : AllPairs (λ g h. precedes (branch_of g) (branch_of h) ≡ true) e.guards
  pub guards_are : (g : Guard) → Contains e.guards g ↔ IsGuard n s e.block g

abbrev pub blocks_of : List Entry → List ℕ
blocks_of es = map (λ e. e.block) es

-- the possible blocks, each with its entry, by depth and number
pub record IsRow (n : Parts) (s : Source) (row : List Entry) : Type 0 where
  pub exactly : (b : ℕ) → Contains (blocks_of row) b ↔ Possible n s b
  pub ordered : AllPairs (λ d e. Precedes n s d.block e.block) row
  pub entries : All (IsEntry n s) row

-- a row for each source of the net, in their order: start, and then the others by block and port
pub record IsSchedule (n : Parts) (rows : List (List Entry)) : Type 0 where
  pub enough : length rows ≡ length (sources_of n)
  pub each : (k : ℕ) → k < length rows → IsRow n (source_of n k) (slice_index_or rows k [])
