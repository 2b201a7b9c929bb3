-- Depths by number, and the order that they give.
use Rattle.std.specs.Prelude.{◌≡◌, ℕ, ◌<◌, ◌≤◌, ◌⊎◌, List, length, Contains, slice_index}
use Rattle.sci_loop.specs.Depth.{IsDepth}
use Rattle.sci_loop.specs.declared.table.DepTable.{DepTable}
use Rattle.sci_loop.specs.Table.{Needs}
use Rattle.sci_sched.specs.declared.ranks.Rank.{Rank}

-- one of the blocks has this depth
pub record ReachesDepth (depths blocks : List ℕ) (d : ℕ) : Type 0 where
  pub block : ℕ
  pub one : Contains blocks block
  pub depth : slice_index depths block ≡ d

-- the greatest depth of these blocks, or 0
pub record IsDeepest (depths blocks : List ℕ) (d : ℕ) : Type 0 where
  pub most : (b : ℕ) → Contains blocks b → slice_index depths b ≤ d
  pub some : (d ≡ 0) ⊎ ReachesDepth depths blocks d

abbrev pub HaveDepths : DepTable → List ℕ → Type 0
HaveDepths t depths = (c : ℕ) → Contains t.members.items c → IsDepth (Needs t) c (slice_index depths c)

-- the first k of the order have their depths, none of which is more than k
pub record DepthsTo (t : DepTable) (order : List ℕ) (k : ℕ) (depths : List ℕ) : Type 0 where
  pub known : (m : ℕ) → m < k → IsDepth (Needs t) (slice_index order m) (slice_index depths (slice_index order m))
  pub low : (m : ℕ) → m < k → slice_index depths (slice_index order m) ≤ k

abbrev pub rank : List ℕ → ℕ → Rank
rank depths b = record { depth = slice_index depths b; block = b }

-- by depth and number
abbrev pub IsBefore : List ℕ → ℕ → ℕ → Type 0
IsBefore depths a b = (slice_index depths a < slice_index depths b) ⊎ ((slice_index depths a ≡ slice_index depths b) × (a < b))

-- a has a smaller depth than b, or the same and a smaller number
pub record Outranks (needs : ℕ → ℕ → Type 0) (a b : ℕ) : Type 0 where
  pub depth : ℕ
  pub later_depth : ℕ
  pub has : IsDepth needs a depth
  pub later_has : IsDepth needs b later_depth
  pub less : (depth < later_depth) ⊎ ((depth ≡ later_depth) × (a < b))

-- one for each of these blocks: its depth
pub record AreDepthsOf (has : ℕ → ℕ → Type 0) (blocks depths : List ℕ) : Type 0 where
  pub one_each : length depths ≡ length blocks
  pub each : (k : ℕ) → k < length blocks → has (slice_index blocks k) (slice_index depths k)
