-- The guards of a block.
use Rattle.std.specs.Prelude.{◌≡◌, ℕ, ◌+◌, ◌<◌, ◌≤◌, ◌↔◌, Bool, eqb, List, All, Contains, filter, map, length, take, slice_index_or}
use Rattle.std.specs.List.{list_any}
use Rattle.std.specs.Int.{bit_at}
use Rattle.sci_net.specs.declared.Feed.{Feed}
use Rattle.sci_net.specs.Parts.{Parts, feeds_of}
use Rattle.sci_reaction.specs.Equations.{HasBits}
use Rattle.sci_reaction.specs.Schedule.{branch_of}
use Rattle.sci_reaction.specs.declared.entry.Guard.{Guard}
use Rattle.sci_reaction.specs.Kept.{guard_of}

-- the block of the branch is one of these
abbrev pub is_possible : List ℕ → Feed → Bool
is_possible blocks q = list_any (eqb q.block) blocks

-- the branch is of block c
abbrev pub is_of : ℕ → Feed → Bool
is_of c q = eqb q.block c

abbrev pub branch_in : Guard → Feed
branch_in g = branch_of (guard_of g)

-- one for each of these branches whose block is possible, with the activation inputs that the branch feeds
pub record AreGuards (n : Parts) (possible : List ℕ) (branches : List Feed) (b : ℕ) (gs : List Guard) : Type 0 where
  pub branches_are : map branch_in gs ≡ filter (is_possible possible) branches
  pub masks_are : All (λ g. HasBits g.mask (λ p. Contains (feeds_of n b p) (branch_in g))) gs

-- bit p - 1 is set exactly where p is in the set and at most k
pub record HasBitsTo (mask k : ℕ) (set : ℕ → Type 0) : Type 0 where
  pub exactly : (p : ℕ) → (bit_at mask p ≡ 1) ↔ ((p < k) × set (p + 1))

-- ---- places among sorted branches

-- at is the place of the first branch, from `from` on, that is of block c or a later one
pub record IsFirstFrom (branches : List Feed) (from c at : ℕ) : Type 0 where
  pub begins : from ≤ at
  pub within : at ≤ length branches
  pub before : (i : ℕ) (d : Feed) → from ≤ i → i < at → (slice_index_or branches i d).block < c
  pub after : (i : ℕ) (d : Feed) → at ≤ i → i < length branches → c ≤ (slice_index_or branches i d).block

-- the branches from `from` on that are of block c end before at
pub record EndsRun (branches : List Feed) (from c at : ℕ) : Type 0 where
  pub begins : from ≤ at
  pub within : at ≤ length branches
  pub other : (d : Feed) → at < length branches → (slice_index_or branches at d).block ≡ c → ⊥

-- the guards of the branches before at, with those of the first k conditions; each other branch is of a later block than these
pub record GuardsTo (n : Parts) (conditions : List ℕ) (branches : List Feed) (b k at : ℕ) (gs : List Guard) : Type 0 where
  pub within : at ≤ length branches
  pub guards : AreGuards n conditions (take at branches) b gs
  pub later : (i : ℕ) (d : Feed) (c : ℕ) → at ≤ i → i < length branches → Contains (take k conditions) c → c < (slice_index_or branches i d).block
