-- What is found of each source before its row is built.
use Rattle.std.specs.Prelude.{◌≡◌, ℕ, ◌+◌, ◌<◌, ◌≤◌, ◌^◌, ◌↔◌, List, [], length, AllPairs, Contains, sum_by, count_by, slice_index, slice_index_or, take}
use Rattle.sci_net.specs.declared.Feed.{Feed}
use Rattle.sci_net.specs.declared.Source.{Source}
use Rattle.sci_net.specs.Parts.{Parts, numbered}
use Rattle.sci_net.specs.Sources.{source_of}
use Rattle.sci_reaction.specs.Active.{Possible}
use Rattle.sci_reaction.specs.Depends.{HasDepth, IsLoopFree, Precedes}
use Rattle.sci_reaction.specs.Schedule.{Entry, IsRow}
use Rattle.sci_inherit.specs.Origins.{Origins}
use Rattle.sci_sched.specs.declared.outline.Outline.{Outline}
use Rattle.sci_sched.specs.Depths.{AreDepthsOf}
use Rattle.sci_sched.specs.Guards.{is_possible, is_of}
use Rattle.sci_sched.specs.Size.{guards_in}

-- the possible blocks of a source without a loop, by depth and number
pub record AreOrdered (n : Parts) (s : Source) (bs : List ℕ) : Type 0 where
  pub free : IsLoopFree n s
  pub exactly : (b : ℕ) → Contains bs b ↔ Possible n s b
  pub ordered : AllPairs (Precedes n s) bs

-- how many entries and guards the row has
abbrev pub outline_size : Outline → ℕ
outline_size o = length o.blocks.items + o.guards

-- a source without a loop: its blocks with their depths, and as many guards as its row has
pub record IsOutline (n : Parts) (s : Source) (o : Outline) : Type 0 where
  pub blocks : AreOrdered n s o.blocks.items
  pub depths : AreDepthsOf (HasDepth n s) o.blocks.items o.depths.items
  pub guards : (row : List Entry) → IsRow n s row → guards_in row ≡ o.guards
  pub few : outline_size o ≤ 2 ^ 29

-- of each of the first k sources
pub record AreOutlines (n : Parts) (k : ℕ) (os : List Outline) : Type 0 where
  pub long : length os ≡ k
  pub each : (i : ℕ) (d : Outline) → i < k → IsOutline n (source_of n i) (slice_index_or os i d)

-- how many guards block b has, where these are the possible blocks
abbrev pub guards_at : Origins → List ℕ → ℕ → ℕ
guards_at r possible b = count_by (is_possible possible) (numbered [] r.branches b)

-- how many guards block c gives where it is possible: one for each of its branches and each block that the branch reaches
abbrev pub guards_by : Origins → ℕ → ℕ
guards_by r c = sum_by (λ qs. count_by (is_of c) qs) r.branches

-- a count has so many more of a block's branches
pub record AddsBranches (branches : List Feed) (old new : List ℕ) : Type 0 where
  pub long : length new ≡ length old
  pub counts : (c : ℕ) → c < length old → slice_index new c ≡ slice_index old c + count_by (is_of c) branches

-- by number, from 0 on, how many guards each block gives, of the first k lists of branches
pub record CountsTo (r : Origins) (k : ℕ) (counts : List ℕ) : Type 0 where
  pub long : length counts ≡ length r.branches + 1
  pub counts_are : (c : ℕ) → c < length counts → slice_index counts c ≡ sum_by (λ qs. count_by (is_of c) qs) (take k r.branches)

-- the same of all
pub record AreCounts (r : Origins) (counts : List ℕ) : Type 0 where
  pub long : length counts ≡ length r.branches + 1
  pub counts_are : (c : ℕ) → c < length counts → slice_index counts c ≡ guards_by r c
