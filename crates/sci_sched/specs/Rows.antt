-- Rows, as they are built.
use Rattle.std.specs.Prelude.{◌≡◌, ℕ, ◌<◌, ◌↔◌, true, List, [], length, map, All, Contains, slice_index, slice_index_or}
use Rattle.sci_loop.specs.Lists.{plain, list_at}
use Rattle.sci_net.specs.Parts.{Parts, numbered}
use Rattle.sci_net.specs.Sources.{source_of}
use Rattle.sci_reaction.specs.Schedule.{Entry as PlainEntry, IsRow}
use Rattle.sci_inherit.specs.Origins.{Origins}
use Rattle.sci_reaction.specs.declared.entry.Entry.{Entry}
use Rattle.sci_sched.specs.declared.marks.Marks.{Marks}
use Rattle.sci_sched.specs.Guards.{AreGuards}

-- the entry of its block, by what is marked of a source
pub record IsMarkedEntry (n : Parts) (r : Origins) (m : Marks) (e : Entry) : Type 0 where
  pub always : (e.always ≡ true) ↔ Contains m.always.found e.block
  pub mask : e.mask ≡ slice_index m.masks.items e.block
  pub guards : AreGuards n (list_at (plain m.conditions.items) e.block) (numbered [] r.branches e.block) e.block e.guards.items

-- one for each of these blocks
pub record AreEntries (n : Parts) (r : Origins) (m : Marks) (blocks : List ℕ) (es : List Entry) : Type 0 where
  pub blocks_are : map (λ (e : Entry). e.block) es ≡ blocks
  pub entries_are : All (IsMarkedEntry n r m) es

-- the rows of the first k sources
pub record AreRows (n : Parts) (k : ℕ) (rows : List (List PlainEntry)) : Type 0 where
  pub long : length rows ≡ k
  pub each : (i : ℕ) → i < k → IsRow n (source_of n i) (slice_index_or rows i [])
