-- The possible blocks of a source, round by round: what is done, what is ready, and on how many blocks that aren't done the others depend.
use Rattle.std.specs.Prelude.{◌≡◌, ℕ, ◌+◌, ◌<◌, ◌↔◌, ◌++◌, ◌∷◌, [], List, if◌then◌else◌, not, map, length, take, slice_index, slice_index_or, All, Contains, nat_eq}
use Rattle.std.specs.List.{IsDistinct, count_by}
use Rattle.std.specs.Set.{is_member}
use Rattle.sci_loop.specs.declared.table.DepTable.{DepTable}
use Rattle.sci_loop.specs.Table.{Needs, IsTable}
use Rattle.sci_loop.specs.Lists.{plain, list_at}
use Rattle.sci_net.specs.declared.Source.{Source}
use Rattle.sci_net.specs.Parts.{Parts}
use Rattle.sci_reaction.specs.Active.{Possible}
use Rattle.sci_reaction.specs.Depends.{Precedes}
use Rattle.sci_rounds.specs.Rounds.{IsReady}
use Rattle.sci_judge.specs.declared.rounds.BlockRound.{BlockRound}

-- ---- the possible blocks in order

-- By rounds, and each round by number: each block is ready once those before it are done, and all that stand before it by depth and number do so here.
pub record AreByRounds (n : Parts) (s : Source) (blocks : List ℕ) : Type 0 where
  pub exactly : (b : ℕ) → Contains blocks b ↔ Possible n s b
  pub ready : (k : ℕ) → k < length blocks → IsReady n s (take k blocks) (slice_index blocks k)
  pub earlier : (k c : ℕ) → k < length blocks → Possible n s c → Precedes n s c (slice_index blocks k) → Contains (take k blocks) c

-- the blocks of ranks
abbrev pub ranked : List BlockRound → List ℕ
ranked rs = map (λ (r : BlockRound). r.block) rs

-- ---- counts of what is open

-- how many of these blocks aren't done
abbrev pub open_among : List ℕ → List ℕ → ℕ
open_among done blocks = count_by (λ b. not (is_member nat_eq done b)) blocks

-- the members that the member at a place depends on
abbrev pub needs_at : DepTable → ℕ → List ℕ
needs_at t i = list_at (plain t.needs.items) i

abbrev pub count_at : List ℕ → ℕ → ℕ
count_at counts b = slice_index_or counts b 0

-- by number, on how many members that aren't done each member depends
abbrev pub AreCounts : DepTable → List ℕ → List ℕ → Type 0
AreCounts t done counts = (i : ℕ) → i < length t.members.items → count_at counts (slice_index t.members.items i) ≡ open_among done (needs_at t i)

-- by number, the members that depend on a block, each once
pub record AreWaiting (t : DepTable) (count : ℕ) (lists : List (List ℕ)) : Type 0 where
  pub long : length lists ≡ count
  pub once : (b : ℕ) → IsDistinct nat_eq (list_at lists b)
  pub exactly : (b c : ℕ) → Contains (list_at lists b) c ↔ Needs t c b

-- the member stands at the end of the lists of these blocks, and the other lists stay
pub record IsPutTo (blocks : List ℕ) (member : ℕ) (old new : List (List ℕ)) : Type 0 where
  pub long : length new ≡ length old
  pub each : (b : ℕ) → list_at new b ≡ list_at old b ++ (if is_member nat_eq blocks b then member ∷ [] else [])

-- each of these has one open dependency less
pub record IsReleased (blocks old new : List ℕ) : Type 0 where
  pub long : length new ≡ length old
  pub each : (b : ℕ) → count_at new b + (if is_member nat_eq blocks b then 1 else 0) ≡ count_at old b

-- ---- between two blocks

-- These are done and these are ready: together the members that depend on no member that isn't done, each once.
pub record IsStage (t : DepTable) (done ready counts : List ℕ) : Type 0 where
  pub counts_are : AreCounts t done counts
  pub members : (b : ℕ) → Contains (done ++ ready) b → Contains t.members.items b
  pub ready_are : (b : ℕ) → Contains t.members.items b → Contains (done ++ ready) b ↔ (count_at counts b ≡ 0)
  pub once : IsDistinct nat_eq (done ++ ready)

-- The same, with the lists by number of the members that depend on a block, and with a count for each member.
pub record IsStageOf (t : DepTable) (lists : List (List ℕ)) (done ready counts : List ℕ) : Type 0 where
  pub table : IsTable t
  pub below : All (λ b. b < length counts) t.members.items
  pub waiting : AreWaiting t (length counts) lists
  pub stage : IsStage t done ready counts
