-- Which blocks the rows of a schedule let act, where some branches are dead.
use Rattle.std.specs.Prelude.{◌≡◌, ℕ, ◌+◌, ◌<◌, Bool, true, false, not, ◌&&◌, ◌||◌, nat_eq, if◌then◌else◌, List, [], ◌∷◌, length, replicate, slice_set, slice_index_or, map, Option, Some, None}
use Rattle.std.specs.List.{list_any}
use Rattle.sci_base.specs.Lists.{truth_at}
use Rattle.sci_net.specs.declared.Feed.{Feed}
use Rattle.sci_net.specs.Parts.{Parts}
use Rattle.sci_net.specs.Sources.{source_of}
use Rattle.sci_reaction.specs.Schedule.{Guard, Entry, IsSchedule}
use Rattle.sci_pending.specs.Pending.{Event, next}
use Rattle.sci_run.specs.Programs.{first_pending}
use Rattle.sci_ranges_reads.specs.Live.{Dead, IsLive, IsQuiet}

-- by block and branch, both counted from 1, whether it is dead
abbrev pub dead_of : List (List Bool) → Dead
dead_of ds c p = truth_at (slice_index_or ds c []) p

-- ---- one row

-- the branch of a guard may be taken: its block is marked, and it isn't dead
abbrev pub lets : Dead → List Bool → Guard → Bool
lets dead acts g = truth_at acts g.block && not (dead g.block g.port)

-- the source activates the block of the entry whatever the values are, or a branch may
abbrev pub is_let : Dead → List Bool → Entry → Bool
is_let dead acts e = e.always || list_any (lets dead acts) e.guards

-- entry by entry, each block is marked where it may act
abbrev pub acts_along : Dead → List Bool → List Entry → List Bool
acts_along dead acts [] = acts
acts_along dead acts (e ∷ es) = acts_along dead (slice_set acts e.block (is_let dead acts e)) es

-- of so many blocks, counted from 1
abbrev pub acts_in : Dead → ℕ → List Entry → List Bool
acts_in dead count row = acts_along dead (replicate (count + 1) false) row

-- the entry of a block
abbrev pub entry_of : List Entry → ℕ → Option Entry
entry_of [] b = None
entry_of (e ∷ es) b = if nat_eq e.block b then Some e else entry_of es b

-- ---- all rows

-- The rows of a schedule and which branches are dead; by the place of its source which sources are live and which blocks each may activate; the place of the
-- event that fires first, where start programs nothing; and by block the branch under which alone it may act, where one was found.
pub record Marks : Type 0 where
  pub rows : List (List Entry)
  pub dead : List (List Bool)
  pub live : List Bool
  pub acts : List (List Bool)
  pub first : Option ℕ
  pub under : List (Option Feed)

abbrev pub row_at : Marks → ℕ → List Entry
row_at m k = slice_index_or m.rows k []

abbrev pub acts_at : Marks → ℕ → List Bool
acts_at m k = slice_index_or m.acts k []

abbrev pub entry_at : Marks → ℕ → ℕ → Option Entry
entry_at m k b = entry_of (row_at m k) b

-- the source is live and may activate the block
abbrev pub may_act : Marks → ℕ → ℕ → Bool
may_act m k b = truth_at m.live k && truth_at (acts_at m k) b

-- the rows are those of the net, and the marks of blocks those of the rows
pub record AreActs (n : Parts) (m : Marks) : Type 0 where
  pub rows : IsSchedule n m.rows
  pub marks : m.acts ≡ map (acts_in (dead_of m.dead) (length n.specs)) m.rows

-- and each source that is live is marked, and the first event's place is known where start programs nothing
pub record AreMarks (n : Parts) (m : Marks) : Type 0 where
  pub acts : AreActs n m
  pub live : (k : ℕ) → IsLive n (dead_of m.dead) (source_of n k) → k < length m.rows → truth_at m.live k ≡ true
  pub quiet : (f : ℕ) → m.first ≡ Some f → IsQuiet n (dead_of m.dead)
  pub first : (f : ℕ) → m.first ≡ Some f → (e : Event) × (next (first_pending n).events ≡ Some e) × (e.source ≡ f)
