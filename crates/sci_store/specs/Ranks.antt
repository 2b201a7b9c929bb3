-- Where entries stand in the order in which their blocks are called.
use Rattle.std.specs.Prelude.{◌≡◌, ◌≢◌, ◌↔◌, ℕ, ◌<◌, Bool, true, ◌&&◌, nat_eq, List, length, map, slice_index_or, All, AllPairs}
use Rattle.std.specs.List.{filter}
use mathlib.Core.Bool.{beq}
use Rattle.std.specs.List.Sorted.{IsPermutation}
use Rattle.sci_forms.specs.Numbers.{number_of}
use Rattle.sci_reaction.specs.declared.entry.Entry.{Entry}
use Rattle.sci_reaction.specs.Kept.{entries_of}
use Rattle.sci_bank.specs.declared.runs.Call.{Call}
use Rattle.sci_store.specs.declared.row.Run.{Run}
use Rattle.sci_store.specs.declared.row.CallRank.{CallRank}
use Rattle.sci_store.specs.Frame.{Fixed, seat_of}
use Rattle.sci_store.specs.Rows.{is_guarded, IsAlone, StandsBefore, call_of, IsRun}

-- two blocks that follow one another are of one run
abbrev pub are_alike : CallRank → CallRank → Bool
are_alike r q = nat_eq r.depth q.depth && (beq r.guarded q.guarded && (beq r.alone q.alone && nat_eq r.kind q.kind))

-- what a rank tells of an entry, its depth and its place apart
pub record IsRankOf (f : Fixed) (e : Entry) (r : CallRank) : Type 0 where
  pub guarded_is : r.guarded ≡ is_guarded e
  pub alone_is : (r.alone ≡ true) ↔ IsAlone f e.block
  pub kind_is : r.kind ≡ number_of (seat_of f e.block).kind
  pub block_is : r.block ≡ e.block

-- one for each of these entries, with the depth that is meant
pub record AreRanksOf (f : Fixed) (depth : Entry → ℕ) (sorted : List Entry) (ranks : List CallRank) : Type 0 where
  pub one_each : length ranks ≡ length sorted
  pub depths : map (λ (r : CallRank). r.depth) ranks ≡ map depth sorted
  pub ranks_are : (k : ℕ) (e : Entry) (r : CallRank) → k < length sorted → IsRankOf f (slice_index_or sorted k e) (slice_index_or ranks k r)

-- these entries are at the places that the ranks tell
abbrev pub AreAt : List Entry → List CallRank → List Entry → Type 0
AreAt es ranks sorted =
    (k : ℕ) (e : Entry) (r : CallRank) → k < length ranks
    → ((slice_index_or ranks k r).at < length es) × (slice_index_or es (slice_index_or ranks k r).at e ≡ slice_index_or sorted k e)

-- one for each of the entries that are meant, in order
pub record AreRanked (f : Fixed) (is : Entry → Bool) (depth : Entry → ℕ) (es : List Entry) (ranks : List CallRank) : Type 0 where
  pub sorted : List Entry
  pub same : IsPermutation (filter is es) sorted
  pub ordered : AllPairs (StandsBefore f depth) sorted
  pub ranks_of : AreRanksOf f depth sorted ranks
  pub at_places : AreAt es ranks sorted
  pub apart : AllPairs (λ (r q : CallRank). r.at ≢ q.at) ranks

-- ---- what is made by ranks, whichever entries they order, and by whichever depth

-- the calls of the entries in order
abbrev pub AreCallsBy : Fixed → (es : List Entry) → (ranks : List CallRank) → List Call → Type 0
AreCallsBy f es ranks calls =
    (depth : Entry → ℕ) (sorted : List Entry) → AreRanksOf f depth sorted ranks → AreAt es ranks sorted → calls ≡ map (call_of f) sorted

-- their runs
abbrev pub AreRunsBy : Fixed → (ranks : List CallRank) → List Run → Type 0
AreRunsBy f ranks runs = (depth : Entry → ℕ) (sorted : List Entry) → AreRanksOf f depth sorted ranks → All (IsRun f depth sorted) runs

-- those that guards may leave idle
abbrev pub AreGuardedBy : (es : List Entry) → (ranks : List CallRank) → (guarded : List Entry) → Type 0
AreGuardedBy es ranks guarded =
    (f : Fixed) (depth : Entry → ℕ) (sorted : List Entry) → AreRanksOf f depth sorted ranks → AreAt es ranks sorted
    → entries_of guarded ≡ entries_of (filter is_guarded sorted)
