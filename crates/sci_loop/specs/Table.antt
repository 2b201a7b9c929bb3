-- A table of dependencies.
use Rattle.std.specs.Prelude.{◌≡◌, ℕ, ◌<◌, List, length, Contains, All, Some, slice_get, slice_index, Vec}
use Rattle.std.specs.List.Sorted.{IsStrictlyIncreasing}
use Rattle.std.specs.declared.alloc.Global.{Global}
use Rattle.sci_loop.specs.declared.table.DepTable.{DepTable}

-- member c depends on member b
abbrev pub Needs : DepTable → ℕ → ℕ → Type 0
Needs t c b =
    (i : ℕ) × (row : Vec ℕ Global) × (slice_get t.members.items i ≡ Some c) × (slice_get t.needs.items i ≡ Some row) × Contains row.items b

-- some member depends on some member
pub record HasNeeds (t : DepTable) : Type 0 where
  pub member : ℕ
  pub need : ℕ
  pub needs : Needs t member need

-- one of these lists has a number
pub record HasNumber (rows : List (Vec ℕ Global)) : Type 0 where
  pub place : ℕ
  pub row : Vec ℕ Global
  pub row_is : slice_get rows place ≡ Some row
  pub some : 0 < length row.items

-- the same by places
abbrev pub NeedsAt : DepTable → ℕ → ℕ → Type 0
NeedsAt t i j = Needs t (slice_index t.members.items i) (slice_index t.members.items j)

-- the needs of one member rise strictly, and are members
pub record IsRow (members : List ℕ) (row : Vec ℕ Global) : Type 0 where
  pub rising : IsStrictlyIncreasing row.items
  pub closed : All (Contains members) row.items

-- well formed: members rise strictly, and each has a list of needs that rises strictly and holds members alone
pub record IsTable (t : DepTable) : Type 0 where
  pub rising : IsStrictlyIncreasing t.members.items
  pub rows : length t.needs.items ≡ length t.members.items
  pub each : All (IsRow t.members.items) t.needs.items

-- the list has the place of each member at the member's number
pub record ArePlaces (members places : List ℕ) : Type 0 where
  pub within : (i : ℕ) → i < length members → slice_index members i < length places
  pub listed : (i : ℕ) → i < length members → slice_index places (slice_index members i) ≡ i
