-- What a search for a loop has come to.
use Rattle.std.specs.Prelude.{◌≡◌, ℕ, ◌+◌, ◌-◌, ◌*◌, ◌<◌, Bool, true, false, List, length, Contains, Some, slice_get, slice_index, slice_index_or, Vec, count_by, not}
use Rattle.std.specs.declared.alloc.Global.{Global}
use Rattle.sci_loop.specs.Grounded.{Grounded}
use Rattle.sci_loop.specs.declared.table.DepTable.{DepTable}
use Rattle.sci_loop.specs.declared.search.Search.{Search}
use Rattle.sci_loop.specs.Table.{Needs, NeedsAt}

-- the member b stands at a place that is settled
pub record IsSettled (members : List ℕ) (settled : List Bool) (b : ℕ) : Type 0 where
  pub place : ℕ
  pub within : place < length members
  pub holds : slice_index members place ≡ b
  pub marked : slice_index_or settled place false ≡ true

-- the needs before the index k are settled
abbrev pub SeenBelow : List ℕ → List Bool → List ℕ → ℕ → Type 0
SeenBelow members settled needs k = (m : ℕ) → m < k → m < length needs → IsSettled members settled (slice_index needs m)

-- the needs of the member at i before the index k are settled
pub record SeenTo (t : DepTable) (settled : List Bool) (i k : ℕ) : Type 0 where
  pub seen : (row : Vec ℕ Global) → slice_get t.needs.items i ≡ Some row → SeenBelow t.members.items settled row.items k

-- the member at `place` is a need of the one at i, and is not settled
pub record IsOpenNeed (t : DepTable) (settled : List Bool) (i place : ℕ) : Type 0 where
  pub row : Vec ℕ Global
  pub row_is : slice_get t.needs.items i ≡ Some row
  pub within : place < length t.members.items
  pub off : slice_index_or settled place false ≡ false
  pub needed : Contains row.items (slice_index t.members.items place)

-- all needs of the member at i are settled
pub record IsMet (t : DepTable) (settled : List Bool) (i : ℕ) : Type 0 where
  pub row : Vec ℕ Global
  pub row_is : slice_get t.needs.items i ≡ Some row
  pub all : (b : ℕ) → Contains row.items b → IsSettled t.members.items settled b

-- every chain of needs that begins at a settled member ends
abbrev pub AllGrounded : DepTable → List Bool → Type 0
AllGrounded t settled = (i : ℕ) → i < length t.members.items → slice_index_or settled i false ≡ true → Grounded (Needs t) (slice_index t.members.items i)

-- what is settled is grounded; the trail has places that aren't settled, each a need of the one before, and their depths are known
pub record IsWalk (t : DepTable) (settled : List Bool) (looked depths trail : List ℕ) : Type 0 where
  pub settled_length : length settled ≡ length t.members.items
  pub looked_length : length looked ≡ length t.members.items
  pub depths_length : length depths ≡ length t.members.items
  pub grounded : AllGrounded t settled
  pub seen : (i : ℕ) → i < length t.members.items → SeenTo t settled i (slice_index looked i)
  pub within : (k : ℕ) → k < length trail → slice_index trail k < length t.members.items
  pub depth : (k : ℕ) → k < length trail → slice_index depths (slice_index trail k) ≡ k
  pub step : (k : ℕ) → k + 1 < length trail → NeedsAt t (slice_index trail k) (slice_index trail (k + 1))
  pub off : (k : ℕ) → k < length trail → slice_index_or settled (slice_index trail k) false ≡ false

abbrev pub IsSearch : DepTable → Search → Type 0
IsSearch t s = IsWalk t s.settled.items s.looked.items s.depths.items s.trail.items

-- the member b stands at one of the places before the k-th
pub record StandsBefore (t : DepTable) (order : List ℕ) (k b : ℕ) : Type 0 where
  pub at : ℕ
  pub before : at < k
  pub holds : slice_index t.members.items (slice_index order at) ≡ b

-- the places of what is settled, each once and after those of all that it needs
pub record IsSettling (t : DepTable) (settled : List Bool) (order : List ℕ) : Type 0 where
  pub within : (k : ℕ) → k < length order → slice_index order k < length t.members.items
  pub apart : (i j : ℕ) → i < length order → j < length order → slice_index order i ≡ slice_index order j → i ≡ j
  pub marked : (k : ℕ) → k < length order → slice_index_or settled (slice_index order k) false ≡ true
  pub listed : (i : ℕ) → i < length t.members.items → slice_index_or settled i false ≡ true → Contains order i
  pub after : (k : ℕ) → k < length order → (b : ℕ) → Needs t (slice_index t.members.items (slice_index order k)) b → StandsBefore t order k b

-- what was settled stays so
abbrev pub SettledStay : Search → Search → Type 0
SettledStay old new = (i : ℕ) → slice_index_or old.settled.items i false ≡ true → slice_index_or new.settled.items i false ≡ true

-- falls with each step: a member enters the trail, or leaves it settled
abbrev pub left_of : ℕ → List Bool → List ℕ → ℕ
left_of count settled trail = 2 * count_by not settled + (count - length trail)

abbrev pub left : DepTable → Search → ℕ
left t s = left_of (length t.members.items) s.settled.items s.trail.items
