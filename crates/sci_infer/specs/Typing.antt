-- Typings of the parts of a net's ports. The parts stand in one list, and a typing gives each place of it a number.
use Rattle.std.specs.Prelude.{◌≡◌, ◌≢◌, ℕ, ℤ, pos, ◌<◌, ◌<ℤ◌, ◌≤ℤ◌, Bool, true, false, List, length, map, Some, slice_get}
use Rattle.sci_infer.specs.Values.{declared_at, IsSplit, AreAgreed}
use Rattle.sci_infer.specs.declared.values.Resolution.{Resolution}
use Rattle.sci_infer.specs.declared.values.Resolution.TheVariants.{Conflict, Open, Values}
use Rattle.sci_infer.specs.declared.parts.PortPart.{PortPart}
use Rattle.sci_infer.specs.declared.parts.What.{What}
use Rattle.sci_infer.specs.declared.parts.What.TheVariants.{DataType, Rows, Columns}

-- the codes of types are 3 to 8, and sizes are 1 or more
abbrev pub IsAllowed : What → ℤ → Type 0
IsAllowed DataType v = (pos 3 ≤ℤ v) × (v ≤ℤ pos 8)
IsAllowed Rows v = pos 1 ≤ℤ v
IsAllowed Columns v = pos 1 ≤ℤ v

abbrev pub is_type : What → Bool
is_type DataType = true
is_type Rows = false
is_type Columns = false

-- the part at a place
abbrev pub IsAt : List PortPart → ℕ → PortPart → Type 0
IsAt parts i p = slice_get parts i ≡ Some p

-- a typing fits: its numbers are allowed, declared ones are kept, and what is joined agrees
pub record Fits (parts : List PortPart) (joins : ℕ → ℕ → Type 0) (t : ℕ → ℤ) : Type 0 where
  pub allowed : (i : ℕ) (p : PortPart) → IsAt parts i p → IsAllowed p.what (t i)
  pub kept : (i : ℕ) (p : PortPart) → IsAt parts i p → pos 0 <ℤ p.declared → t i ≡ p.declared
  pub agree : (i j : ℕ) → joins i j → t i ≡ t j

-- no typing fits
abbrev pub HasConflict : List PortPart → (ℕ → ℕ → Type 0) → Type 0
HasConflict parts joins = (t : ℕ → ℤ) → Fits parts joins t → ⊥

-- two fitting typings differ at a place
pub record IsOpenAt (parts : List PortPart) (joins : ℕ → ℕ → Type 0) (i : ℕ) : Type 0 where
  pub one : ℕ → ℤ
  pub other : ℕ → ℤ
  pub one_fits : Fits parts joins one
  pub other_fits : Fits parts joins other
  pub differ : one i ≢ other i

-- no two do
abbrev pub IsSettledAt : List PortPart → (ℕ → ℕ → Type 0) → ℕ → Type 0
IsSettledAt parts joins i = (t u : ℕ → ℤ) → Fits parts joins t → Fits parts joins u → t i ≡ u i

pub record IsTheTyping (parts : List PortPart) (joins : ℕ → ℕ → Type 0) (t : ℕ → ℤ) : Type 0 where
  pub fits : Fits parts joins t
  pub only : (u : ℕ → ℤ) → Fits parts joins u → (i : ℕ) → i < length parts → u i ≡ t i

abbrev pub declared_of : List PortPart → List ℤ
declared_of parts = map (λ (p : PortPart). p.declared) parts

abbrev pub Decides : List PortPart → (ℕ → ℕ → Type 0) → Resolution → Type 0
Decides parts joins (Conflict at span) =
    HasConflict parts joins × (at < length parts) × IsSplit joins (declared_of parts) at span × AreAgreed joins (declared_of parts) at
Decides parts joins (Open at) = (at < length parts) × IsOpenAt parts joins at × ((i : ℕ) → i < at → IsSettledAt parts joins i)
Decides parts joins (Values vs) = (length vs.items ≡ length parts) × IsTheTyping parts joins (declared_at vs.items)

-- declared numbers are allowed
abbrev pub AreDeclaredWell : List PortPart → Type 0
AreDeclaredWell parts = (i : ℕ) (p : PortPart) → IsAt parts i p → pos 0 <ℤ p.declared → IsAllowed p.what p.declared

-- both places have parts, two types or two sizes
pub record IsAlike (parts : List PortPart) (i j : ℕ) : Type 0 where
  pub left : PortPart
  pub right : PortPart
  pub at_left : IsAt parts i left
  pub at_right : IsAt parts j right
  pub same_kind : is_type left.what ≡ is_type right.what
