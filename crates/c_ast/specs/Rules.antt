-- The static rules: which of a program's names they blame. A name is judged by what the text did before it, its scope.
use Rattle.std.specs.Prelude.{◌≡◌, ℕ, suc, ◌+◌, ◌-◌, List, [], ◌∷◌, ◌++◌, length, take, Option, Some, None, Bool, true, false, ◌&&◌, ◌||◌, not, nat_eq, nat_lt, nat_le, if◌then◌else◌, max, min, is_some}
use Rattle.std.specs.List.{list_any}
use Rattle.c_ast.specs.declared.Name.{Name}
use Rattle.c_ast.specs.declared.Bound.{Bound}
use Rattle.c_ast.specs.declared.Bound.TheVariants as bounds
use Rattle.c_ast.specs.declared.events.NameKind.{NameKind}
use Rattle.c_ast.specs.declared.events.NameKind.TheVariants as kinds
use Rattle.c_ast.specs.declared.events.TextEvent.{TextEvent}
use Rattle.c_ast.specs.declared.events.TextEvent.TheVariants as events
use Rattle.c_ast.specs.declared.events.Opened.{Opened}
use Rattle.c_ast.specs.declared.events.Opened.TheVariants as opened
use Rattle.c_ast.specs.Syntax.{Whole}
use Rattle.c_ast.specs.Events.{program_events}

abbrev pub same_name : Name → Name → Bool
same_name x y = nat_eq x.letter y.letter && nat_eq x.number y.number

-- A function that stands earlier.
pub record Routine : Type 0 where
  pub name : Name
  -- what it assigns, itself or in the functions that it calls
  pub assigns : List Name
  -- how deep its calls are: 1 where it calls none
  pub depth : ℕ

-- What the text did so far.
pub record Scope : Type 0 where
  -- what was declared, the latest first
  pub declared : List (Name × NameKind)
  -- how many elements the arrays have
  pub elements : ℕ
  -- the functions that have ended, the latest first
  pub routines : List Routine
  -- the blocks that are open, the innermost last
  pub blocks : List Opened
  -- the function whose body is open, with the number of its first event
  pub owner : Option (Name × ℕ)
  -- what its body assigns so far
  pub assigns : List Name
  -- how deep its calls are so far
  pub depth : ℕ

abbrev pub outset : Scope
outset = record { declared = []; elements = 0; routines = []; blocks = []; owner = None; assigns = []; depth = 1 }

abbrev pub kind_in : List (Name × NameKind) → Name → Option NameKind
kind_in [] x = None
kind_in (d ∷ ds) x = if same_name d.0 x then Some d.1 else kind_in ds x

abbrev pub routine_in : List Routine → Name → Option Routine
routine_in [] f = None
routine_in (r ∷ rs) f = if same_name r.name f then Some r else routine_in rs f

abbrev pub is_scalar : Option NameKind → Bool
is_scalar None = false
is_scalar (Some kinds.Scalar) = true
is_scalar (Some kinds.Array) = false
is_scalar (Some kinds.Function) = false

abbrev pub is_array : Option NameKind → Bool
is_array None = false
is_array (Some kinds.Scalar) = false
is_array (Some kinds.Array) = true
is_array (Some kinds.Function) = false

-- declared as what it is used as
abbrev pub is_used_well : NameKind → Option NameKind → Bool
is_used_well kinds.Scalar k = is_scalar k
is_used_well kinds.Array k = is_array k
is_used_well kinds.Function k = false

-- the bound of a loop is a variable of these
abbrev pub is_bound : (Name → Bool) → Bound → Bool
is_bound test (bounds.Num z) = false
is_bound test (bounds.Var y) = test y

-- the counter or the bound of an open loop is one of these
abbrev pub is_hit : (Name → Bool) → Opened → Bool
is_hit test opened.Branch = false
is_hit test (opened.Turn y n) = test y || is_bound test n

abbrev pub is_guarded : List Opened → Name → Bool
is_guarded blocks x = list_any (is_hit (same_name x)) blocks

abbrev pub is_among : List Name → Name → Bool
is_among names y = list_any (λ x. same_name x y) names

-- a call of this function, under these open blocks
abbrev pub breaks_loop : List Opened → Option Routine → Bool
breaks_loop blocks None = true
breaks_loop blocks (Some r) = list_any (is_hit (is_among r.assigns)) blocks

abbrev pub elements_of : Option ℕ → ℕ
elements_of None = 0
elements_of (Some n) = n

-- an array with which the arrays get too large together
abbrev pub is_too_large : ℕ → Option ℕ → Bool
is_too_large sum None = false
is_too_large sum (Some n) = nat_lt 16777216 (sum + n)

-- A name is blamed where it stands: it was declared before; it is used and was not declared before as what it is used as; it is assigned,
-- or a function is called that assigns it, while it is the counter or the bound of an open loop; or its array is too large.
abbrev pub is_blamed : Scope → TextEvent → Bool
is_blamed s (events.Declare x size) = is_some (kind_in s.declared x) || is_too_large s.elements size
is_blamed s (events.Function f) = is_some (kind_in s.declared f)
is_blamed s events.Main = false
is_blamed s (events.Read x k) = not (is_used_well k (kind_in s.declared x))
is_blamed s (events.Assign x k) = not (is_used_well k (kind_in s.declared x)) || is_guarded s.blocks x
is_blamed s (events.Loop x n) = not (is_scalar (kind_in s.declared x)) || (is_guarded s.blocks x || is_bound (same_name x) n)
is_blamed s (events.Call f) = breaks_loop s.blocks (routine_in s.routines f)
is_blamed s events.If = false
is_blamed s events.Close = false

-- the blocks that stay open
abbrev pub around : List Opened → List Opened
around blocks = take (length blocks - 1) blocks

abbrev pub is_last : List Opened → Bool
is_last blocks = nat_le (length blocks) 1

-- where a body ends whose calls are too deep, its function's own line is blamed
abbrev pub too_deep : Scope → Option (Name × ℕ) → Option ℕ
too_deep s None = None
too_deep s (Some f) = if nat_lt 64 s.depth then Some f.1 else None

abbrev pub closing : Scope → Option ℕ
closing s = if is_last s.blocks then too_deep s s.owner else None

-- the number of the event that the rules blame at event i, which is i itself or a function's line
abbrev pub blamed_at : ℕ → Scope → TextEvent → Option ℕ
blamed_at i s events.Close = closing s
blamed_at i s e = if is_blamed s e then Some i else None

abbrev pub assigns_of : Option Routine → List Name
assigns_of None = []
assigns_of (Some r) = r.assigns

abbrev pub depth_of : Option Routine → ℕ
depth_of None = 0
depth_of (Some r) = r.depth

abbrev pub kind_of : Option ℕ → NameKind
kind_of None = kinds.Scalar
kind_of (Some n) = kinds.Array

abbrev pub ended : Scope → Option (Name × ℕ) → List Routine
ended s None = s.routines
ended s (Some f) = record { name = f.0; assigns = s.assigns; depth = s.depth } ∷ s.routines

abbrev pub closed : Scope → Scope
closed s = record s {
  blocks = around s.blocks;
  routines = if is_last s.blocks then ended s s.owner else s.routines;
  assigns = if is_last s.blocks then [] else s.assigns;
}

-- behind the first line of a function or of sci_main
abbrev pub opens_body : Scope → Option (Name × ℕ) → Scope
opens_body s owner = record s { blocks = s.blocks ++ opened.Branch ∷ []; owner = owner; assigns = []; depth = 1 }

-- the scope behind an event
abbrev pub behind : ℕ → Scope → TextEvent → Scope
behind i s (events.Declare x size) = record s { declared = (x, kind_of size) ∷ s.declared; elements = s.elements + elements_of size }
behind i s (events.Function f) = opens_body (record s { declared = (f, kinds.Function) ∷ s.declared }) (Some (f, i))
behind i s events.Main = opens_body s None
behind i s (events.Read x k) = s
behind i s (events.Assign x k) = record s { assigns = x ∷ s.assigns }
behind i s (events.Loop x n) = record s { assigns = x ∷ s.assigns; blocks = s.blocks ++ opened.Turn x n ∷ [] }
behind i s (events.Call f) = record s { assigns = assigns_of (routine_in s.routines f) ++ s.assigns; depth = max s.depth (suc (depth_of (routine_in s.routines f))) }
behind i s events.If = record s { blocks = s.blocks ++ opened.Branch ∷ [] }
behind i s events.Close = closed s

-- the earlier of two events
abbrev pub earlier : Option ℕ → Option ℕ → Option ℕ
earlier None b = b
earlier (Some i) None = Some i
earlier (Some i) (Some j) = Some (min i j)

-- the first blamed event, from event i on
abbrev pub first_blamed : ℕ → Scope → List TextEvent → Option ℕ
first_blamed i s [] = None
first_blamed i s (e ∷ es) = earlier (blamed_at i s e) (first_blamed (i + 1) (behind i s e) es)

-- the first event that the rules blame in a text
abbrev pub blamed_event : List TextEvent → Option ℕ
blamed_event es = first_blamed 0 outset es

-- the static rules hold of a program: they blame no name
abbrev pub KeepsRules : Whole → Type 0
KeepsRules p = blamed_event (program_events p) ≡ None
