-- Bodies by number, in the order of the text: which of them assign a name, themselves or in the bodies that they call.
use Rattle.std.specs.Prelude.{◌≡◌, ℕ, ◌+◌, ◌<◌, ◌≤◌, ◌↔◌, ◌⊎◌, List, [], ◌∷◌, ◌++◌, length, All, Contains, Bool, true, nat_le, nat_eq, slice_index_or, Vec}
use Rattle.std.specs.List.{list_any}
use Rattle.std.specs.declared.alloc.Global.{Global}
use Rattle.sci_loop.specs.Lists.{plain, list_at}
use Rattle.sci_loop.specs.Reached.{IsReached}
use Rattle.c_ast.specs.declared.Name.{Name}
use Rattle.c_rules.specs.Naming.{number_in, at_number}

-- the bodies that assign a name themselves, by these names and by the lists at their numbers
abbrev pub assigners_of : List Name → List (Vec ℕ Global) → Name → List ℕ
assigners_of names lists q = at_number [] (plain lists) (number_in names q)

-- a body was put at the end of a list, unless it stood there already
abbrev pub IsNoted : ℕ → List ℕ → List ℕ → Type 0
IsNoted body old new = (new ≡ old ++ body ∷ []) ⊎ ((new ≡ old) × Contains old body)

-- a body assigns a name, itself or in a body that its calls lead to
abbrev pub Assigns : List (List ℕ) → (Name → List ℕ) → ℕ → Name → Type 0
Assigns callees assigners body q = (r : ℕ) × IsReached callees (body ∷ []) r × Contains (assigners q) r

-- a test of names tells what a body assigns
abbrev pub Tells : (Name → Bool) → List (List ℕ) → (Name → List ℕ) → ℕ → Type 0
Tells test callees assigners body = (q : Name) → (test q ≡ true) ↔ Assigns callees assigners body q

-- each body calls only earlier ones, and names are assigned only in bodies up to the last, of which the first stands first
pub record AreSound (callees : List (List ℕ)) (assigners : Name → List ℕ) (last count : ℕ) : Type 0 where
  pub bodies : last + 1 ≡ length callees
  pub walked : count ≡ length callees
  pub earlier : (p : ℕ) → All (λ q. q < p) (list_at callees p)
  pub there : (q : Name) → All (λ p. p ≤ last) (assigners q)
  pub first : (q : Name) → All (λ p. slice_index_or (assigners q) 0 0 ≤ p) (assigners q)

-- a body up to this one assigns the name itself
abbrev pub is_early : (Name → List ℕ) → ℕ → Name → Bool
is_early assigners body q = list_any (λ p. nat_le p body) (assigners q)

-- one of these bodies assigns the name itself
abbrev pub is_found : (Name → List ℕ) → List ℕ → Name → Bool
is_found assigners found q = list_any (λ p. list_any (nat_eq p) found) (assigners q)
