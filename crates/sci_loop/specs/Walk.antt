-- What a walk has found, and what it has come to.
use Rattle.std.specs.Prelude.{◌≡◌, ℕ, ◌+◌, ◌≤◌, ◌⊎◌, ◌↔◌, Bool, true, false, List, [], ◌∷◌, ◌++◌, length, take, Contains, slice_index_or, nat_eq, if◌then◌else◌}
use Rattle.std.specs.List.{IsDistinct}
use Rattle.sci_loop.specs.Lists.{list_at}
use Rattle.sci_loop.specs.Reached.{IsReached}

-- numbers from 0 on, and which of them were found
pub record Found : Type 0 where
  pub count : ℕ
  -- each once
  pub found : List ℕ

abbrev pub IsMarked : List Bool → ℕ → Type 0
IsMarked marks p = slice_index_or marks p false ≡ true

-- how many have no mark
abbrev pub one_not : Bool → ℕ
one_not b = if b then 0 else 1

abbrev pub unmarked : List Bool → ℕ
unmarked [] = 0
unmarked (b ∷ bs) = one_not b + unmarked bs

-- the marks are those of what was found
pub record AreMarks (marks : List Bool) (found : List ℕ) : Type 0 where
  pub exactly : (q : ℕ) → IsMarked marks q ↔ Contains found q
  pub distinct : IsDistinct nat_eq found
  pub sum : unmarked marks + length found ≡ length marks

-- what adding these numbers does
pub record AddsNumbers (numbers : List ℕ) (old new : Found) : Type 0 where
  pub count : new.count ≡ old.count
  pub more : List ℕ
  pub found : new.found ≡ old.found ++ more
  pub exactly : (q : ℕ) → Contains new.found q ↔ (Contains old.found q ⊎ Contains numbers q)

-- what a walk from the starts has come to that went on from the first numbers that it found
pub record Walking (ls : List (List ℕ)) (starts : List ℕ) (n at : ℕ) (f : Found) : Type 0 where
  pub count : f.count ≡ n
  pub done : at ≤ length f.found
  pub sound : (q : ℕ) → Contains f.found q → IsReached ls starts q
  pub begun : (q : ℕ) → Contains starts q → Contains f.found q
  pub goes_on : (p q : ℕ) → Contains (take at f.found) p → Contains (list_at ls p) q → Contains f.found q
