-- Lists by number.
use Rattle.std.specs.Prelude.{◌≡◌, ℕ, ◌⊎◌, ◌↔◌, List, [], length, map, slice_index_or, Contains, Vec}
use Rattle.std.specs.declared.alloc.Global.{Global}

abbrev pub plain : {X : Type 0} → List (Vec X Global) → List (List X)
plain vs = map (λ v. v.items) vs

-- the list of number p
abbrev pub list_at : {X : Type 0} → List (List X) → ℕ → List X
list_at ls p = slice_index_or ls p []

-- the lists have got these elements, and no other
pub record Adds {X : Type 0} (more : ℕ → X → Type 0) (old new : List (List X)) : Type 0 where
  pub long : length new ≡ length old
  pub exactly : (p : ℕ) (x : X) → Contains (list_at new p) x ↔ (Contains (list_at old p) x ⊎ more p x)
