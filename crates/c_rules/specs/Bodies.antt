-- What changes as a text goes on.
use Rattle.std.specs.Prelude.{◌≡◌, ℕ, ◌+◌, ◌⊎◌, ◌↔◌, List, [], ◌∷◌, ◌++◌, Contains, true, slice_set}
use Rattle.sci_loop.specs.Lists.{plain, list_at}
use Rattle.c_ast.specs.declared.Name.{Name}
use Rattle.c_rules.specs.declared.bodies.Bodies.{Bodies}
use Rattle.c_ast.specs.Rules.{same_name}
use Rattle.c_rules.specs.Assigning.{assigners_of}

abbrev pub callees_in : Bodies → List (List ℕ)
callees_in b = plain b.callees.items

abbrev pub assigners_in : Bodies → Name → List ℕ
assigners_in b = assigners_of b.names b.assigners.items

-- nothing changes
pub record KeepsBodies (old new : Bodies) : Type 0 where
  pub callees : callees_in new ≡ callees_in old
  pub assigners : (q : Name) → assigners_in new q ≡ assigners_in old q
  pub last : new.last ≡ old.last

-- the next body is open
pub record BeginsBody (old new : Bodies) : Type 0 where
  pub callees : callees_in new ≡ callees_in old ++ [] ∷ []
  pub assigners : (q : Name) → assigners_in new q ≡ assigners_in old q
  pub last : new.last ≡ old.last + 1

-- the open body assigns a name
pub record AssignsName (x : Name) (old new : Bodies) : Type 0 where
  pub callees : callees_in new ≡ callees_in old
  pub assigners : (q : Name) (p : ℕ) → Contains (assigners_in new q) p ↔ (Contains (assigners_in old q) p ⊎ ((same_name x q ≡ true) × (old.last ≡ p)))
  pub last : new.last ≡ old.last

-- the open body calls another
pub record CallsBody (body : ℕ) (old new : Bodies) : Type 0 where
  pub callees : callees_in new ≡ slice_set (callees_in old) old.last (list_at (callees_in old) old.last ++ body ∷ [])
  pub assigners : (q : Name) → assigners_in new q ≡ assigners_in old q
  pub last : new.last ≡ old.last

-- the open body calls one that it has called before
pub record CallsAgain (body : ℕ) (old new : Bodies) : Type 0 where
  pub keeps : KeepsBodies old new
  pub called : Contains (list_at (callees_in old) old.last) body
