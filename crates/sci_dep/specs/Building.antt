-- Waits and tables, as they are built.
use Rattle.std.specs.Prelude.{◌≡◌, ℕ, ◌+◌, ◌<◌, ◌⊎◌, ◌↔◌, true, List, [], length, Contains, slice_index}
use Rattle.std.specs.List.Sorted.{IsStrictlyIncreasing}
use Rattle.sci_loop.specs.Lists.{list_at}
use Rattle.sci_net.specs.Parts.{Parts, numbered, spec_of, wire_of}
use Rattle.sci_reaction.specs.Links.{SuppliesThrough, has_feedthrough}
use Rattle.sci_reaction.specs.Depends.{Conditions}

-- these numbers are put besides
pub record Puts (more : ℕ → Type 0) (old new : List ℕ) : Type 0 where
  pub exactly : (x : ℕ) → Contains new x ↔ (Contains old x ⊎ more x)

-- x is the source block of input k of b, which has feedthrough
pub record SuppliesAt (n : Parts) (b k x : ℕ) : Type 0 where
  pub through : has_feedthrough (spec_of n b) k ≡ true
  pub from : (wire_of n b k).block ≡ x

-- x is the source block of one of the first k inputs of b, which has feedthrough
pub record SuppliesBelow (n : Parts) (b k x : ℕ) : Type 0 where
  pub input : ℕ
  pub below : input < k
  pub supplies : SuppliesAt n b (input + 1) x

-- x goes into the list of b, which is one of these
pub record IsPutTo (reached : List ℕ) (c b x : ℕ) : Type 0 where
  pub reaches : Contains reached b
  pub is : c ≡ x

-- one of the first k blocks goes into the list of b, which a branch of it reaches
pub record PutUpto (n : Parts) (k b x : ℕ) : Type 0 where
  pub below : x < k + 1
  pub conditions : Conditions n x b

-- by number, the synchronous blocks with a branch that reaches the block
abbrev pub AreConditions : Parts → List (List ℕ) → Type 0
AreConditions n ls = (b c : ℕ) → Contains (list_at ls b) c ↔ Conditions n c b

-- the blocks that c waits for
pub record IsWaitsOf (n : Parts) (c : ℕ) (xs : List ℕ) : Type 0 where
  pub rising : IsStrictlyIncreasing xs
  pub exactly : (b : ℕ) → Contains xs b ↔ (SuppliesThrough n b c ⊎ Conditions n b c)

-- the same of the first k blocks
pub record WaitsTo (n : Parts) (k : ℕ) (ls : List (List ℕ)) : Type 0 where
  pub long : length ls ≡ k
  pub each : (p : ℕ) → p < k → IsWaitsOf n (p + 1) (list_at ls p)

-- those of some numbers that are found, in order
pub record KeepsFound (found numbers kept : List ℕ) : Type 0 where
  pub rising : IsStrictlyIncreasing kept
  pub exactly : (b : ℕ) → Contains kept b ↔ (Contains found b × Contains numbers b)

-- by place, what each of the first k blocks of a list waits for among what is found
pub record NeedsTo (w : List (List ℕ)) (found members : List ℕ) (k : ℕ) (needs : List (List ℕ)) : Type 0 where
  pub long : length needs ≡ k
  pub each : (i : ℕ) → i < k → KeepsFound found (numbered [] w (slice_index members i)) (list_at needs i)

-- the same of all of them
abbrev pub AreNeeds : List (List ℕ) → List ℕ → List ℕ → List (List ℕ) → Type 0
AreNeeds w found members = NeedsTo w found members (length members)
