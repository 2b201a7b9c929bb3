-- Classes of numbers that are tied in pairs.
use Rattle.std.specs.Prelude.{◌≡◌, ℕ, ◌<◌, ◌≤◌, List, length, slice_index, Contains, ◌⊎◌}
use Rattle.sci_infer.specs.declared.classes.Tie.{Tie}

-- the least equivalence that holds the pairs
pub data Tied (joins : ℕ → ℕ → Type 0) : ℕ → ℕ → Type 0 where
  same : {i : ℕ} → Tied joins i i
  forth : {i j k : ℕ} → Tied joins i j → joins j k → Tied joins i k
  back : {i j k : ℕ} → Tied joins i j → joins k j → Tied joins i k

-- a list of ties has the pair
abbrev pub Joins : List Tie → ℕ → ℕ → Type 0
Joins ties i j = Contains ties (record { left = i; right = j })

-- each tie is of two of n things
pub record IsWithin (n : ℕ) (tie : Tie) : Type 0 where
  pub left : tie.left < n
  pub right : tie.right < n

-- the thing i hangs at j
pub record Points (parents : List ℕ) (i j : ℕ) : Type 0 where
  pub within : i < length parents
  pub is : slice_index parents i ≡ j

-- each thing hangs at itself or at a lesser one
abbrev pub IsForest : List ℕ → Type 0
IsForest parents = (i : ℕ) → i < length parents → slice_index parents i ≤ i

-- the same trees, perhaps less deep
pub record IsRenewed (old new : List ℕ) : Type 0 where
  pub same_length : length new ≡ length old
  pub forest : IsForest new
  pub forth : (i j : ℕ) → Points old i j → Tied (Points new) i j
  pub back : (i j : ℕ) → Points new i j → Tied (Points old) i j
  pub roots : (i : ℕ) → slice_index old i ≡ i → slice_index new i ≡ i

-- the pairs, and one more
abbrev pub Also : (ℕ → ℕ → Type 0) → ℕ → ℕ → ℕ → ℕ → Type 0
Also joins left right i j = joins i j ⊎ ((i ≡ left) × (j ≡ right))

-- the trees of two things have become one
pub record IsLinked (old new : List ℕ) (left right : ℕ) : Type 0 where
  pub same_length : length new ≡ length old
  pub forest : IsForest new
  pub kept : (i j : ℕ) → Points old i j → Tied (Points new) i j
  pub joined : Tied (Points new) left right
  pub sound : (i j : ℕ) → Points new i j → Tied (Also (Points old) left right) i j

-- the trees of the things of each of the ties have become one
pub record IsAcross (old new : List ℕ) (ties : List Tie) : Type 0 where
  pub same_length : length new ≡ length old
  pub forest : IsForest new
  pub complete : (i j : ℕ) → Joins ties i j → Tied (Points new) i j
  pub sound : (i j : ℕ) → Points new i j → Tied (λ p q. Points old p q ⊎ Joins ties p q) i j

-- each thing hangs at a root, below k
abbrev pub AreFlat : List ℕ → ℕ → Type 0
AreFlat parents k = (i : ℕ) → i < k → slice_index parents (slice_index parents i) ≡ slice_index parents i

-- each thing hangs at the root of its tree
pub record IsFlattened (old new : List ℕ) : Type 0 where
  pub renewed : IsRenewed old new
  pub flat : AreFlat new (length new)

-- one label a class: the class's least thing need not be it
pub record AreClasses (joins : ℕ → ℕ → Type 0) (n : ℕ) (labels : List ℕ) : Type 0 where
  pub same_length : length labels ≡ n
  pub within : (i : ℕ) → i < n → slice_index labels i < n
  pub sound : (i : ℕ) → i < n → Tied joins i (slice_index labels i)
  pub complete : (i j : ℕ) → joins i j → slice_index labels i ≡ slice_index labels j
