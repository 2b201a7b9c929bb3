-- The places of memory: reading one, writing one, and what stays as it was.
use Rattle.std.specs.Prelude.{◌≡◌, ℕ, ◌+◌, ◌<◌, ◌≤◌, ℤ, pos, List, Option, Some, Bool, true, false, ◌&&◌, ◌⊎◌, nat_eq, slice_set, if◌then◌else◌}
use Rattle.c_ast.specs.declared.Name.{Name}
use Rattle.c_ast.specs.Syntax.{Exp, Place, scalar, cell}
use Rattle.c_mean.specs.Meaning.{World, same_name, lookup, store, with_slots, evaluate, ◌>>=◌}

abbrev pub named : ℕ → ℕ → Name
named l k = record { letter = l; number = k }

-- element i of a variable; a scalar is its element 0
abbrev pub get : World → Name → ℕ → Option ℤ
get w x i = lookup w.slots x i

abbrev pub put : World → Name → ℕ → ℤ → Option World
put w x i v = store w.slots x i v >>= λ m. Some (with_slots w m)

-- the value of an expression, or none where it is undefined
abbrev pub value_of : Exp → World → Option ℤ
value_of e w = evaluate e w.slots

-- an expression has this value
abbrev pub HasValue : Exp → World → ℤ → Type 0
HasValue e w v = value_of e w ≡ Some v

-- what is assigned to is element i of x
abbrev pub IsAt : Place → World → Name → ℕ → Type 0
IsAt (scalar y) w x i = (y ≡ x) × (i ≡ 0)
IsAt (cell y e) w x i = (y ≡ x) × HasValue e w (pos i)

abbrev pub same_place : Name → ℕ → Name → ℕ → Bool
same_place x i y j = same_name x y && nat_eq i j

-- a place that is there
pub record Has (w : World) (x : Name) (i : ℕ) : Type 0 where
  pub holds : ℤ
  pub is : get w x i ≡ Some holds

-- one place was written, and nothing else changed
pub record Puts (w : World) (x : Name) (i : ℕ) (v : ℤ) (w' : World) : Type 0 where
  pub places : (y : Name) (j : ℕ) → get w' y j ≡ (if same_place x i y j then Some v else get w y j)
  pub left : w'.left ≡ w.left

-- the next value of column c, counted from 0, was written to one place, and vs are left of the column
pub record Takes (w : World) (x : Name) (i c : ℕ) (v : ℤ) (vs : List ℤ) (w' : World) : Type 0 where
  pub places : (y : Name) (j : ℕ) → get w' y j ≡ (if same_place x i y j then Some v else get w y j)
  pub left : w'.left ≡ slice_set w.left c vs

-- neither a spare name nor among n places of array a from o on
pub record Outside (spare : Name → Bool) (a : Name) (o n : ℕ) (y : Name) (j : ℕ) : Type 0 where
  pub kept : spare y ≡ false
  pub apart : same_name a y ≡ true → (j < o) ⊎ (o + n ≤ j)

-- Nothing else changed but spare names and n places of array a from o on, and what was there is there.
pub record KeepsPlaces (spare : Name → Bool) (a : Name) (o n : ℕ) (w w' : World) : Type 0 where
  pub same : (y : Name) (j : ℕ) → Outside spare a o n y j → get w' y j ≡ get w y j
  pub there : (y : Name) (j : ℕ) → Has w y j → Has w' y j

-- The same, and no input was taken.
pub record Keeps (spare : Name → Bool) (a : Name) (o n : ℕ) (w w' : World) : Type 0 where
  pub same : (y : Name) (j : ℕ) → Outside spare a o n y j → get w' y j ≡ get w y j
  pub there : (y : Name) (j : ℕ) → Has w y j → Has w' y j
  pub left : w'.left ≡ w.left

-- the names t1, t2 and so on
abbrev pub is_scratch : Name → Bool
is_scratch x = nat_eq x.letter 116
