-- The weight of a value bounds its parts.
use Rattle.std.proofs.Common.{◌≡◌, ℕ, ◌+◌, ◌≤◌, ℤ, List, [], ◌∷◌, length, Bool, true, false, cond, Option, Some, None, option_map, option_and_then, Ordering, Less, Equal, Greater, subst, arith}
use Rattle.std.specs.Prelude.{⊤}
use Rattle.std.specs.List.{list_all}
use Rattle.std.specs.Ordering.{match_ordering}
use Rattle.serde_json.specs.Data.{Data, null, boolean, number, string, array, object, Items, no_items, item, Members, no_members, member}
use Rattle.serde_json.specs.Find.{get, get_member, as_i64}
use Rattle.sci_json.specs.Field.{whole, wholes, as_ints}
use Rattle.sci_diagram.specs.Tree.{is_small}
use Rattle.sci_diagram.specs.Numbers.{count_small, small_count}
use Rattle.sci_diagram.specs.Weight.{weight, items_weight, members_weight}

abbrev pub AtMost : {A : Type 0} → (A → ℕ) → ℕ → Option A → Type 0
AtMost f n None = ⊤
AtMost f n (Some a) = f a ≤ n

pub at_most : {A : Type 0} (f : A → ℕ) (n : ℕ) (o : Option A) (a : A) → AtMost f n o → o ≡ Some a → f a ≤ n
at_most f n o a h e = subst (AtMost f n) e h

pub positive : (d : Data) → 1 ≤ weight d
positive null = omega arith
positive (boolean b) = omega arith
positive (number n) = omega arith
positive (string s) = omega arith
positive (array ds) = omega arith
positive (object ms) = omega arith

cons_short : (o : Option ℤ) (r : Option (List ℤ)) (m n : ℕ) → 1 ≤ m → AtMost length n r → AtMost length (m + n) (option_and_then (λ z. option_map (λ zs. z ∷ zs) r) o)
cons_short None r m n h k = tt
cons_short (Some z) None m n h k = tt
cons_short (Some z) (Some zs) m n h k = omega arith

wholes_short : (ds : Items) → AtMost length (items_weight ds) (wholes ds)
wholes_short no_items = omega arith
wholes_short (item d ds) = cons_short (whole d) (wholes ds) (weight d) (items_weight ds) (positive d) (wholes_short ds)

raise : {A : Type 0} (f : A → ℕ) (m n : ℕ) (o : Option A) → m ≤ n → AtMost f m o → AtMost f n o
raise f m n None h k = tt
raise f m n (Some a) h k = omega arith

one_short : (o : Option ℤ) → AtMost length 1 (option_map (λ z. z ∷ []) o)
one_short None = tt
one_short (Some z) = omega arith

ints_short : (d : Data) → AtMost length (weight d) (as_ints d)
ints_short null = tt
ints_short (boolean b) = tt
ints_short (number n) = one_short (as_i64 n)
ints_short (string s) = tt
ints_short (array ds) = raise length (items_weight ds) (1 + items_weight ds) (wholes ds) (omega arith) (wholes_short ds)
ints_short (object ms) = tt

found_light : (o : Ordering) (a b : Option Data) (n : ℕ) → AtMost weight n a → AtMost weight n b → AtMost weight n (match_ordering o a b a)
found_light Less a b n h k = h
found_light Equal a b n h k = k
found_light Greater a b n h k = h

member_light : (k : List ℕ) (ms : Members) → AtMost weight (members_weight ms) (get_member k ms)
member_light k no_members = tt
member_light k (member l e ms) =
    found_light _ (get_member k ms) (Some e) (weight e + members_weight ms) (raise weight (members_weight ms) (weight e + members_weight ms) _ (omega arith) (member_light k ms)) (omega arith)

-- a member weighs less than the object that it is found in
pub get_light : (k : List ℕ) (d : Data) → AtMost (λ e. weight e + 1) (weight d) (get k d)
get_light k null = tt
get_light k (boolean b) = tt
get_light k (number n) = tt
get_light k (string s) = tt
get_light k (array ds) = tt
get_light k (object ms) = more (get_member k ms) (members_weight ms) (member_light k ms)
  where
    more : (o : Option Data) (n : ℕ) → AtMost weight n o → AtMost (λ e. weight e + 1) (1 + n) o
    more None n h = tt
    more (Some e) n h = omega arith

counted_short : (o : Option (List ℤ)) (m : ℕ) → AtMost length m o → AtMost (λ n. n) m (count_small o)
counted_short None m h = tt
counted_short (Some zs) m h = tested (list_all is_small zs)
  where
    tested : (b : Bool) → AtMost (λ n. n) m (cond b (Some (length zs)) None)
    tested true = h
    tested false = tt

-- a list has no more numbers than it weighs
pub count_short : (d : Data) (n : ℕ) → small_count d ≡ Some n → n ≤ weight d
count_short d n e = at_most (λ k. k) (weight d) (small_count d) n (counted_short (as_ints d) (weight d) (ints_short d)) e
