-- Reading memory after a place was written.
use Rattle.std.proofs.Common.{◌≡◌, ℕ, zero, suc, ◌+◌, ◌<◌, ◌≤◌, List, [], ◌∷◌, length, Option, Some, None, Bool, true, false, ◌&&◌, refl, sym, ap, ◌∙◌, subst, arith, ℤ, nat_eq, nat_lt, slice_get, slice_set, if◌then◌else◌, eqb-true, eq-eqb, ne_eqb, lt-ltb, true≢false, inl, inr}
use Rattle.std.proofs.lemmas.Bool.{cond-true, cond-false, and_from}
use Rattle.std.proofs.lemmas.Option.{slice_get_within}
use Rattle.c_ast.specs.declared.Name.{Name}
use Rattle.c_mean.specs.Meaning.{Slot, World, same_name, lookup, store, with_slots, ◌>>=◌}
use Rattle.c_mean.specs.Places.{get, put, same_place, Has, Puts, KeepsPlaces, Keeps, Outside}

pub and_left : (a b : Bool) → a && b ≡ true → a ≡ true
and_left true b h = refl
and_left false b h = h

pub and_right : (a b : Bool) → a && b ≡ true → b ≡ true
and_right true b h = h
and_right false b h = absurd (true≢false (sym h))

-- ---- names

pub name_eq : (x y : Name) → same_name x y ≡ true → x ≡ y
name_eq x y h =
    let l : x.letter ≡ y.letter = eqb-true x.letter y.letter (and_left _ _ h) in
    let n : x.number ≡ y.number = eqb-true x.number y.number (and_right _ _ h) in
    ap (λ (k : ℕ). record { letter = k; number = x.number }) l ∙ ap (λ (k : ℕ). record { letter = y.letter; number = k }) n

pub name_same : (x : Name) → same_name x x ≡ true
name_same x = and_from _ _ (eq-eqb x.letter x.letter refl) (eq-eqb x.number x.number refl)

pub name_swap : (x y : Name) → same_name x y ≡ true → same_name y x ≡ true
name_swap x y h = subst (λ (z : Name). same_name z x ≡ true) (name_eq x y h) (name_same x)

pub not_same : (x y : Name) → same_name x y ≡ false → same_name y x ≡ false
not_same x y h = by_case (same_name y x) refl
  where
    by_case : (b : Bool) → same_name y x ≡ b → same_name y x ≡ false
    by_case true e = absurd (true≢false (sym (name_swap y x e) ∙ h))
    by_case false e = e

-- names that a test tells apart
pub other_name : (test : Name → Bool) (x y : Name) → test x ≡ true → test y ≡ false → same_name x y ≡ false
other_name test x y p q = by_case (same_name x y) refl
  where
    by_case : (b : Bool) → same_name x y ≡ b → same_name x y ≡ false
    by_case true e = absurd (true≢false (sym p ∙ (ap test (name_eq x y e) ∙ q)))
    by_case false e = e

pub other_number : (l i j : ℕ) → (i ≡ j → ⊥) → same_name (record { letter = l; number = i }) (record { letter = l; number = j }) ≡ false
other_number l i j h = by_letter (nat_eq l l) (ne_eqb i j h)
  where
    by_letter : (b : Bool) → nat_eq i j ≡ false → b && nat_eq i j ≡ false
    by_letter true e = e
    by_letter false e = refl

-- ---- a write

eq_suc : (i j : ℕ) → nat_eq (suc i) (suc j) ≡ nat_eq i j
eq_suc i j = by_case (nat_eq i j) refl
  where
    by_case : (b : Bool) → nat_eq i j ≡ b → nat_eq (suc i) (suc j) ≡ b
    by_case true e = eq-eqb (suc i) (suc j) (ap suc (eqb-true i j e))
    by_case false e = ne_eqb (suc i) (suc j) (λ d. true≢false (sym (eq-eqb i j (omega (arith, d))) ∙ e))

-- a list's element after one was set
set_there : (xs : List ℤ) (i j : ℕ) (v : ℤ) → i < length xs → slice_get (slice_set xs i v) j ≡ (if nat_eq i j then Some v else slice_get xs j)
set_there [] i j v h = absurd (omega (arith, h))
set_there (x ∷ xs) zero zero v h = refl
set_there (x ∷ xs) zero (suc j) v h = sym (cond-false (nat_eq 0 (suc j)) (Some v) (slice_get xs j) (ne_eqb 0 (suc j) (λ e. omega (arith, e))))
set_there (x ∷ xs) (suc i) zero v h = sym (cond-false (nat_eq (suc i) 0) (Some v) (Some x) (ne_eqb (suc i) 0 (λ e. omega (arith, e))))
set_there (x ∷ xs) (suc i) (suc j) v h = set_there xs i j v (omega (arith, h)) ∙ ap (λ (b : Bool). if b then Some v else slice_get xs j) (sym (eq_suc i j))

-- what a memory with this slot in front holds, after it was set
set_slot : (s : Slot) (ss : List Slot) (x : Name) (i : ℕ) (v : ℤ) → same_name s.name x ≡ true → i < length s.cells → (y : Name) (j : ℕ)
    → lookup (record { name = s.name; cells = slice_set s.cells i v } ∷ ss) y j ≡ (if same_place x i y j then Some v else lookup (s ∷ ss) y j)
set_slot s ss x i v e h y j =
    let is : s.name ≡ x = name_eq s.name x e in
    subst (λ (z : Name). (if same_name z y then slice_get (slice_set s.cells i v) j else lookup ss y j) ≡
    (if same_place x i y j then Some v else (if same_name z y then slice_get s.cells j else lookup ss y j))) (sym is)
    (by_name (same_name x y))
  where
    by_name : (b : Bool) → (if b then slice_get (slice_set s.cells i v) j else lookup ss y j) ≡
        (if b && nat_eq i j then Some v else (if b then slice_get s.cells j else lookup ss y j))
    by_name true = set_there s.cells i j v h
    by_name false = refl

-- a memory with the value at the place, and all others as they were
abbrev Stored : List Slot → Name → ℕ → ℤ → Option (List Slot) → Type 0
Stored m x i v o = (m' : List Slot) × ((o ≡ Some m') × ((y : Name) (j : ℕ) → lookup m' y j ≡ (if same_place x i y j then Some v else lookup m y j)))

put_here : (s : Slot) (ss : List Slot) (x : Name) (i : ℕ) (v u : ℤ) → same_name s.name x ≡ true → slice_get s.cells i ≡ Some u
    → Stored (s ∷ ss) x i v (store (s ∷ ss) x i v)
put_here s ss x i v u e h =
    let within : i < length s.cells = slice_get_within s.cells i u h in
    let to : List Slot = record { name = s.name; cells = slice_set s.cells i v } ∷ ss in (
      to,
      (
        cond-true (same_name s.name x) (if nat_lt i (length s.cells) then Some to else None) (store ss x i v >>= λ rest. Some (s ∷ rest)) e ∙ cond-true
            (nat_lt i (length s.cells)) (Some to) None (lt-ltb i (length s.cells) within),
        set_slot s ss x i v e within,
      ),
    )

put_behind : (s : Slot) (ss : List Slot) (x : Name) (i : ℕ) (v : ℤ) → same_name s.name x ≡ false → Stored ss x i v (store ss x i v)
    → Stored (s ∷ ss) x i v (store (s ∷ ss) x i v)
put_behind s ss x i v e r = (
  s ∷ r.0,
  (
    cond-false (same_name s.name x) _ (store ss x i v >>= λ rest. Some (s ∷ rest)) e ∙ ap
        (λ (o : Option (List Slot)). o >>= λ rest. Some (s ∷ rest)) r.1.0,
    holds,
  ),
)
  where
    holds : (y : Name) (j : ℕ) → lookup (s ∷ r.0) y j ≡ (if same_place x i y j then Some v else lookup (s ∷ ss) y j)
    holds y j = by_name (same_name s.name y) refl
      where
        by_name : (b : Bool) → same_name s.name y ≡ b → lookup (s ∷ r.0) y j ≡ (if same_place x i y j then Some v else lookup (s ∷ ss) y j)
        by_name true q =
            let differ : same_name x y ≡ false = subst (λ (z : Name). same_name x z ≡ false) (name_eq s.name y q) (not_same s.name x e) in
            rw (q, differ) refl
        by_name false q = rw q (r.1.1 y j)

store_puts : (m : List Slot) (x : Name) (i : ℕ) (v u : ℤ) → lookup m x i ≡ Some u → Stored m x i v (store m x i v)
store_puts [] x i v u h = absurd (none_some u h)
  where
    none_some : (u : ℤ) → None ≡ Some u → ⊥
    none_some u e = cc
store_puts (s ∷ ss) x i v u h = by_name (λ k. store_puts ss x i v u k) (same_name s.name x) refl
  where
    by_name : (lookup ss x i ≡ Some u → Stored ss x i v (store ss x i v)) → (b : Bool) → same_name s.name x ≡ b → Stored (s ∷ ss) x i v (store (s ∷ ss) x i v)
    by_name rest true e = put_here s ss x i v u e (sym (cond-true (same_name s.name x) (slice_get s.cells i) (lookup ss x i) e) ∙ h)
    by_name rest false e = put_behind s ss x i v e (rest (sym (cond-false (same_name s.name x) (slice_get s.cells i) (lookup ss x i) e) ∙ h))

-- A place that is there can be written, and then holds what was written; every other read stays.
pub store_at : (w : World) (x : Name) (i : ℕ) (v : ℤ) → Has w x i → (m : List Slot) × ((store w.slots x i v ≡ Some m) × Puts w x i v (with_slots w m))
store_at w x i v h =
    let r = store_puts w.slots x i v h.holds h.is in
    (r.0, (r.1.0, record { places = r.1.1; left = refl }))

pub put_puts : (w : World) (x : Name) (i : ℕ) (v : ℤ) → Has w x i → (w' : World) × ((put w x i v ≡ Some w') × Puts w x i v w')
put_puts w x i v h =
    let r = store_at w x i v h in
    (with_slots w r.0, (ap (λ (o : Option (List Slot)). o >>= λ m. Some (with_slots w m)) r.1.0, r.1.1))

-- ---- what was put, and what stands elsewhere

pub put_there : (w w' : World) (x : Name) (i : ℕ) (v : ℤ) → Puts w x i v w' → get w' x i ≡ Some v
put_there w w' x i v p = p.places x i ∙ cond-true (same_place x i x i) (Some v) (get w x i) (and_from _ _ (name_same x) (eq-eqb i i refl))

pub put_elsewhere : (w w' : World) (x : Name) (i : ℕ) (v : ℤ) (y : Name) (j : ℕ) → Puts w x i v w' → same_place x i y j ≡ false → get w' y j ≡ get w y j
put_elsewhere w w' x i v y j p e = p.places y j ∙ cond-false (same_place x i y j) (Some v) (get w y j) e

-- of another name
pub put_other : (w w' : World) (x : Name) (i : ℕ) (v : ℤ) (y : Name) (j : ℕ) → Puts w x i v w' → same_name x y ≡ false → get w' y j ≡ get w y j
put_other w w' x i v y j p e = put_elsewhere w w' x i v y j p (ap (λ (b : Bool). b && nat_eq i j) e)

pub same_apart : (i j : ℕ) → (i ≡ j → ⊥) → (b : Bool) → b && nat_eq i j ≡ false
same_apart i j h true = ne_eqb i j h
same_apart i j h false = refl

-- of another element
pub put_apart : (w w' : World) (x : Name) (i : ℕ) (v : ℤ) (y : Name) (j : ℕ) → Puts w x i v w' → (i ≡ j → ⊥) → get w' y j ≡ get w y j
put_apart w w' x i v y j p e = put_elsewhere w w' x i v y j p (same_apart i j e (same_name x y))

pub has_puts : (w w' : World) (x : Name) (i : ℕ) (v : ℤ) (y : Name) (j : ℕ) → Puts w x i v w' → Has w y j → Has w' y j
has_puts w w' x i v y j p h = by_case (same_place x i y j) refl
  where
    by_case : (b : Bool) → same_place x i y j ≡ b → Has w' y j
    by_case true e = record { holds = v; is = p.places y j ∙ cond-true (same_place x i y j) (Some v) (get w y j) e }
    by_case false e = record { holds = h.holds; is = p.places y j ∙ (cond-false (same_place x i y j) (Some v) (get w y j) e ∙ h.is) }

-- nothing written is a write of what was there
pub puts_same : (w : World) (x : Name) (i : ℕ) (z : ℤ) → get w x i ≡ Some z → Puts w x i z w
puts_same w x i z is = record { places = λ y j. by_place y j (same_place x i y j) refl; left = refl }
  where
    by_place : (y : Name) (j : ℕ) (t : Bool) → same_place x i y j ≡ t → get w y j ≡ (if t then Some z else get w y j)
    by_place y j true e =
        ap (λ (y : Name). get w y j) (sym (name_eq x y (and_left _ _ e))) ∙ (ap (get w x) (sym (eqb-true i j (and_right (same_name x y) _ e))) ∙ is)
    by_place y j false e = refl

-- of two writes of a place the second holds
pub puts_then : (w w' w'' : World) (x : Name) (i : ℕ) (v u : ℤ) → Puts w x i v w' → Puts w' x i u w'' → Puts w x i u w''
puts_then w w' w'' x i v u p q =
    record {
      places = λ y j. q.places y j ∙
          (ap (λ (o : Option ℤ). if same_place x i y j then Some u else o) (p.places y j) ∙ twice (same_place x i y j) (get w y j));
      left = q.left ∙ p.left;
    }
  where
    twice : (t : Bool) (o : Option ℤ) → (if t then Some u else (if t then Some v else o)) ≡ (if t then Some u else o)
    twice true o = refl
    twice false o = refl

-- ---- what stays

pub keeps_all : (spare : Name → Bool) (a : Name) (o n : ℕ) (w : World) → Keeps spare a o n w w
keeps_all spare a o n w = record { same = λ y j h. refl; there = λ y j h. h; left = refl }

pub keeps_then : {spare : Name → Bool} {a : Name} {o n : ℕ} {u v w : World} → Keeps spare a o n u v → Keeps spare a o n v w → Keeps spare a o n u w
keeps_then k l = record { same = λ y j h. l.same y j h ∙ k.same y j h; there = λ y j h. l.there y j (k.there y j h); left = l.left ∙ k.left }

pub keeps_places : {spare : Name → Bool} {a : Name} {o n : ℕ} {v w : World} → Keeps spare a o n v w → KeepsPlaces spare a o n v w
keeps_places k = record { same = k.same; there = k.there }

pub places_then : {spare : Name → Bool} {a : Name} {o n : ℕ} {u v w : World} → KeepsPlaces spare a o n u v → KeepsPlaces spare a o n v w
    → KeepsPlaces spare a o n u w
places_then k l = record { same = λ y j h. l.same y j h ∙ k.same y j h; there = λ y j h. l.there y j (k.there y j h) }

outside_within : {spare : Name → Bool} {a : Name} (o n p m : ℕ) {y : Name} {j : ℕ} → o ≤ p → p + m ≤ o + n → Outside spare a o n y j → Outside spare a p m y j
outside_within o n p m l r q =
    record { kept = q.kept; apart = λ s. elim (q.apart s) [ inl h ↦ inl (omega (arith, h, l)) | inr h ↦ inr (omega (arith, h, r)) ] }

-- fewer places of the same array
pub keeps_wider : (spare : Name → Bool) (a : Name) (o n p m : ℕ) (w w' : World) → o ≤ p → p + m ≤ o + n → Keeps spare a p m w w' → Keeps spare a o n w w'
keeps_wider spare a o n p m w w' l r k = record { same = λ y j q. k.same y j (outside_within o n p m l r q); there = k.there; left = k.left }

-- a write to a spare name
pub keeps_spare : (spare : Name → Bool) (a : Name) (o n : ℕ) (w w' : World) (x : Name) (i : ℕ) (v : ℤ) → spare x ≡ true → Puts w x i v w'
    → Keeps spare a o n w w'
keeps_spare spare a o n w w' x i v s p = record {
  same = λ y j h. put_other w w' x i v y j p (other_name spare x y s h.kept);
  there = λ y j h. has_puts w w' x i v y j p h;
  left = p.left;
}

-- a write to one of the places
pub keeps_cell : (spare : Name → Bool) (a : Name) (o n : ℕ) (w w' : World) (i : ℕ) (v : ℤ) → o ≤ i → i < o + n → Puts w a i v w' → Keeps spare a o n w w'
keeps_cell spare a o n w w' i v l r p = record {
  same = λ y j h. put_elsewhere w w' a i v y j p (apart_from y j h (same_name a y) refl);
  there = λ y j h. has_puts w w' a i v y j p h;
  left = p.left;
}
  where
    apart_from : (y : Name) (j : ℕ) → Outside spare a o n y j → (b : Bool) → same_name a y ≡ b → same_place a i y j ≡ false
    apart_from y j h true e = elim (h.apart e) [
      | inl q ↦ same_apart i j (λ d. absurd (omega (arith, d, l, r, q))) (same_name a y)
      | inr q ↦ same_apart i j (λ d. absurd (omega (arith, d, l, r, q))) (same_name a y)
    ]
    apart_from y j h false e = ap (λ (b : Bool). b && nat_eq i j) e
