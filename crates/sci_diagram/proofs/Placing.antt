-- The fields of an object at the places of their names.
use Rattle.std.proofs.Common.{◌≡◌, ℕ, suc, ◌+◌, ◌<◌, ◌==◌, List, [], ◌∷◌, length, map, set, get_or, Bool, true, false, cond, not, ◌&&◌, Option, Some, None, option_map, Bor, bytes_eq, true≢false, eq-eqb, ne_eqb, refl, sym, ap, ◌∙◌, subst, arith}
use Rattle.std.specs.List.{position_from}
use Rattle.std.specs.Option.{option_copied}
use Rattle.std.proofs.lemmas.List.{map-set, get_or-map, get_or_default, length-map}
use Rattle.std.proofs.lemmas.Slice.Eq.{bytes_eq-Decides}
use Rattle.json.specs.Token.{Token}
use Rattle.serde_json.specs.Data.{Data, null, boolean, number, string, array, object, Members, no_members, put}
use Rattle.serde_json.specs.Find.{get, get_member, as_object}
use Rattle.serde_json.proofs.Views.{get_member-put, get_member-put_other}
use Rattle.sci_json.specs.View.{view, Named, NextMember}
use Rattle.sci_diagram.specs.Names.{names, AreFound, AreFieldsOf, of_length, code_among}

-- ---- names

apart : (a b : List ℕ) → bytes_eq a b ≡ false → b ≡ a → ⊥
apart a b e same = true≢false (sym ((bytes_eq-Decides a b).1 (sym same)) ∙ e)

abbrev differs : List ℕ → List (List ℕ) → Bool
differs n [] = true
differs n (m ∷ ms) = not (bytes_eq n m) && differs n ms

abbrev distinct : List (List ℕ) → Bool
distinct [] = true
distinct (n ∷ ns) = differs n ns && distinct ns

abbrev values : Members → List (List ℕ) → List (Option Data)
values fields ns = map (λ n. get_member n fields) ns

both : (a b : Bool) → (a && b) ≡ true → (a ≡ true) × (b ≡ true)
both true b e = (refl, e)
both false b e = absurd (true≢false (sym e))

not_so : (b : Bool) → not b ≡ true → b ≡ false
not_so true e = absurd (true≢false (sym e))
not_so false e = refl

-- ---- a member more

module _ (name : List ℕ) (d : Data) (fields : Members) where
  joined : (n : List ℕ) (ns : List (List ℕ)) → (n ≡ name → ⊥) → values (put name d fields) ns ≡ values fields ns → values (put name d fields) (n ∷ ns) ≡ values fields (n ∷ ns)
  joined n ns other same = ap (λ v. v ∷ values (put name d fields) ns) (get_member-put_other n name d fields other) ∙ ap (λ vs. get_member n fields ∷ vs) same

  others : (ns : List (List ℕ)) → differs name ns ≡ true → values (put name d fields) ns ≡ values fields ns
  others [] e = refl
  others (n ∷ ns) e = let h = both (not (bytes_eq name n)) (differs name ns) e in joined n ns (apart name n (not_so (bytes_eq name n) h.0)) (others ns h.1)

  unplaced_at : (n : List ℕ) (ns : List (List ℕ)) (i : ℕ) (b : Bool) → bytes_eq name n ≡ b → cond b (Some i) (position_from (bytes_eq name) (i + 1) ns) ≡ None
      → (position_from (bytes_eq name) (i + 1) ns ≡ None → values (put name d fields) ns ≡ values fields ns) → values (put name d fields) (n ∷ ns) ≡ values fields (n ∷ ns)
  unplaced_at n ns i true e h again = absurd (cc)
  unplaced_at n ns i false e h again = joined n ns (apart name n e) (again h)

  unplaced : (ns : List (List ℕ)) (i : ℕ) → position_from (bytes_eq name) i ns ≡ None → values (put name d fields) ns ≡ values fields ns
  unplaced [] i e = refl
  unplaced (n ∷ ns) i e = unplaced_at n ns i (bytes_eq name n) refl e (unplaced ns (i + 1))

  abbrev IsPlaced : List (List ℕ) → ℕ → ℕ → Type 0
  IsPlaced ns i k = (j : ℕ) × (k ≡ i + j) × (values (put name d fields) ns ≡ set (values fields ns) j (Some d))

  placed_at : (n : List ℕ) (ns : List (List ℕ)) (i k : ℕ) (b : Bool) → differs n ns ≡ true → bytes_eq name n ≡ b → cond b (Some i) (position_from (bytes_eq name) (i + 1) ns) ≡ Some k
      → (position_from (bytes_eq name) (i + 1) ns ≡ Some k → IsPlaced ns (i + 1) k) → IsPlaced (n ∷ ns) i k
  placed_at n ns i k true apart_of e h again =
      let same : name ≡ n = (bytes_eq-Decides name n).0 e in
      let here : get_member n (put name d fields) ≡ Some d = ap (λ q. get_member q (put name d fields)) (sym same) ∙ get_member-put name d fields in
      let rest = others ns (ap (λ q. differs q ns) same ∙ apart_of) in
      let at : i ≡ k = cc in
      (0, omega arith, ap (λ v. v ∷ values (put name d fields) ns) here ∙ ap (λ vs. Some d ∷ vs) rest)
  placed_at n ns i k false apart_of e h again =
      let r = again h in
      let first = get_member-put_other n name d fields (apart name n e) in
      (suc r.0, omega (arith, r.1), ap (λ v. v ∷ values (put name d fields) ns) first ∙ ap (λ vs. get_member n fields ∷ vs) r.2)

  placed : (ns : List (List ℕ)) (i k : ℕ) → distinct ns ≡ true → position_from (bytes_eq name) i ns ≡ Some k → IsPlaced ns i k
  placed [] i k e h = absurd (cc)
  placed (n ∷ ns) i k e h = let s = both (differs n ns) (distinct ns) e in placed_at n ns i k (bytes_eq name n) s.0 refl h (placed ns (i + 1) k s.1)

distinct_names : distinct names ≡ true
distinct_names = refl

-- a member of no such name changes no value
pub passed_over : (found : List (Option (List Token))) (fields : Members) (name : List ℕ) (ts : List Token) → position_from (bytes_eq name) 1 names ≡ None → AreFound found fields
    → AreFound found (put name (view ts) fields)
passed_over found fields name ts none h = h ∙ sym (unplaced name (view ts) fields names 1 none)

-- a member goes to the place of its code
pub taken_up : (found : List (Option (List Token))) (fields : Members) (name : List ℕ) (ts : List Token) (code i : ℕ) → position_from (bytes_eq name) 1 names ≡ Some code → code ≡ 1 + i → AreFound found fields
    → AreFound (set found i (Some ts)) (put name (view ts) fields)
taken_up found fields name ts code i at place h =
    let p = placed name (view ts) fields names 1 code distinct_names at in
    let is : i ≡ p.0 = omega (arith, p.1) in
    map-set (option_map view) found i (Some ts) ∙ ap (λ l. set l i (Some (view ts))) h ∙ ap (λ k. set (values fields names) k (Some (view ts))) is ∙ sym p.2

-- ---- the names of one length

short : (a b : List ℕ) → (length a == length b) ≡ false → bytes_eq a b ≡ false
short a b e = tested (bytes_eq a b) refl
  where
    tested : (v : Bool) → bytes_eq a b ≡ v → bytes_eq a b ≡ false
    tested false is = is
    tested true is = let same : a ≡ b = (bytes_eq-Decides a b).0 is in absurd (true≢false (sym (eq-eqb (length a) (length b) (ap length same)) ∙ e))

by_length_at : (name n : List ℕ) (ns : List (List ℕ)) (i : ℕ) (b : Bool) → (length name == length n) ≡ b → position_from (bytes_eq name) (i + 1) ns ≡ code_among name (of_length (length name) (i + 1) ns)
    → position_from (bytes_eq name) i (n ∷ ns) ≡ code_among name (cond b ((n, i) ∷ of_length (length name) (i + 1) ns) (of_length (length name) (i + 1) ns))
by_length_at name n ns i true e again = ap (λ r. cond (bytes_eq name n) (Some i) r) again
by_length_at name n ns i false e again = ap (λ b. cond b (Some i) (position_from (bytes_eq name) (i + 1) ns)) (short name n e) ∙ again

-- a name is found among those of its length
pub by_length : (name : List ℕ) (ns : List (List ℕ)) (i : ℕ) → position_from (bytes_eq name) i ns ≡ code_among name (of_length (length name) i ns)
by_length name [] i = refl
by_length name (n ∷ ns) i = by_length_at name n ns i (length name == length n) refl (by_length name ns (i + 1))

-- what is found among the names of its length
pub coded : (name bytes : List ℕ) (k : ℕ) (o : Option ℕ) → bytes ≡ name → length bytes ≡ k → o ≡ code_among bytes (of_length k 1 names) → o ≡ position_from (bytes_eq name) 1 names
coded name bytes k o same long is =
    is ∙ ap (λ (n : ℕ). code_among bytes (of_length n 1 names)) (sym long) ∙ sym (by_length bytes names 1) ∙ ap (λ (b : List ℕ). position_from (bytes_eq b) 1 names) same

none_of_length : (bytes : List ℕ) (k : ℕ) → (k == 2) ≡ false → (k == 3) ≡ false → (k == 4) ≡ false → (k == 5) ≡ false → (k == 6) ≡ false → code_among bytes (of_length k 1 names) ≡ None
none_of_length bytes k two three four five six = rw (two, three, four, five, six) refl

-- there is no name of another length
pub uncoded : (name bytes : List ℕ) (k : ℕ) → bytes ≡ name → length bytes ≡ k → (k ≡ 2 → ⊥) → (k ≡ 3 → ⊥) → (k ≡ 4 → ⊥) → (k ≡ 5 → ⊥) → (k ≡ 6 → ⊥) → None ≡ position_from (bytes_eq name) 1 names
uncoded name bytes k same long two three four five six =
    coded name bytes k None same long (sym (none_of_length bytes k (ne_eqb k 2 two) (ne_eqb k 3 three) (ne_eqb k 4 four) (ne_eqb k 5 five) (ne_eqb k 6 six)))

-- ---- the members in turn

pub next_taken : (ms : List Named) (m : Named) (rest : List Named) → NextMember ms (Some m) rest → ms ≡ m ∷ rest
next_taken [] m rest h = let e = h.0 in absurd (cc)
next_taken (x ∷ xs) m rest h = let e = h.0 in let f = h.1 in cc

pub all_taken : (ms rest : List Named) → NextMember ms None rest → ms ≡ []
all_taken [] rest h = refl
all_taken (x ∷ xs) rest h = let e = h.0 in absurd (cc)

-- ---- the fields of a value

pub of_object : (found : List (Option (List Token))) (d : Data) (fields : Members) → Some fields ≡ as_object d → AreFound found fields → AreFieldsOf found d
of_object found null fields e h = absurd (cc)
of_object found (boolean b) fields e h = absurd (cc)
of_object found (number n) fields e h = absurd (cc)
of_object found (string s) fields e h = absurd (cc)
of_object found (array ds) fields e h = absurd (cc)
of_object found (object ms) fields e h = let same : fields ≡ ms = cc in subst (λ (fs : Members). AreFound found fs) same h

pub of_another : (found : List (Option (List Token))) (d : Data) → None ≡ as_object d → AreFound found no_members → AreFieldsOf found d
of_another found null e h = h
of_another found (boolean b) e h = h
of_another found (number n) e h = h
of_another found (string s) e h = h
of_another found (array ds) e h = h
of_another found (object ms) e h = absurd (cc)

-- the value at a place is the field of the name there
found_at : (found : List (Option (List Token))) (d : Data) (i : ℕ) → i < length names → i < length found → AreFieldsOf found d → option_map view (get_or found i None) ≡ get (get_or names i []) d
found_at found d i low there h =
    sym (get_or-map (option_map view) found i None None there) ∙ ap (λ (l : List (Option Data)). get_or l i None) h ∙ get_or-map (λ (name : List ℕ). get name d) names i [] None low

pub read_at : (found : List (Option (List Token))) (d : Data) (i : ℕ) (r : Option (List Token)) → i < length names → AreFieldsOf found d → r ≡ get_or found i r → option_map view r ≡ get (get_or names i []) d
read_at found d i r low h is =
    let long = length-map found (option_map view) in
    let all = length-map names (λ (name : List ℕ). get name d) in
    let there : i < length found = omega (arith, long, all, ap length h) in
    ap (option_map view) (is ∙ get_or_default found i r None there) ∙ found_at found d i low there h

-- a value that is lent is seen as it stands
pub lent : {A B : Type 0} (f : A → B) (r : Option (Bor A)) (o : Option A) → option_copied r ≡ o → option_map (λ x. f x.now) r ≡ option_map f o
lent f None o e = ap (option_map f) e
lent f (Some x) o e = ap (option_map f) e
