-- A node of the least date, by the first list that has an event.
use Rattle.std.specs.Prelude.{IfSome}
use Rattle.std.specs.Option.{is_some}
use Rattle.std.proofs.Common.{arith, refl, true, false, sym, ◌∙◌, ap, subst, ◌+◌, ◌%◌, ◌==◌, ◌⊎◌, inl, inr, nat_lt, ◌≡◌, ◌≢◌, ◌<◌, ◌≤◌, ℕ, List, [], ◌∷◌, Option, None, Some}
use Rattle.std.proofs.lemmas.Bool.Decides.{nat_tests}
use Rattle.sci_links.specs.Table.{Table, IsTable, Distinct, list_of, chain, has, behind, first as first_node, rest}
use Rattle.sci_links.proofs.TestLemmas.{known, when, eq_true, same as same_test, has_here, has_cases}
use Rattle.sci_agenda.specs.Chained.{date_at, from_node, from}
use Rattle.sci_agenda.specs.Wheel.{place, list_at, Placed, IsFirstAt, IsFirstList, IsLeastIn, IsLeast}
use Rattle.sci_agenda.proofs.Chains.{from_behind, from_here, behind_in}
use Rattle.sci_agenda.proofs.Ranks.{rank, rank_below, rank_from, rank_list, rank_is, rank_order, same_date}

pub has_first : (x : ℕ) (xs : List ℕ) → first_node xs ≡ Some x → has x xs ≡ true
has_first x [] e = absurd (cc)
has_first x (y ∷ ys) e = let f : x ≡ y = cc in has_here x y ys f

pub has_none : (x : ℕ) (xs : List ℕ) → first_node xs ≡ None → has x xs ≡ true → ⊥
has_none x [] e h = let f : false ≡ true = h in absurd (cc)
has_none x (y ∷ ys) e h = absurd (cc)

pub some_of : (o : Option ℕ) → is_some o ≡ true → (l : ℕ) × (o ≡ Some l)
some_of None h = absurd (cc)
some_of (Some l) h = (l, refl)

pub none_of : (o : Option ℕ) → is_some o ≡ false → o ≡ None
none_of None h = refl
none_of (Some l) h = absurd (cc)

-- no list of a lesser rank has an event
abbrev pub NoneBefore : Table → ℕ → ℕ → Type 0
NoneBefore t now rank = (q x : ℕ) → now % 256 ≤ q → q < rank → has x (chain t (list_at now q)) ≡ true → ⊥

pub none_more : (t : Table) (now rank : ℕ) → NoneBefore t now rank → first_node (chain t (list_at now rank)) ≡ None → NoneBefore t now (rank + 1)
none_more t now rank f e q x low high h = elim (known (q == rank)) [
  | inl a ↦ has_none x (chain t (list_at now rank)) e (subst (λ (k : ℕ). has x (chain t (list_at now k)) ≡ true) (eq_true q rank a) h)
  | inr a ↦ f q x low (let ne : q ≢ rank = λ same. (grind (arith, nat_tests)) in omega arith) h
]

-- what is known of the best node so far
pub record IsBest (ds xs : List ℕ) (at : Option ℕ) (best : ℕ) : Type 0 where
  pub inside : has best xs ≡ true
  pub least : (x : ℕ) → has x xs ≡ true → (date_at ds best ≤ date_at ds x) ⊎ (has x (from at xs) ≡ true)
  pub stands : (x : ℕ) → at ≡ Some x → has x xs ≡ true

pub best_first : (ds xs : List ℕ) (n : ℕ) → first_node xs ≡ Some n → IsBest ds xs (Some n) n
best_first ds xs n e = record {
  inside = has_first n xs e;
  least = λ x h. inr (subst (λ (l : List ℕ). has x l ≡ true) (sym (from_start xs n e)) h);
  stands = λ x f. let same : n ≡ x = cc in subst (λ (j : ℕ). has j xs ≡ true) same (has_first n xs e);
}
  where
    from_start : (ys : List ℕ) (m : ℕ) → first_node ys ≡ Some m → from_node m ys ≡ ys
    from_start [] m f = absurd (cc)
    from_start (y ∷ ys) m f = let eq : m ≡ y = cc in when (m == y) (y ∷ ys) (from_node m ys) (same_test m y eq)

pub best_more : (ds xs : List ℕ) (node best r : ℕ) → Distinct xs → IsBest ds xs (Some node) best
    → date_at ds r ≤ date_at ds node → date_at ds r ≤ date_at ds best → (r ≡ best) ⊎ (r ≡ node) → IsBest ds xs (behind node xs) r
best_more ds xs node best r u b near far chosen =
    let here : has node xs ≡ true = b.stands node refl in
    record {
      inside = elim chosen [ inl e ↦ subst (λ (j : ℕ). has j xs ≡ true) (sym e) b.inside | inr e ↦ subst (λ (j : ℕ). has j xs ≡ true) (sym e) here ];
      least = λ x h. elim (b.least x h) [
        | inl le ↦ inl (omega arith)
        | inr left ↦ elim (has_cases x node (rest (from_node node xs)) (subst (λ (l : List ℕ). has x l ≡ true) (from_here node xs here) left)) [
          | inl same ↦ inl (subst (λ (j : ℕ). date_at ds r ≤ date_at ds j) (sym same) near)
          | inr later ↦ inr (subst (λ (l : List ℕ). has x l ≡ true) (sym (from_behind node xs u)) later)
        ]
      ];
      stands = λ x e. behind_in node x xs e;
    }

pub best_all : (ds xs : List ℕ) (best : ℕ) → IsBest ds xs None best → IsLeastIn ds xs (Some best)
best_all ds xs best b = (b.inside, λ x h. elim (b.least x h) [ inl le ↦ le | inr left ↦ (let f : false ≡ true = left in absurd (cc)) ])

pub if_first : (P : ℕ → Type 0) (o : Option ℕ) (xs : List ℕ) → o ≡ first_node xs → ((n : ℕ) → has n xs ≡ true → P n) → IfSome o P
if_first P None xs e f = tt
if_first P (Some n) xs e f = f n (has_first n xs (sym e))

pub if_least : (P : ℕ → Type 0) (ds xs : List ℕ) (o : Option ℕ) → IsLeastIn ds xs o → ((n : ℕ) → has n xs ≡ true → ((x : ℕ) → has x xs ≡ true → date_at ds n ≤ date_at ds x) → P n) → IfSome o P
if_least P ds xs None h f = tt
if_least P ds xs (Some n) h f = f n h.0 h.1

module _ (t : Table) (ds : List ℕ) (now : ℕ) (k : IsTable t) (placed : Placed t ds (place now))
    (low : (l x : ℕ) → has x (chain t l) ≡ true → now ≤ date_at ds x) (high : (l x : ℕ) → has x (chain t l) ≡ true → date_at ds x < now + 2147483648) where
  stands : (x l : ℕ) → list_of t x ≡ Some l → has x (chain t (list_at now (rank now (date_at ds x)))) ≡ true
  stands x l e =
      let h = (k.held l x e).0 in
      let same : l ≡ list_at now (rank now (date_at ds x)) = sym (placed l x h) ∙ rank_list now (date_at ds x) (low l x h) (high l x h) in
      subst (λ (j : ℕ). has x (chain t j) ≡ true) same h

  pub nothing_least : IsFirstList t now None → (x l : ℕ) → list_of t x ≡ Some l → ⊥
  nothing_least f x l e =
      let h = (k.held l x e).0 in
      f (rank now (date_at ds x)) x (rank_from now (date_at ds x) (low l x h) (high l x h)) (rank_below now (date_at ds x) (low l x h) (high l x h)) (stands x l e)

  module _ (list r : ℕ) (f : IsFirstAt t now list r) where
    pub first_least : (n : ℕ) → has n (chain t list) ≡ true → ((x : ℕ) → has x (chain t list) ≡ true → date_at ds n ≤ date_at ds x) → IsLeast t ds n
    first_least n inside least = record { held = (list, (k.holds list n inside).0); least = least_of }
      where
        least_of : (x l : ℕ) → list_of t x ≡ Some l → date_at ds n ≤ date_at ds x
        least_of x l e =
            let d = date_at ds x in
            let h = (k.held l x e).0 in
            let q = rank now d in
            elim (known (nat_lt q r)) [
              | inl a ↦ (let lt : q < r = grind (arith, nat_tests) in absurd (f.before q x (rank_from now d (low l x h) (high l x h)) lt (stands x l e)))
              | inr a ↦ elim (known (nat_lt r q)) [
                | inl b ↦ (let lt : r < q = grind (arith, nat_tests) in
                    let is : rank now (date_at ds n) ≡ r = rank_is now (date_at ds n) r (low list n inside) (high list n inside) f.in_range (placed list n inside ∙ f.list_is) in
                    rank_order now (date_at ds n) d (low list n inside) (low l x h) (omega arith))
                | inr b ↦ (let same : q ≡ r = grind (arith, nat_tests) in
                    let there : list_at now q ≡ list = ap (list_at now) same ∙ sym f.list_is in
                    least x (subst (λ (j : ℕ). has x (chain t j) ≡ true) there (stands x l e)))
              ]
            ]

    pub low_least : (n : ℕ) → list < 256 → has n (chain t list) ≡ true → IsLeast t ds n
    low_least n h inside = first_least n inside (λ x g.
        let p = placed list n inside in
        let q = placed list x g in
        let same : date_at ds n ≡ date_at ds x = same_date now (date_at ds n) (date_at ds x) (low list n inside) (low list x g) (omega arith) (p ∙ sym q) in
        omega arith)
