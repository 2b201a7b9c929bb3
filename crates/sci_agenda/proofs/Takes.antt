-- The wheel's `take` and `next_date`.
use Rattle.std.proofs.Common.{◌≡◌, ◌<◌, ◌≤◌, ◌+◌, ◌*◌, ◌%◌, ◌==◌, inl, inr, nat_lt, ℕ, zero, suc, true, false, List, [], ◌∷◌, ◌++◌, length, Some, None, refl, sym, ◌∙◌, ap, subst, arith, length-set}
use Rattle.std.proofs.lemmas.Bool.Decides.{nat_tests}
use Rattle.sci_links.specs.Table.{Table, IsTable, nothing, chain, list_of, has, popped, first as first_node, rest}
use Rattle.sci_links.proofs.TestLemmas.{known, eq_true, eq_false, has_here, has_cases}
use Rattle.sci_agenda.specs.Firing.{Meaning, first, first_date, after_take}
use Rattle.sci_agenda.specs.Chained.{date_at, events_of}
use Rattle.sci_agenda.specs.Wheel.{in_order, sorted, all_nodes, weight, place, at_date, Turned, IsLeast, IsWheel}
use Rattle.sci_agenda.proofs.Sorting.{Event, AllFrom, Sorted, from-sorted, at_here, at_other, at_none}
use Rattle.sci_agenda.proofs.Places.{place_now}
use Rattle.sci_agenda.proofs.Wheels.{sorted_order, at_order, has-rest, in_changed}
use Rattle.sci_agenda.proofs.WheelSteps.{all_has, weight_less, first_has, first_cons}
use Rattle.sci_agenda.proofs.Moves.{all_from, take_placed, take_order}

no_nodes : (xs : List ℕ) → ((x : ℕ) → has x xs ≡ true → ⊥) → xs ≡ []
no_nodes [] f = refl
no_nodes (x ∷ xs) f = absurd (f x (has_here x x xs refl))

pub nothing_waits : (t : Table) (ds : List ℕ) → IsTable t → ((x l : ℕ) → list_of t x ≡ Some l → ⊥) → in_order ds t.lists ≡ []
unfolding in_order
nothing_waits t ds k f = ap (λ (xs : List ℕ). sorted (events_of ds xs)) (no_nodes (all_nodes t.lists) (λ x h. let a = all_has x t.lists h in f x a.0 (k.holds a.0 x a.1).0))

some_at : (ds xs : List ℕ) (n d : ℕ) → has n xs ≡ true → date_at ds n ≡ d → at_date d (events_of ds xs) ≡ [] → ⊥
some_at ds [] n d h e z = let f : false ≡ true = h in absurd (cc)
some_at ds (y ∷ ys) n d h e z = elim (known (date_at ds y == d)) [
  | inl a ↦ (let g : (date_at ds y, y + 1) ∷ at_date d (events_of ds ys) ≡ [] = sym (at_here d (date_at ds y, y + 1) (events_of ds ys) (eq_true (date_at ds y) d a)) ∙ z in
      let w : true ≡ false = cc in absurd (cc))
  | inr a ↦ (let ne = eq_false (date_at ds y) d a in
      some_at ds ys n d (elim (has_cases n y ys h) [ inl b ↦ absurd (ne (sym (ap (date_at ds) b) ∙ e)) | inr b ↦ b ]) e
      (sym (at_other d (date_at ds y, y + 1) (events_of ds ys) ne) ∙ z))
]

head_date : (es : List Event) (d : ℕ) → Sorted es → AllFrom d es → (at_date d es ≡ [] → ⊥) → first_date es ≡ Some d
head_date [] d s a f = absurd (f refl)
head_date (e ∷ es) d s a f = elim (known (nat_lt d e.0)) [
  | inl t ↦ (let lt : d < e.0 = grind (arith, nat_tests) in absurd (f (at_none d e.0 (e ∷ es) (omega arith, s.0) lt)))
  | inr t ↦ (let le : e.0 ≤ d = grind (arith, nat_tests) in let b = a.0 in let q : e.0 ≡ d = omega arith in ap Some q)
]

module _ (t : Table) (ds : List ℕ) (now ports puts n v : ℕ) (k : IsWheel t ds now ports puts) (h : IsLeast t ds n) (ev : v ≡ date_at ds n) where
  stands : has n (chain t h.held.0) ≡ true
  stands = (k.table.held h.held.0 n h.held.1).0

  pub least_node : n < ports
  least_node = let a = (k.table.held h.held.0 n h.held.1).2 in let b = k.nodes in omega arith

  pub least_from : now ≤ v
  least_from = let a = k.from h.held.0 n stands in omega arith

  pub least_all : (l x : ℕ) → has x (chain t l) ≡ true → v ≤ date_at ds x
  least_all l x g = let a = h.least x l (k.table.holds l x g).0 in omega arith

  low_order : AllFrom v (in_order ds t.lists)
  unfolding in_order
  low_order = from-sorted v (events_of ds (all_nodes t.lists)) (all_from ds (all_nodes t.lists) v (λ x g. let a = all_has x t.lists g in least_all a.0 x a.1))

  some_order : at_date v (in_order ds t.lists) ≡ [] → ⊥
  some_order z =
      let p : place now v ≡ h.held.0 = ap (place now) ev ∙ k.placed h.held.0 n stands in
      some_at ds (chain t (place now v)) n v (ap (λ (j : ℕ). has n (chain t j)) p ∙ stands) (sym ev) (sym (at_order t ds (place now) k.placed v) ∙ z)

  pub least_first : first_date (in_order ds t.lists) ≡ Some v
  least_first = head_date (in_order ds t.lists) v (sorted_order ds t.lists) low_order some_order

  module _ (r u : Table) (m : Turned t r ds v) (eu : u ≡ popped r (v % 256)) (table : IsTable u) where
    pub take_some : first_node (chain r (v % 256)) ≡ None → ⊥
    take_some f =
        some_order (ap (at_date v) (sym m.order) ∙ (at_order r ds (place v) m.placed v
        ∙ ap (λ (l : List ℕ). at_date v (events_of ds l)) (ap (chain r) (place_now v) ∙ none_empty (chain r (v % 256)) f)))
      where
        none_empty : (xs : List ℕ) → first_node xs ≡ None → xs ≡ []
        none_empty [] e = refl
        none_empty (x ∷ xs) e = absurd (cc)

    stood : (l z : ℕ) → has z (chain u l) ≡ true → (j : ℕ) × (has z (chain t j) ≡ true)
    stood l z g =
        let hl : v % 256 < length r.lists = let a = m.lists in let b = k.lists in omega arith in
        elim (in_changed r (v % 256) (rest (chain r (v % 256))) l z hl (sym (ap (λ (w : Table). has z (chain w l)) eu) ∙ g)) [
          | inl a ↦ m.before (v % 256) z (has-rest z (chain r (v % 256)) a.1)
          | inr a ↦ m.before l z a.1
        ]

    pub take_wheel : (x : ℕ) → first_node (chain r (v % 256)) ≡ Some x → IsWheel u ds v ports puts
    take_wheel x f =
        let hl : v % 256 < length r.lists = let a = m.lists in let b = k.lists in omega arith in
        let low : (z : ℕ) → has z (all_nodes u.lists) ≡ true → v ≤ date_at ds z = λ z g. let a = all_has z u.lists g in let b = stood a.0 z a.1 in least_all b.0 z b.1 in
        let w = weight_less r (v % 256) (rest (chain r (v % 256))) hl (let g = ap length (first_cons (chain r (v % 256)) x f) in omega arith) in
        record {
          table = table;
          lists = ap (λ (w : Table). length w.lists) eu ∙ (length-set r.lists (v % 256) (rest (chain r (v % 256))) ∙ (m.lists ∙ k.lists));
          nodes = ap (λ (w : Table). w.nodes) eu ∙ (m.nodes ∙ k.nodes);
          dated = k.dated;
          placed = take_placed r u ds v x m.placed f hl eu low;
          from = λ l z g. let b = stood l z g in least_all b.0 z b.1;
          until = λ l z g. let b = stood l z g in let c = k.until b.0 z b.1 in let d = least_from in omega arith;
          bounded = λ g. subst (λ (w : Table). w.work + weight 0 w.lists ≤ 8 * puts) (sym eu) (let b = k.bounded g in let s = m.spent in omega arith);
        }

    pub take_events : (x : ℕ) → first_node (chain r (v % 256)) ≡ Some x → in_order ds t.lists ≡ (v, x + 1) ∷ in_order ds u.lists
    take_events x f =
        let hl : v % 256 < length r.lists = let a = m.lists in let b = k.lists in omega arith in
        let low : (z : ℕ) → has z (all_nodes u.lists) ≡ true → v ≤ date_at ds z = λ z g. let a = all_has z u.lists g in let b = stood a.0 z a.1 in least_all b.0 z b.1 in
        sym m.order ∙ take_order r u ds v x m.placed f hl eu low

    pub take_bound : (x : ℕ) → first_node (chain r (v % 256)) ≡ Some x → x < ports
    take_bound x f = let a = (m.table.holds (v % 256) x (first_has (chain r (v % 256)) x f)).1 in let b = m.nodes in let c = k.nodes in omega arith

pub taken_view : (es fs : List Event) (v x now ports : ℕ) → es ≡ (v, x + 1) ∷ fs
    → (Some (v, x + 1) ≡ first es) × ((let m : Meaning = record { events = fs; now = v; ports = ports } in m) ≡ after_take (record { events = es; now = now; ports = ports }))
taken_view es fs v x now ports e = (sym (ap first e), sym (ap (λ (l : List Event). after_take (record { events = l; now = now; ports = ports })) e))

no_lists : (n : ℕ) → all_nodes (nothing n) ≡ []
no_lists zero = refl
no_lists (suc n) = all_push (nothing n) (no_lists n)
  where
    all_push : (ls : List (List ℕ)) → all_nodes ls ≡ [] → all_nodes (ls ++ [] ∷ []) ≡ []
    all_push [] e = refl
    all_push ([] ∷ ls) e = all_push ls e
    all_push ((x ∷ xs) ∷ ls) e = absurd (cc)

pub new_order : (ds : List ℕ) (n : ℕ) → in_order ds (nothing n) ≡ []
unfolding in_order
new_order ds n = ap (λ (xs : List ℕ). sorted (events_of ds xs)) (no_lists n)
