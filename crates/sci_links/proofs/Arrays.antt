-- The arrays of the table.
use Rattle.std.proofs.Common.{◌≡◌, ◌≢◌, ◌<◌, ◌≤◌, ◌+◌, ◌==◌, ◌⊎◌, inl, inr, nat_lt, ℕ, zero, suc, true, false, List, [], ◌∷◌, ◌++◌, length, get_or, Option, Some, None, refl, sym, ◌∙◌, ap, subst, arith, get_or-set_other, get_or-set_same, set, length-set}
use Rattle.std.proofs.lemmas.List.{get_or_read, get_or_past, get_or_push, get_or_append_left, length_push, set-get_or}
use Rattle.std.proofs.lemmas.Bool.Decides.{nat_tests}
use Rattle.sci_links.specs.Table.{Table, IsTable, nothing, chain, list_of, has, put_before, without, first, rest, behind, holder_from}
use Rattle.sci_links.specs.Table.{Distinct}
use Rattle.sci_links.specs.Linked.{rings, Joined, Linked, IsLinked, owns, at, owner, node_at}
use Rattle.sci_links.proofs.TestLemmas.{by_cases, when, known, same, eq_true, eq_false, has_here, has_cases}
use Rattle.sci_links.proofs.Rings.{joined_prev, behind_next, first_of_ring}
use Rattle.sci_links.proofs.Tables.{length_rings, same_rings, linked_put, linked_remove, free_apart, small, held, owns_true}

at_two_last : (xs : List ℕ) (i u j v : ℕ) → j < length xs → at (set (set xs i u) j v) j ≡ v
at_two_last xs i u j v h = let g = length-set xs i u in let l : j < length (set xs i u) = omega arith in get_or-set_same (set xs i u) j v 0 l

at_two_first : (xs : List ℕ) (i u j v : ℕ) → i < length xs → i ≢ j → at (set (set xs i u) j v) i ≡ u
at_two_first xs i u j v h ne = get_or-set_other (set xs i u) j i v 0 ne ∙ get_or-set_same xs i u 0 h

at_two_other : (xs : List ℕ) (i u j v z : ℕ) → z ≢ j → z ≢ i → at (set (set xs i u) j v) z ≡ at xs z
at_two_other xs i u j v z nj ni = get_or-set_other (set xs i u) j z v 0 nj ∙ get_or-set_other xs i z u 0 ni

set_in : (xs : List ℕ) (n i v : ℕ) → length xs ≡ n → ((k : ℕ) → k < n → at xs k < n) → v < n → (k : ℕ) → k < n → at (set xs i v) k < n
set_in xs n i v len all hv k hk = elim (known (k == i)) [
  | inl t ↦ (let e : k ≡ i = eq_true k i t in let hi : i < length xs = omega arith in
      subst (λ (j : ℕ). at (set xs i v) j < n) (sym e) (subst (λ (w : ℕ). w < n) (sym (get_or-set_same xs i v 0 hi)) hv))
  | inr t ↦ subst (λ (w : ℕ). w < n) (sym (get_or-set_other xs i k v 0 (eq_false k i t))) (all k hk)
]

pub record IsChange (nexts prevs : List ℕ) (owners : List (Option ℕ)) (nodes lists : ℕ) (ls : List (List ℕ)) : Type 0 where
  pub linked : IsLinked nexts prevs owners nodes lists
  pub rings : rings (at nexts) nodes lists ≡ ls

module _ (nexts prevs : List ℕ) (owners : List (Option ℕ)) (nodes lists : ℕ) (k : IsLinked nexts prevs owners nodes lists) where
  pub list_bound : (l : ℕ) → l < lists → l < length (rings (at nexts) nodes lists)
  list_bound l h = let e = length_rings (at nexts) nodes lists in omega arith

  pub bound_list : (l : ℕ) → l < length (rings (at nexts) nodes lists) → l < lists
  bound_list l h = let e = length_rings (at nexts) nodes lists in omega arith

  pub place_bound : (l place : ℕ) → l < lists → has place ((nodes + l) ∷ get_or (rings (at nexts) nodes lists) l []) ≡ true → place < nodes + lists
  place_bound l place hl hp = elim (has_cases place (nodes + l) (get_or (rings (at nexts) nodes lists) l []) hp) [
    | inl e ↦ omega arith
    | inr t ↦ (let lt : place < nodes = small (at nexts) (at prevs) (owner owners) nodes (rings (at nexts) nodes lists) k.linked l place (list_bound l hl) t in omega arith)
  ]

  pub change_put : (l place x before : ℕ) → l < lists → has place ((nodes + l) ∷ get_or (rings (at nexts) nodes lists) l []) ≡ true
      → x < nodes → owner owners x ≡ None → before ≡ at prevs place
      → IsChange (set (set nexts before x) x place) (set (set prevs place x) x before) (set owners x (Some l)) nodes lists
      (set (rings (at nexts) nodes lists) l (put_before place x (get_or (rings (at nexts) nodes lists) l [])))
  change_put l place x before hl hp hx free hb =
      let ls : List (List ℕ) = rings (at nexts) nodes lists in
      let n : ℕ → ℕ = at nexts in let p : ℕ → ℕ = at prevs in let o : ℕ → Option ℕ = owner owners in
      let hll : l < length ls = list_bound l hl in
      let there : (has place (get_or ls l []) ≡ true) ⊎ (place ≡ nodes + l) = elim (has_cases place (nodes + l) (get_or ls l []) hp) [ inl e ↦ inr e | inr t ↦ inl t ] in
      let pin : has (p place) ((nodes + l) ∷ get_or ls l []) ≡ true = joined_prev n p (nodes + l) (get_or ls l []) (nodes + l) place (k.linked.joined l hll) there in
      let place_x : place ≢ x = free_apart n p o nodes ls k.linked l place x hll hx free hp in
      let before_x : before ≢ x = λ w. free_apart n p o nodes ls k.linked l (p place) x hll hx free pin (sym hb ∙ w) in
      let hplace : place < nodes + lists = place_bound l place hl hp in
      let pp : p place < nodes + lists = k.prev_in place hplace in
      let hbefore : before < nodes + lists = omega arith in
      let n_len = k.nexts_len in let p_len = k.prevs_len in let o_len = k.owners_len in
      let after = linked_put n p o nodes ls k.linked (at (set (set nexts before x) x place)) (at (set (set prevs place x) x before)) (owner (set owners x (Some l))) l place x hll hp hx free
      (at_two_last nexts before x x place (omega arith))
      (ap (at (set (set nexts before x) x place)) (sym hb) ∙ at_two_first nexts before x x place (omega arith) before_x)
      (λ z nx nb. at_two_other nexts before x x place z nx (λ w. nb (w ∙ hb)))
      (at_two_first prevs place x x before (omega arith) place_x)
      (at_two_last prevs place x x before (omega arith) ∙ hb)
      (λ z nx np. at_two_other prevs place x x before z nx np)
      (get_or-set_same owners x (Some l) None (omega arith))
      (λ z nx. get_or-set_other owners x z (Some l) None nx) in
      let e : rings (at (set (set nexts before x) x place)) nodes lists ≡ set ls l (put_before place x (get_or ls l [])) =
      same_rings _ _ _ nodes _ after lists (length-set ls l (put_before place x (get_or ls l [])) ∙ length_rings n nodes lists) in
      record {
        linked = record {
          nexts_len = length-set (set nexts before x) x place ∙ (length-set nexts before x ∙ n_len);
          prevs_len = length-set (set prevs place x) x before ∙ (length-set prevs place x ∙ p_len);
          owners_len = length-set owners x (Some l) ∙ o_len;
          next_in = set_in (set nexts before x) (nodes + lists) x place (length-set nexts before x ∙ n_len) (set_in nexts (nodes + lists) before x n_len k.next_in (omega arith)) hplace;
          prev_in = set_in (set prevs place x) (nodes + lists) x before (length-set prevs place x ∙ p_len) (set_in prevs (nodes + lists) place x p_len k.prev_in (omega arith)) hbefore;
          linked = subst (λ (v : List (List ℕ)). Linked (at (set (set nexts before x) x place)) (at (set (set prevs place x) x before)) (owner (set owners x (Some l))) nodes v) (sym e) after;
        };
        rings = e;
      }

  pub node_bound : (x l : ℕ) → owner owners x ≡ Some l → x < nodes
  node_bound x l e = (k.linked.within l x e).1

  pub change_remove : (l x before after : ℕ) → owner owners x ≡ Some l → before ≡ at prevs x → after ≡ at nexts x
      → IsChange (set nexts before after) (set prevs after before) (set owners x None) nodes lists
      (set (rings (at nexts) nodes lists) l (without x (get_or (rings (at nexts) nodes lists) l [])))
  change_remove l x before after ox hb ha =
      let ls : List (List ℕ) = rings (at nexts) nodes lists in
      let n : ℕ → ℕ = at nexts in let p : ℕ → ℕ = at prevs in let o : ℕ → Option ℕ = owner owners in
      let hx : x < nodes = node_bound x l ox in
      let n_len = k.nexts_len in let p_len = k.prevs_len in let o_len = k.owners_len in
      let pp : p x < nodes + lists = k.prev_in x (omega arith) in
      let nn : n x < nodes + lists = k.next_in x (omega arith) in
      let hbefore : before < nodes + lists = omega arith in
      let hafter : after < nodes + lists = omega arith in
      let done = linked_remove n p o nodes ls k.linked (at (set nexts before after)) (at (set prevs after before)) (owner (set owners x None)) l x ox
      (ap (at (set nexts before after)) (sym hb) ∙ (get_or-set_same nexts before after 0 (omega arith) ∙ ha))
      (λ z nb. get_or-set_other nexts before z after 0 (λ w. nb (w ∙ hb)))
      (ap (at (set prevs after before)) (sym ha) ∙ (get_or-set_same prevs after before 0 (omega arith) ∙ hb))
      (λ z na. get_or-set_other prevs after z before 0 (λ w. na (w ∙ ha)))
      (get_or-set_same owners x None None (omega arith))
      (λ z nx. get_or-set_other owners x z None None nx) in
      let e : rings (at (set nexts before after)) nodes lists ≡ set ls l (without x (get_or ls l [])) =
      same_rings _ _ _ nodes _ done lists (length-set ls l (without x (get_or ls l [])) ∙ length_rings n nodes lists) in
      record {
        linked = record {
          nexts_len = length-set nexts before after ∙ n_len;
          prevs_len = length-set prevs after before ∙ p_len;
          owners_len = length-set owners x None ∙ o_len;
          next_in = set_in nexts (nodes + lists) before after n_len k.next_in hafter;
          prev_in = set_in prevs (nodes + lists) after before p_len k.prev_in hbefore;
          linked = subst (λ (v : List (List ℕ)). Linked (at (set nexts before after)) (at (set prevs after before)) (owner (set owners x None)) nodes v) (sym e) done;
        };
        rings = e;
      }

holder_is : (x : ℕ) (o : Option ℕ) (ls : List (List ℕ)) (i : ℕ) → ((k : ℕ) → k < length ls → has x (get_or ls k []) ≡ owns (i + k) o)
    → ((k : ℕ) → o ≡ Some k → (i ≤ k) × (k < i + length ls)) → holder_from x i ls ≡ o
holder_is x None [] i f g = refl
holder_is x (Some k) [] i f g = let b = g k refl in absurd (omega arith)
holder_is x o (xs ∷ ls) i f g = by_cases (has x xs) (λ v. v ≡ o) (Some i) (holder_from x (i + 1) ls)
    (λ t. let e : i + 0 ≡ i = omega arith in
    let h : owns i o ≡ true = ap (λ (j : ℕ). owns j o) (sym e) ∙ (sym (f 0 (omega arith)) ∙ t) in sym (owns_true i o h))
    (λ t. holder_is x o ls (i + 1)
    (λ k h. let e : i + suc k ≡ (i + 1) + k = omega arith in f (suc k) (omega arith) ∙ ap (λ (j : ℕ). owns j o) e)
    (λ k h. let b = g k h in
    let z : i + 0 ≡ i = omega arith in
    let no : owns i o ≡ false = ap (λ (j : ℕ). owns j o) (sym z) ∙ (sym (f 0 (omega arith)) ∙ t) in
    let ne : k ≢ i = eq_false k i (ap (owns i) (sym h) ∙ no) in (omega arith, omega arith)))

pub holder_owner : (nexts prevs : List ℕ) (owners : List (Option ℕ)) (nodes lists x : ℕ) → IsLinked nexts prevs owners nodes lists
    → holder_from x 0 (rings (at nexts) nodes lists) ≡ owner owners x
holder_owner nexts prevs owners nodes lists x k =
    holder_is x (owner owners x) (rings (at nexts) nodes lists) 0
    (λ i h. let e : 0 + i ≡ i = omega arith in k.linked.owned i x h ∙ ap (λ (j : ℕ). owns j (owner owners x)) (sym e))
    (λ i e. let w = k.linked.within i x e in (omega arith, let b = w.0 in omega arith))

abbrev pub seen : List ℕ → ℕ → ℕ → ℕ → Table
seen nexts nodes lists work = record { lists = rings (at nexts) nodes lists; nodes = nodes; work = work }

pub same_table : (a b : List (List ℕ)) (nodes v w : ℕ) → a ≡ b → v ≡ w → (let r : Table = record { lists = a; nodes = nodes; work = v } in r) ≡ record { lists = b; nodes = nodes; work = w }
same_table a b nodes v w e f = subst (λ (x : List (List ℕ)). (let r : Table = record { lists = a; nodes = nodes; work = v } in r) ≡ record { lists = x; nodes = nodes; work = w }) e
    (ap (λ (x : ℕ). let r : Table = record { lists = a; nodes = nodes; work = x } in r) f)

module _ (nexts prevs : List ℕ) (owners : List (Option ℕ)) (nodes lists work : ℕ) (k : IsLinked nexts prevs owners nodes lists) where
  pub is_table : IsTable (seen nexts nodes lists work)
  is_table = record {
    distinct = λ l. elim (known (nat_lt l lists)) [
      | inl t ↦ (let h : l < lists = grind (arith, nat_tests) in k.linked.distinct l (list_bound nexts prevs owners nodes lists k l h))
      | inr t ↦ (let h : lists ≤ l = grind (arith, nat_tests) in
          subst Distinct (sym (get_or_past (rings (at nexts) nodes lists) l [] (let e = length_rings (at nexts) nodes lists in omega arith))) tt)
    ];
    holds = λ l x h. elim (known (nat_lt l lists)) [
      | inl t ↦ (let hl : l < lists = grind (arith, nat_tests) in
          let e : owner owners x ≡ Some l = owns_true l (owner owners x) (sym (k.linked.owned l x (list_bound nexts prevs owners nodes lists k l hl)) ∙ h) in
          (holder_owner nexts prevs owners nodes lists x k ∙ e, (k.linked.within l x e).1))
      | inr t ↦ (let hl : lists ≤ l = grind (arith, nat_tests) in
          let no = get_or_past (rings (at nexts) nodes lists) l [] (let e = length_rings (at nexts) nodes lists in omega arith) in
          let f : false ≡ true = sym (ap (has x) no) ∙ h in absurd (cc))
    ];
    held = λ l x e. let o : owner owners x ≡ Some l = sym (holder_owner nexts prevs owners nodes lists x k) ∙ e in
        (held (at nexts) (at prevs) (owner owners) nodes (rings (at nexts) nodes lists) k.linked l x o, (k.linked.within l x o).0, (k.linked.within l x o).1);
  }

  pub front_is : (l v : ℕ) → l < length (rings (at nexts) nodes lists) → v ≡ get_or nexts (nodes + l) v → node_at nodes v ≡ first (get_or (rings (at nexts) nodes lists) l [])
  front_is l v h r =
      let hl : l < lists = bound_list nexts prevs owners nodes lists k l h in
      let e : v ≡ at nexts (nodes + l) = get_or_read nexts (nodes + l) v (let g = k.nexts_len in omega arith) r 0 in
      ap (node_at nodes) e ∙ first_of_ring (at nexts) (at prevs) nodes (nodes + l) (get_or (rings (at nexts) nodes lists) l []) (nodes + l) (k.linked.joined l h)
      (λ z t. small (at nexts) (at prevs) (owner owners) nodes (rings (at nexts) nodes lists) k.linked l z h t) (omega arith)

  pub owner_of : (x l : ℕ) → list_of (seen nexts nodes lists work) x ≡ Some l → owner owners x ≡ Some l
  owner_of x l e = sym (holder_owner nexts prevs owners nodes lists x k) ∙ e

  pub next_is : (x l v : ℕ) → list_of (seen nexts nodes lists work) x ≡ Some l → v ≡ get_or nexts x v → node_at nodes v ≡ behind x (get_or (rings (at nexts) nodes lists) l [])
  next_is x l v e r =
      let o = owner_of x l e in
      let h = (k.linked.within l x o).0 in let hx = (k.linked.within l x o).1 in
      let f : v ≡ at nexts x = get_or_read nexts x v (let g = k.nexts_len in omega arith) r 0 in
      ap (node_at nodes) f ∙ behind_next (at nexts) (at prevs) nodes (nodes + l) (get_or (rings (at nexts) nodes lists) l []) (nodes + l) x (k.linked.joined l h)
      (λ z t. small (at nexts) (at prevs) (owner owners) nodes (rings (at nexts) nodes lists) k.linked l z h t) (omega arith)
      (held (at nexts) (at prevs) (owner owners) nodes (rings (at nexts) nodes lists) k.linked l x o)

  pub owner_none : (x : ℕ) → list_of (seen nexts nodes lists work) x ≡ None → owner owners x ≡ None
  owner_none x e = sym (holder_owner nexts prevs owners nodes lists x k) ∙ e

  pub put_is : (l place x before : ℕ) → l < length (rings (at nexts) nodes lists)
      → has place ((nodes + l) ∷ get_or (rings (at nexts) nodes lists) l []) ≡ true
      → x < nodes → list_of (seen nexts nodes lists work) x ≡ None → before ≡ get_or prevs place before
      → IsChange (set (set nexts before x) x place) (set (set prevs place x) x before) (set owners x (Some l)) nodes lists
      (set (rings (at nexts) nodes lists) l (put_before place x (get_or (rings (at nexts) nodes lists) l [])))
  put_is l place x before hl hp hx free r =
      let hl2 = bound_list nexts prevs owners nodes lists k l hl in
      let hb = place_bound nexts prevs owners nodes lists k l place hl2 hp in
      change_put nexts prevs owners nodes lists k l place x before hl2 hp hx (owner_none x free)
      (get_or_read prevs place before (let g = k.prevs_len in omega arith) r 0)

  pub remove_is : (l x before after : ℕ) → list_of (seen nexts nodes lists work) x ≡ Some l → before ≡ get_or prevs x before → after ≡ get_or nexts x after
      → IsChange (set nexts before after) (set prevs after before) (set owners x None) nodes lists
      (set (rings (at nexts) nodes lists) l (without x (get_or (rings (at nexts) nodes lists) l [])))
  remove_is l x before after e rb ra =
      let o = owner_of x l e in let hx = node_bound nexts prevs owners nodes lists k x l o in
      change_remove nexts prevs owners nodes lists k l x before after o
      (get_or_read prevs x before (let g = k.prevs_len in omega arith) rb 0) (get_or_read nexts x after (let g = k.nexts_len in omega arith) ra 0)

  pub in_bounds : (x l : ℕ) → list_of (seen nexts nodes lists work) x ≡ Some l → (x < nodes) × (at prevs x < nodes + lists) × (at nexts x < nodes + lists)
  in_bounds x l e =
      let hx = node_bound nexts prevs owners nodes lists k x l (owner_of x l e) in
      (hx, k.prev_in x (omega arith), k.next_in x (omega arith))

owner_none_all : (owners : List (Option ℕ)) (n : ℕ) → length owners ≡ n → ((i : ℕ) → i < n → owner owners i ≡ None) → (x : ℕ) → owner owners x ≡ None
owner_none_all owners n len all x = elim (known (nat_lt x n)) [
  | inl t ↦ (let h : x < n = grind (arith, nat_tests) in all x h)
  | inr t ↦ (let h : n ≤ x = grind (arith, nat_tests) in get_or_past owners x None (omega arith))
]

length_nothing : (n : ℕ) → length (nothing n) ≡ n
length_nothing zero = refl
length_nothing (suc n) = omega (arith, length_push (nothing n) [], length_nothing n)

nothing_at : (n l : ℕ) → get_or (nothing n) l [] ≡ []
nothing_at zero l = refl
nothing_at (suc n) l = elim (known (nat_lt l n)) [
  | inl t ↦ (let h : l < n = grind (arith, nat_tests) in get_or_append_left (nothing n) ([] ∷ []) [] l (let e = length_nothing n in omega arith) ∙ nothing_at n l)
  | inr t ↦ elim (known (l == n)) [
    | inl e ↦ get_or_push (nothing n) [] [] l (length_nothing n ∙ sym (eq_true l n e))
    | inr e ↦ (let h : n ≤ l = grind (arith, nat_tests) in let ne : l ≢ n = eq_false l n e in
        get_or_past (nothing n ++ [] ∷ []) l [] (let f = length_push (nothing n) [] in let g = length_nothing n in omega arith))
  ]
]

linked_new : (nexts prevs : List ℕ) (owners : List (Option ℕ)) (nodes lists : ℕ) → length nexts ≡ nodes + lists → length prevs ≡ nodes + lists → length owners ≡ nodes
    → ((i : ℕ) → i < nodes + lists → at nexts i ≡ i) → ((i : ℕ) → i < nodes + lists → at prevs i ≡ i) → ((i : ℕ) → i < nodes → owner owners i ≡ None)
    → Linked (at nexts) (at prevs) (owner owners) nodes (nothing lists)
linked_new nexts prevs owners nodes lists ln lp lo an ap_ ao =
    let none = owner_none_all owners nodes lo ao in
    let len = length_nothing lists in
    record {
      joined = λ l h. subst (λ (v : List ℕ). Joined (at nexts) (at prevs) (nodes + l) v (nodes + l)) (sym (nothing_at lists l)) (an (nodes + l) (omega arith), ap_ (nodes + l) (omega arith));
      distinct = λ l h. subst Distinct (sym (nothing_at lists l)) tt;
      owned = λ l x h. ap (has x) (nothing_at lists l) ∙ sym (ap (owns l) (none x));
      within = λ l x e. let f : None ≡ Some l = sym (none x) ∙ e in absurd (cc);
    }

pub new_is : (nexts prevs : List ℕ) (owners : List (Option ℕ)) (nodes lists : ℕ) → length nexts ≡ nodes + lists → length prevs ≡ nodes + lists → length owners ≡ nodes
    → ((i : ℕ) → i < nodes + lists → at nexts i ≡ i) → ((i : ℕ) → i < nodes + lists → at prevs i ≡ i) → ((i : ℕ) → i < nodes → owner owners i ≡ None)
    → IsChange nexts prevs owners nodes lists (nothing lists)
new_is nexts prevs owners nodes lists ln lp lo an ap_ ao =
    let fresh = linked_new nexts prevs owners nodes lists ln lp lo an ap_ ao in
    let e : rings (at nexts) nodes lists ≡ nothing lists = same_rings (at nexts) (at prevs) (owner owners) nodes (nothing lists) fresh lists (length_nothing lists) in
    record {
      linked = record {
        nexts_len = ln;
        prevs_len = lp;
        owners_len = lo;
        next_in = λ k h. subst (λ (v : ℕ). v < nodes + lists) (sym (an k h)) h;
        prev_in = λ k h. subst (λ (v : ℕ). v < nodes + lists) (sym (ap_ k h)) h;
        linked = subst (λ (v : List (List ℕ)). Linked (at nexts) (at prevs) (owner owners) nodes v) (sym e) fresh;
      };
      rings = e;
    }

pub past_absent : (t : Table) → IsTable t → (l x : ℕ) → t.nodes ≤ x → has x (chain t l) ≡ false
past_absent t k l x h = elim (known (has x (chain t l))) [
  | inl b ↦ (let lt = (k.holds l x b).1 in absurd (omega arith))
  | inr b ↦ b
]

pub first_holds : (t : Table) → IsTable t → (l x : ℕ) → first (chain t l) ≡ Some x → has x (chain t l) ≡ true
first_holds t k l x e = first_has (chain t l) e
  where
    first_has : (xs : List ℕ) → first xs ≡ Some x → has x xs ≡ true
    first_has [] h = absurd (cc)
    first_has (y ∷ ys) h = let f : x ≡ y = cc in has_here x y ys f

pub without_first : (x : ℕ) (xs : List ℕ) → first xs ≡ Some x → without x xs ≡ rest xs
without_first x [] h = refl
without_first x (y ∷ ys) h = let f : x ≡ y = cc in when (x == y) ys (y ∷ without x ys) (same x y f)

pub same_set : (ls : List (List ℕ)) (l : ℕ) → set ls l (get_or ls l []) ≡ ls
same_set ls l = set-get_or ls l []
