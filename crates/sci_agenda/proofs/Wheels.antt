-- The events of a wheel's table in the order of firing.
use Rattle.std.proofs.Common.{◌≡◌, ◌≢◌, ◌<◌, ◌+◌, ◌*◌, ◌/◌, ◌==◌, ◌⊎◌, inl, inr, ℕ, zero, suc, true, false, List, [], ◌∷◌, ◌++◌, length, get_or, refl, sym, ◌∙◌, ap, subst, arith, append-nil, get_or-set_other, get_or-set_same, set}
use Rattle.sci_links.specs.Table.{Table, chain, has, changed, pushed, without as without_node, rest}
use Rattle.sci_links.proofs.TestLemmas.{by_cases, unless, known, eq_true, eq_false, differ, has_here, has_there, has_cases, lacks_head, lacks_tail, apart}
use Rattle.sci_agenda.specs.Firing.{put_behind, without}
use Rattle.sci_agenda.specs.Chained.{date_at, events_of}
use Rattle.sci_agenda.specs.Wheel.{in_order, all_nodes, weight, at_date, Moving, Placed}
use Rattle.sci_agenda.proofs.Sorting.{Event, Sorted, Sorted-sorted, Sorted-put_behind, Sorted-without, at-append, at_other, at-sorted, at-put_behind, same_sorted, Dated, Dated-sorted, at-without}
use Rattle.sci_agenda.proofs.Chains.{events_set, events_push, without_is}

-- no event of that date
pub none_at : (ds xs : List ℕ) (d : ℕ) → ((x : ℕ) → has x xs ≡ true → date_at ds x ≢ d) → at_date d (events_of ds xs) ≡ []
none_at ds [] d f = refl
none_at ds (x ∷ xs) d f = at_other d (date_at ds x, x + 1) (events_of ds xs) (f x (has_here x x xs refl)) ∙ none_at ds xs d (λ z h. f z (has_there z x xs h))

none_all : (ds : List ℕ) (d : ℕ) (ls : List (List ℕ)) → ((k : ℕ) → at_date d (events_of ds (get_or ls k [])) ≡ []) → at_date d (events_of ds (all_nodes ls)) ≡ []
none_all ds d [] f = refl
none_all ds d (xs ∷ ls) f =
    ap (at_date d) (events_push ds xs (all_nodes ls)) ∙ (at-append d (events_of ds xs) (events_of ds (all_nodes ls))
    ∙ (ap (λ (l : List Event). l ++ at_date d (events_of ds (all_nodes ls))) (f 0) ∙ none_all ds d ls (λ k. f (suc k))))

one_list : (ds : List ℕ) (d p : ℕ) (ls : List (List ℕ)) → ((k : ℕ) → k ≢ p → at_date d (events_of ds (get_or ls k [])) ≡ [])
    → at_date d (events_of ds (all_nodes ls)) ≡ at_date d (events_of ds (get_or ls p []))
one_list ds d p [] f = refl
one_list ds d zero (xs ∷ ls) f =
    ap (at_date d) (events_push ds xs (all_nodes ls)) ∙ (at-append d (events_of ds xs) (events_of ds (all_nodes ls))
    ∙ (ap (λ (l : List Event). at_date d (events_of ds xs) ++ l) (none_all ds d ls (λ k. f (suc k) (λ w. absurd (omega arith)))) ∙ append-nil (at_date d (events_of ds xs))))
one_list ds d (suc q) (xs ∷ ls) f =
    ap (at_date d) (events_push ds xs (all_nodes ls)) ∙ (at-append d (events_of ds xs) (events_of ds (all_nodes ls))
    ∙ (ap (λ (l : List Event). l ++ at_date d (events_of ds (all_nodes ls))) (f 0 (λ w. absurd (omega arith)))
    ∙ one_list ds d q ls (λ k ne. f (suc k) (λ w. ne (omega arith)))))

pub sorted_order : (ds : List ℕ) (ls : List (List ℕ)) → Sorted (in_order ds ls)
unfolding in_order
sorted_order ds ls = Sorted-sorted (events_of ds (all_nodes ls))

-- the events of one date, in their order, are those of one chain
pub at_order : (t : Table) (ds : List ℕ) (pl : ℕ → ℕ) → Placed t ds pl → (d : ℕ) → at_date d (in_order ds t.lists) ≡ at_date d (events_of ds (chain t (pl d)))
unfolding in_order
at_order t ds pl k d = at-sorted d (events_of ds (all_nodes t.lists)) ∙ one_list ds d (pl d) t.lists
    (λ l ne. none_at ds (chain t l) d (λ x h w. ne (sym (k l x h) ∙ ap pl w)))

pub chain_here : (t : Table) (l : ℕ) (xs : List ℕ) → l < length t.lists → chain (changed t l xs) l ≡ xs
chain_here t l xs h = get_or-set_same t.lists l xs [] h

pub chain_other : (t : Table) (l k : ℕ) (xs : List ℕ) → k ≢ l → chain (changed t l xs) k ≡ chain t k
chain_other t l k xs h = get_or-set_other t.lists l k xs [] h

pub has-push : (z x : ℕ) (xs : List ℕ) → has z (xs ++ x ∷ []) ≡ true → (has z xs ≡ true) ⊎ (z ≡ x)
has-push z x [] h = elim (has_cases z x [] h) [ inl e ↦ inr e | inr k ↦ inl k ]
has-push z x (y ∷ ys) h = elim (has_cases z y (ys ++ x ∷ []) h) [
  | inl e ↦ inl (has_here z y ys e)
  | inr k ↦ elim (has-push z x ys k) [ inl a ↦ inl (has_there z y ys a) | inr a ↦ inr a ]
]

pub has-rest : (z : ℕ) (xs : List ℕ) → has z (rest xs) ≡ true → has z xs ≡ true
has-rest z [] h = h
has-rest z (x ∷ xs) h = has_there z x xs h

pub has-less : (z x : ℕ) (xs : List ℕ) → has z (without_node x xs) ≡ true → has z xs ≡ true
has-less z x [] h = h
has-less z x (y ∷ ys) h = (by_cases (x == y) (λ l. has z l ≡ true → has z (y ∷ ys) ≡ true) ys (y ∷ without_node x ys)
    (λ _ g. has_there z y ys g)
    (λ _ g. elim (has_cases z y (without_node x ys) g) [ inl e ↦ has_here z y ys e | inr k ↦ has_there z y ys (has-less z x ys k) ])) h

-- what stands in a list after a change
pub in_changed : (t : Table) (l : ℕ) (xs : List ℕ) (k z : ℕ) → l < length t.lists → has z (chain (changed t l xs) k) ≡ true
    → ((k ≡ l) × (has z xs ≡ true)) ⊎ ((k ≢ l) × (has z (chain t k) ≡ true))
in_changed t l xs k z hl h = elim (known (k == l)) [
  | inl a ↦ (let e : k ≡ l = eq_true k l a in
      inl (e, sym (ap (has z) (chain_here t l xs hl)) ∙ (ap (λ (j : ℕ). has z (chain (changed t l xs) j)) (sym e) ∙ h)))
  | inr a ↦ (let ne : k ≢ l = eq_false k l a in inr (ne, sym (ap (has z) (chain_other t l k xs ne)) ∙ h))
]

pub put_order : (t : Table) (ds : List ℕ) (pl : ℕ → ℕ) (x d : ℕ) → Placed t ds pl → x < length ds → pl d < length t.lists
    → ((l : ℕ) → has x (chain t l) ≡ false)
    → Placed (pushed t (pl d) x) (set ds x d) pl × (in_order (set ds x d) (pushed t (pl d) x).lists ≡ put_behind (d, x + 1) (in_order ds t.lists))
put_order t ds pl x d k hx hp free =
    let es : List ℕ = set ds x d in
    let here : date_at es x ≡ d = get_or-set_same ds x d 0 hx in
    let old : (l z : ℕ) → has z (chain t l) ≡ true → date_at es z ≡ date_at ds z = λ l z h. get_or-set_other ds x z d 0 (apart z x (chain t l) h (free l)) in
    let placed : Placed (pushed t (pl d) x) es pl = λ l z h. elim (in_changed t (pl d) (chain t (pl d) ++ x ∷ []) l z hp h) [
      | inl a ↦ elim (has-push z x (chain t (pl d)) a.1) [
        | inl b ↦ ap pl (old (pl d) z b) ∙ (k (pl d) z b ∙ sym a.0)
        | inr b ↦ ap (λ (v : ℕ). pl (date_at es v)) b ∙ (ap pl here ∙ sym a.0)
      ]
      | inr a ↦ ap pl (old l z a.1) ∙ k l z a.1
    ] in (
      placed,
      same_sorted (in_order es (pushed t (pl d) x).lists) (put_behind (d, x + 1) (in_order ds t.lists)) (sorted_order es (pushed t (pl d) x).lists) (Sorted-put_behind (d, x + 1) (in_order ds t.lists) (sorted_order ds t.lists))
          (λ q. at_order (pushed t (pl d) x) es pl placed q ∙ (put_at q here
          ∙ sym (at-put_behind q (d, x + 1) (in_order ds t.lists) (sorted_order ds t.lists) ∙ ap (λ (l : List Event). l ++ at_date q ((d, x + 1) ∷ [])) (at_order t ds pl k q)))),
    )
  where
    put_at : (q : ℕ) → date_at (set ds x d) x ≡ d → at_date q (events_of (set ds x d) (chain (pushed t (pl d) x) (pl q))) ≡ at_date q (events_of ds (chain t (pl q))) ++ at_date q ((d, x + 1) ∷ [])
    put_at q here = elim (known (pl q == pl d)) [
      | inl a ↦ (let e : pl q ≡ pl d = eq_true (pl q) (pl d) a in
          ap (λ (l : List ℕ). at_date q (events_of (set ds x d) l)) (ap (chain (pushed t (pl d) x)) e ∙ chain_here t (pl d) (chain t (pl d) ++ x ∷ []) hp)
          ∙ (ap (at_date q) (events_push (set ds x d) (chain t (pl d)) (x ∷ [])) ∙ (at-append q (events_of (set ds x d) (chain t (pl d))) ((date_at (set ds x d) x, x + 1) ∷ [])
          ∙ (ap (λ (l : List Event). at_date q l ++ at_date q ((date_at (set ds x d) x, x + 1) ∷ [])) (events_set ds x d (chain t (pl d)) (free (pl d)))
          ∙ (ap (λ (v : ℕ). at_date q (events_of ds (chain t (pl d))) ++ at_date q ((v, x + 1) ∷ [])) here
          ∙ ap (λ (j : ℕ). at_date q (events_of ds (chain t j)) ++ at_date q ((d, x + 1) ∷ [])) (sym e))))))
      | inr a ↦ (let ne : pl q ≢ pl d = eq_false (pl q) (pl d) a in
          ap (λ (l : List ℕ). at_date q (events_of (set ds x d) l)) (chain_other t (pl d) (pl q) (chain t (pl d) ++ x ∷ []) ne)
          ∙ (ap (at_date q) (events_set ds x d (chain t (pl q)) (free (pl q)))
          ∙ sym (ap (λ (l : List Event). at_date q (events_of ds (chain t (pl q))) ++ l) (at_other q (d, x + 1) [] (λ w. ne (sym (ap pl w)))) ∙ append-nil (at_date q (events_of ds (chain t (pl q)))))))
    ]

dated_of : (ds xs : List ℕ) (x : ℕ) → Dated (x + 1) (date_at ds x) (events_of ds xs)
dated_of ds [] x = tt
dated_of ds (y ∷ ys) x = ((λ e. ap (date_at ds) (let f : y ≡ x = omega arith in f)), dated_of ds ys x)

dated_order : (ds : List ℕ) (t : Table) (x : ℕ) → Dated (x + 1) (date_at ds x) (in_order ds t.lists)
unfolding in_order
dated_order ds t x = Dated-sorted (x + 1) (date_at ds x) (events_of ds (all_nodes t.lists)) (dated_of ds (all_nodes t.lists) x)

not_pending : (ds xs : List ℕ) (x d : ℕ) → has x xs ≡ false → without (x + 1) (at_date d (events_of ds xs)) ≡ at_date d (events_of ds xs)
not_pending ds [] x d h = refl
not_pending ds (y ∷ ys) x d h = by_cases (date_at ds y == d) (λ l. without (x + 1) l ≡ l) ((date_at ds y, y + 1) ∷ at_date d (events_of ds ys)) (at_date d (events_of ds ys))
    (λ t. let no : x + 1 ≢ y + 1 = λ w. lacks_head x y ys h (omega arith) in
    unless ((x + 1) == (y + 1)) (at_date d (events_of ds ys)) ((date_at ds y, y + 1) ∷ without (x + 1) (at_date d (events_of ds ys))) (differ (x + 1) (y + 1) no)
    ∙ ap (λ (l : List Event). (date_at ds y, y + 1) ∷ l) (not_pending ds ys x d (lacks_tail x y ys h)))
    (λ t. not_pending ds ys x d (lacks_tail x y ys h))

pub remove_order : (t : Table) (ds : List ℕ) (pl : ℕ → ℕ) (x l : ℕ) → Placed t ds pl → l < length t.lists → has x (chain t l) ≡ true → ((k : ℕ) → k ≢ l → has x (chain t k) ≡ false)
    → Placed (changed t l (without_node x (chain t l))) ds pl
    × (in_order ds (changed t l (without_node x (chain t l))).lists ≡ without (x + 1) (in_order ds t.lists))
remove_order t ds pl x l k hl hx others =
    let u : Table = changed t l (without_node x (chain t l)) in
    let placed : Placed u ds pl = λ i z h. elim (in_changed t l (without_node x (chain t l)) i z hl h) [
      | inl a ↦ k l z (has-less z x (chain t l) a.1) ∙ sym a.0
      | inr a ↦ k i z a.1
    ] in (
      placed,
      same_sorted (in_order ds u.lists) (without (x + 1) (in_order ds t.lists)) (sorted_order ds u.lists) (Sorted-without (x + 1) (in_order ds t.lists) (sorted_order ds t.lists))
          (λ q. at_order u ds pl placed q ∙ (out q
          ∙ sym (at-without q (x + 1) (date_at ds x) (in_order ds t.lists) (dated_order ds t x) ∙ ap (without (x + 1)) (at_order t ds pl k q)))),
    )
  where
    out : (q : ℕ) → at_date q (events_of ds (chain (changed t l (without_node x (chain t l))) (pl q))) ≡ without (x + 1) (at_date q (events_of ds (chain t (pl q))))
    out q = elim (known (pl q == l)) [
      | inl a ↦ (let e : pl q ≡ l = eq_true (pl q) l a in
          ap (λ (v : List ℕ). at_date q (events_of ds v)) (ap (chain (changed t l (without_node x (chain t l)))) e ∙ chain_here t l (without_node x (chain t l)) hl)
          ∙ (ap (at_date q) (sym (without_is ds (chain t l) x)) ∙ (at-without q (x + 1) (date_at ds x) (events_of ds (chain t l)) (dated_of ds (chain t l) x)
          ∙ ap (λ (j : ℕ). without (x + 1) (at_date q (events_of ds (chain t j)))) (sym e))))
      | inr a ↦ (let ne : pl q ≢ l = eq_false (pl q) l a in
          ap (λ (v : List ℕ). at_date q (events_of ds v)) (chain_other t l (pl q) (without_node x (chain t l)) ne)
          ∙ sym (not_pending ds (chain t (pl q)) x q (others (pl q) ne)))
    ]

pub not_moved : (t : Table) (ds : List ℕ) (pl : ℕ → ℕ) (p : ℕ) → Moving t t ds pl p
not_moved t ds pl p = record {
  lists = refl;
  nodes = refl;
  spent = omega arith;
  before = λ l x h. (l, h);
  left = λ x h. h;
  placed = λ l x ne h. inl h;
  kept = λ d ne. refl;
}

-- the weight of a changed list
pub weight_set : (i l : ℕ) (ls : List (List ℕ)) (ys : List ℕ) → l < length ls
    → weight i (set ls l ys) + (2 * ((i + l) / 256) + 1) * length (get_or ls l []) ≡ weight i ls + (2 * ((i + l) / 256) + 1) * length ys
weight_set i l [] ys h = absurd (omega arith)
weight_set i zero (xs ∷ ls) ys h =
    let z : i + 0 ≡ i = omega arith in
    subst (λ (j : ℕ). ((2 * (i / 256) + 1) * length ys + weight (i + 1) ls) + (2 * (j / 256) + 1) * length xs ≡ ((2 * (i / 256) + 1) * length xs + weight (i + 1) ls) + (2 * (j / 256) + 1) * length ys) (sym z)
    (swap_ends ((2 * (i / 256) + 1) * length ys) (weight (i + 1) ls) ((2 * (i / 256) + 1) * length xs))
  where
    swap_ends : (a b c : ℕ) → (a + b) + c ≡ (c + b) + a
    swap_ends a b c = omega arith
weight_set i (suc l) (xs ∷ ls) ys h =
    let z : (i + 1) + l ≡ i + suc l = omega arith in
    let more = subst (λ (j : ℕ). weight (i + 1) (set ls l ys) + (2 * (j / 256) + 1) * length (get_or ls l []) ≡ weight (i + 1) ls + (2 * (j / 256) + 1) * length ys) z (weight_set (i + 1) l ls ys (omega arith)) in
    add_left ((2 * (i / 256) + 1) * length xs) (weight (i + 1) (set ls l ys)) _ (weight (i + 1) ls) _ more
  where
    add_left : (a b c d e : ℕ) → b + c ≡ d + e → (a + b) + c ≡ (a + d) + e
    add_left a b c d e h = omega arith
