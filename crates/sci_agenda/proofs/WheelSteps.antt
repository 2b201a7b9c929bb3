-- The calls of the wheel.
use Rattle.std.proofs.Common.{◌≡◌, ◌≢◌, ◌<◌, ◌≤◌, ◌+◌, ◌*◌, ◌/◌, ◌==◌, ◌||◌, ◌⊎◌, inl, inr, nat_lt, not, min, ℕ, zero, suc, Bool, true, false, List, [], ◌∷◌, ◌++◌, length, get_or, Option, Some, None, refl, sym, ◌∙◌, ap, subst, arith, get_or-set_other, get_or-set_same, set, length-set}
use Rattle.std.specs.Prelude.{IsTrue, ◌↔◌}
use Rattle.std.proofs.lemmas.List.{length_push}
use Rattle.std.proofs.Math.Nat.{mul-suc}
use Rattle.sci_links.specs.Table.{Table, IsTable, chain, list_of, has, changed, pushed, removed, removed_in, without as without_node, first as first_node, rest}
use Rattle.sci_links.proofs.TestLemmas.{by_cases, known, eq_false, has_here, has_there, has_cases, apart, swap_or}
use Rattle.sci_agenda.specs.Firing.{put_behind, is_pending, without}
use Rattle.sci_agenda.specs.Chained.{date_at, events_of}
use Rattle.sci_agenda.specs.Wheel.{in_order, sorted, put_front, all_nodes, weight, place, IsWheel}
use Rattle.sci_agenda.proofs.Sorting.{Event}
use Rattle.sci_agenda.proofs.Chains.{pending_is}
use Rattle.sci_agenda.proofs.ChainSteps.{option_cases, pending_port}
use Rattle.sci_agenda.proofs.Places.{place_below}
use Rattle.sci_agenda.proofs.Wheels.{has-push, has-less, in_changed, put_order, remove_order, weight_set}

-- what waits
pending-put_front : (s : ℕ) (e : Event) (xs : List Event) → is_pending s (put_front e xs) ≡ is_pending s (e ∷ xs)
pending-put_front s e [] = refl
pending-put_front s e (x ∷ xs) = by_cases (nat_lt x.0 e.0) (λ l. is_pending s l ≡ is_pending s (e ∷ x ∷ xs)) (x ∷ put_front e xs) (e ∷ x ∷ xs)
    (λ _. ap (λ (b : Bool). (s == x.1) || b) (pending-put_front s e xs) ∙ swap_or (s == x.1) (s == e.1) (is_pending s xs))
    (λ _. refl)

pending-sorted : (s : ℕ) (es : List Event) → is_pending s (sorted es) ≡ is_pending s es
pending-sorted s [] = refl
pending-sorted s (e ∷ es) = pending-put_front s e (sorted es) ∙ ap (λ (b : Bool). (s == e.1) || b) (pending-sorted s es)

pub pending_all : (s : ℕ) (ds : List ℕ) (ls : List (List ℕ)) → is_pending s (in_order ds ls) ≡ is_pending s (events_of ds (all_nodes ls))
unfolding in_order
pending_all s ds ls = pending-sorted s (events_of ds (all_nodes ls))

has-append : (x : ℕ) (xs ys : List ℕ) → has x (xs ++ ys) ≡ true → (has x xs ≡ true) ⊎ (has x ys ≡ true)
has-append x [] ys h = inr h
has-append x (y ∷ xs) ys h = elim (has_cases x y (xs ++ ys) h) [
  | inl e ↦ inl (has_here x y xs e)
  | inr k ↦ elim (has-append x xs ys k) [ inl a ↦ inl (has_there x y xs a) | inr a ↦ inr a ]
]

has_left : (x : ℕ) (xs ys : List ℕ) → has x xs ≡ true → has x (xs ++ ys) ≡ true
has_left x [] ys h = absurd (cc)
has_left x (y ∷ xs) ys h = elim (has_cases x y xs h) [ inl e ↦ has_here x y (xs ++ ys) e | inr k ↦ has_there x y (xs ++ ys) (has_left x xs ys k) ]

has_right : (x : ℕ) (xs ys : List ℕ) → has x ys ≡ true → has x (xs ++ ys) ≡ true
has_right x [] ys h = h
has_right x (y ∷ xs) ys h = has_there x y (xs ++ ys) (has_right x xs ys h)

pub all_has : (x : ℕ) (ls : List (List ℕ)) → has x (all_nodes ls) ≡ true → (l : ℕ) × (has x (get_or ls l []) ≡ true)
all_has x [] h = absurd (cc)
all_has x (xs ∷ ls) h = elim (has-append x xs (all_nodes ls) h) [
  | inl a ↦ (0, a)
  | inr a ↦ (let r = all_has x ls a in (suc r.0, r.1))
]

pub has_all : (x l : ℕ) (ls : List (List ℕ)) → has x (get_or ls l []) ≡ true → has x (all_nodes ls) ≡ true
has_all x l [] h = absurd (cc)
has_all x zero (xs ∷ ls) h = has_left x xs (all_nodes ls) h
has_all x (suc l) (xs ∷ ls) h = has_right x xs (all_nodes ls) (has_all x l ls h)

pub unique : (t : Table) → IsTable t → (x l m : ℕ) → has x (chain t l) ≡ true → has x (chain t m) ≡ true → l ≡ m
unique t k x l m h g = let e : Some l ≡ Some m = sym (k.holds l x h).0 ∙ (k.holds m x g).0 in cc

module _ (t : Table) (ds : List ℕ) (k : IsTable t) where
  pub wheel_port : (s : ℕ) → is_pending s (in_order ds t.lists) ≡ true → 1 ≤ s
  wheel_port s h = pending_port ds (all_nodes t.lists) s (sym (pending_all s ds t.lists) ∙ h)

  here : (x source : ℕ) → source ≡ x + 1 → is_pending source (in_order ds t.lists) ≡ has x (all_nodes t.lists)
  here x source s = ap (λ (v : ℕ). is_pending v (in_order ds t.lists)) s ∙ (pending_all (x + 1) ds t.lists ∙ pending_is ds (all_nodes t.lists) x)

  pub wheel_free : (x source : ℕ) → source ≡ x + 1 → is_pending source (in_order ds t.lists) ≡ false → list_of t x ≡ None
  wheel_free x source s h = elim (option_cases (list_of t x)) [
    | inl e ↦ e
    | inr e ↦ (let a : has x (all_nodes t.lists) ≡ true = has_all x e.0 t.lists (k.held e.0 x e.1).0 in
        let f : true ≡ false = sym a ∙ (sym (here x source s) ∙ h) in absurd (cc))
  ]

  pub wheel_held : (x source : ℕ) → source ≡ x + 1 → is_pending source (in_order ds t.lists) ≡ true → (l : ℕ) × (list_of t x ≡ Some l)
  wheel_held x source s h =
      let a = all_has x t.lists (sym (here x source s) ∙ h) in (a.0, (k.holds a.0 x a.1).0)

  pub wheel_pending : (x source : ℕ) (b : Bool) → source ≡ x + 1 → (IsTrue b ↔ (list_of t x ≡ None)) → not b ≡ is_pending source (in_order ds t.lists)
  wheel_pending x source true s h = sym (elim (known (has x (all_nodes t.lists))) [
    | inl a ↦ (let r = all_has x t.lists a in let f : ◌≡◌ {A = Option ℕ} None (Some r.0) = sym (h.0 refl) ∙ (k.holds r.0 x r.1).0 in let g : true ≡ false = cc in absurd (cc))
    | inr a ↦ here x source s ∙ a
  ])
  wheel_pending x source false s h = elim (option_cases (list_of t x)) [
    | inl e ↦ (let f : false ≡ true = h.1 e in absurd (cc))
    | inr e ↦ sym (here x source s ∙ has_all x e.0 t.lists (k.held e.0 x e.1).0)
  ]

  pub lacks_all : (x l : ℕ) → list_of t x ≡ None → has x (chain t l) ≡ false
  lacks_all x l e = elim (known (has x (chain t l))) [
    | inl h ↦ (let f : ◌≡◌ {A = Option ℕ} None (Some l) = sym e ∙ (k.holds l x h).0 in let g : true ≡ false = cc in absurd (cc))
    | inr h ↦ h
  ]

  pub lacks_others : (x l m : ℕ) → list_of t x ≡ Some l → m ≢ l → has x (chain t m) ≡ false
  lacks_others x l m e ne = elim (known (has x (chain t m))) [
    | inl h ↦ (let f : Some m ≡ Some l = sym (k.holds m x h).0 ∙ e in absurd (ne (cc)))
    | inr h ↦ h
  ]

-- weights
less_one : (w v c n m : ℕ) → w + c * m ≡ v + c * n → n + 1 ≡ m → w + c ≡ v
less_one w v c n m h e =
    let g : suc n ≡ m = omega arith in
    let f : w + (c * n + c) ≡ v + c * n = sym (ap (λ (j : ℕ). w + j) (mul-suc c n)) ∙ (ap (λ (j : ℕ). w + c * j) g ∙ h) in omega arith

pub weight_less : (t : Table) (l : ℕ) (ys : List ℕ) → l < length t.lists → length ys + 1 ≡ length (chain t l) → weight 0 (changed t l ys).lists + (2 * (l / 256) + 1) ≡ weight 0 t.lists
weight_less t l ys h e =
    let z : 0 + l ≡ l = omega arith in
    less_one (weight 0 (changed t l ys).lists) (weight 0 t.lists) (2 * (l / 256) + 1) (length ys) (length (chain t l))
    (subst (λ (j : ℕ). weight 0 (changed t l ys).lists + (2 * (j / 256) + 1) * length (chain t l) ≡ weight 0 t.lists + (2 * (j / 256) + 1) * length ys) z (weight_set 0 l t.lists ys h)) e

pub weight_more : (t : Table) (l x : ℕ) → l < length t.lists → weight 0 (pushed t l x).lists ≡ weight 0 t.lists + (2 * (l / 256) + 1)
weight_more t l x h =
    let z : 0 + l ≡ l = omega arith in
    let w = subst (λ (j : ℕ). weight 0 (pushed t l x).lists + (2 * (j / 256) + 1) * length (chain t l) ≡ weight 0 t.lists + (2 * (j / 256) + 1) * length (chain t l ++ x ∷ [])) z (weight_set 0 l t.lists (chain t l ++ x ∷ []) h) in
    sym (less_one (weight 0 t.lists) (weight 0 (pushed t l x).lists) (2 * (l / 256) + 1) (length (chain t l)) (length (chain t l ++ x ∷ [])) (sym w) (sym (length_push (chain t l) x)))

pub first_has : (xs : List ℕ) (x : ℕ) → first_node xs ≡ Some x → has x xs ≡ true
first_has [] x e = absurd (cc)
first_has (y ∷ ys) x e = let f : x ≡ y = cc in has_here x y ys f

pub first_cons : (xs : List ℕ) (x : ℕ) → first_node xs ≡ Some x → xs ≡ x ∷ rest xs
first_cons [] x e = absurd (cc)
first_cons (y ∷ ys) x e = let f : y ≡ x = cc in ap (λ (v : ℕ). v ∷ ys) f

length-less : (x : ℕ) (xs : List ℕ) → has x xs ≡ true → length (without_node x xs) + 1 ≡ length xs
length-less x [] h = absurd (cc)
length-less x (y ∷ ys) h = by_cases (x == y) (λ l. length l + 1 ≡ length (y ∷ ys)) ys (y ∷ without_node x ys)
    (λ _. omega arith)
    (λ t. let g = length-less x ys (elim (has_cases x y ys h) [ inl e ↦ absurd (eq_false x y t e) | inr i ↦ i ]) in omega arith)

module _ (t : Table) (ds : List ℕ) (now ports puts : ℕ) (k : IsWheel t ds now ports puts) where
  pub wheel_put : (x source date p : ℕ) (u : Table) → source ≡ x + 1 → x < ports → list_of t x ≡ None → now ≤ date → date < now + 2147483648
      → p ≡ place now date → u ≡ pushed t p x → IsTable u
      → IsWheel u (set ds x date) now ports (min (puts + 1) 18446744073709551615) × (in_order (set ds x date) u.lists ≡ put_behind (date, source) (in_order ds t.lists))
  wheel_put x source date p u s hx free from until hp e table =
      let free_all : (l : ℕ) → has x (chain t l) ≡ false = λ l. lacks_all t ds k.table x l free in
      let below : place now date < 1024 = place_below now date in
      let hl : place now date < length t.lists = let a = k.lists in omega arith in
      let hd : x < length ds = let a = k.dated in omega arith in
      let q : u ≡ pushed t (place now date) x = e ∙ ap (λ (j : ℕ). pushed t j x) hp in
      let o = put_order t ds (place now) x date k.placed hd hl free_all in
      let dx : date_at (set ds x date) x ≡ date = get_or-set_same ds x date 0 hd in
      let member : (l z : ℕ) → has z (chain u l) ≡ true → (z ≡ x) ⊎ ((m : ℕ) × (has z (chain t m) ≡ true)) = λ l z h.
      elim (in_changed t (place now date) (chain t (place now date) ++ x ∷ []) l z hl (sym (ap (λ (w : Table). has z (chain w l)) q) ∙ h)) [
        | inl a ↦ elim (has-push z x (chain t (place now date)) a.1) [ inl b ↦ inr (place now date, b) | inr b ↦ inl b ]
        | inr a ↦ inr (l, a.1)
      ] in
      let old : (z m : ℕ) → has z (chain t m) ≡ true → date_at (set ds x date) z ≡ date_at ds z = λ z m h. get_or-set_other ds x z date 0 (apart z x (chain t m) h (free_all m)) in
      let w = weight_more t (place now date) x hl in
      let len = length-set t.lists (place now date) (chain t (place now date) ++ x ∷ []) in (
        record {
          table = table;
          lists = ap (λ (w : Table). length w.lists) q ∙ (len ∙ k.lists);
          nodes = ap (λ (w : Table). w.nodes) q ∙ k.nodes;
          dated = length-set ds x date ∙ k.dated;
          placed = λ l z h. o.0 l z (sym (ap (λ (w : Table). has z (chain w l)) q) ∙ h);
          from = λ l z h. elim (member l z h) [
            | inl a ↦ subst (λ (j : ℕ). now ≤ date_at (set ds x date) j) (sym a) (subst (λ (j : ℕ). now ≤ j) (sym dx) from)
            | inr a ↦ subst (λ (j : ℕ). now ≤ j) (sym (old z a.0 a.1)) (k.from a.0 z a.1)
          ];
          until = λ l z h. elim (member l z h) [
            | inl a ↦ subst (λ (j : ℕ). date_at (set ds x date) j < now + 2147483648) (sym a) (subst (λ (j : ℕ). j < now + 2147483648) (sym dx) until)
            | inr a ↦ subst (λ (j : ℕ). j < now + 2147483648) (sym (old z a.0 a.1)) (k.until a.0 z a.1)
          ];
          bounded = λ h. subst (λ (w : Table). w.work + weight 0 w.lists ≤ 8 * min (puts + 1) 18446744073709551615) (sym q)
              (let b = k.bounded (omega arith) in let d : place now date / 256 ≤ 3 = omega arith in omega arith);
        },
        ap (λ (w : Table). in_order (set ds x date) w.lists) q ∙ (o.1 ∙ ap (λ (v : ℕ). put_behind (date, v) (in_order ds t.lists)) (sym s)),
      )

  pub wheel_remove : (x source l : ℕ) (u : Table) → source ≡ x + 1 → list_of t x ≡ Some l → u ≡ removed t x → IsTable u
      → IsWheel u ds now ports puts × (in_order ds u.lists ≡ without source (in_order ds t.lists))
  wheel_remove x source l u s h e table =
      let hx = (k.table.held l x h).0 in let hl = (k.table.held l x h).1 in
      let q : u ≡ changed t l (without_node x (chain t l)) = e ∙ ap (λ (o : Option ℕ). removed_in t o x) h in
      let o = remove_order t ds (place now) x l k.placed hl hx (λ m ne. lacks_others t ds k.table x l m h ne) in
      let member : (i z : ℕ) → has z (chain u i) ≡ true → (m : ℕ) × (has z (chain t m) ≡ true) = λ i z g.
      elim (in_changed t l (without_node x (chain t l)) i z hl (sym (ap (λ (w : Table). has z (chain w i)) q) ∙ g)) [
        | inl a ↦ (l, has-less z x (chain t l) a.1)
        | inr a ↦ (i, a.1)
      ] in
      let w = weight_less t l (without_node x (chain t l)) hl (length-less x (chain t l) hx) in
      let len = length-set t.lists l (without_node x (chain t l)) in (
        record {
          table = table;
          lists = ap (λ (w : Table). length w.lists) q ∙ (len ∙ k.lists);
          nodes = ap (λ (w : Table). w.nodes) q ∙ k.nodes;
          dated = k.dated;
          placed = λ i z g. o.0 i z (sym (ap (λ (w : Table). has z (chain w i)) q) ∙ g);
          from = λ i z g. let a = member i z g in k.from a.0 z a.1;
          until = λ i z g. let a = member i z g in k.until a.0 z a.1;
          bounded = λ g. subst (λ (w : Table). w.work + weight 0 w.lists ≤ 8 * puts) (sym q) (let b = k.bounded g in omega arith);
        },
        ap (λ (w : Table). in_order ds w.lists) q ∙ (o.1 ∙ ap (λ (v : ℕ). without v (in_order ds t.lists)) (sym s)),
      )
