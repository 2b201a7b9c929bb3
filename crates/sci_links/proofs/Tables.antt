-- A change of the arrays is the change of one list.
use Rattle.std.proofs.Common.{◌≡◌, ◌≢◌, ◌<◌, ◌≤◌, ◌+◌, ◌==◌, ◌||◌, ◌&&◌, ◌⊎◌, inl, inr, not, ℕ, zero, suc, Bool, true, false, List, [], ◌∷◌, length, get_or, Option, Some, None, refl, sym, ◌∙◌, ap, subst, arith, get_or-set_other, get_or-set_same, set, length-set}
use Rattle.std.proofs.lemmas.List.{ext_get_or, get_or_append_left}
use Rattle.std.proofs.lemmas.List.{length_push, get_or_push}
use Rattle.std.proofs.lemmas.Map.Steps.{length-le_from_distinct_below}
use Rattle.std.proofs.lemmas.Map.Keys.{IsDistinct-cons}
use Rattle.std.specs.List.{IsDistinct, AllByRecursion, list_any}
use Rattle.std.proofs.Math.Dec.{eqb}
use Rattle.sci_links.specs.Table.{has, put_before, without}
use Rattle.sci_links.specs.Table.{Distinct}
use Rattle.sci_links.specs.Linked.{walk, rings, Joined, Linked, owns}
use Rattle.sci_links.proofs.TestLemmas.{known, eq_true, eq_false, same, differ, or_left, has_here, has_there, has_cases, lacks_head, lacks_tail, has-put_before, Distinct-put_before, has-without, Distinct-without}
use Rattle.sci_links.proofs.Rings.{joined_frame, joined_prev, joined_next, joined_insert, joined_remove, walk_joined}

pub length_rings : (n : ℕ → ℕ) (nodes k : ℕ) → length (rings n nodes k) ≡ k
length_rings n nodes zero = refl
length_rings n nodes (suc k) = omega (arith, length_push (rings n nodes k) (walk n nodes nodes (n (nodes + k))), length_rings n nodes k)

pub rings_at : (n : ℕ → ℕ) (nodes l k : ℕ) → l < k → get_or (rings n nodes k) l [] ≡ walk n nodes nodes (n (nodes + l))
rings_at n nodes l zero h = absurd (omega arith)
rings_at n nodes l (suc k) h = elim (known (l == k)) [
  | inl t ↦ let e : l ≡ k = eq_true l k t in
      get_or_push (rings n nodes k) (walk n nodes nodes (n (nodes + k))) [] l (length_rings n nodes k ∙ sym e)
      ∙ ap (λ (i : ℕ). walk n nodes nodes (n (nodes + i))) (sym e)
  | inr t ↦ let ne : l ≢ k = eq_false l k t in let lt : l < k = omega arith in
      get_or_append_left (rings n nodes k) (walk n nodes nodes (n (nodes + k)) ∷ []) [] l (let e = length_rings n nodes k in omega arith)
      ∙ rings_at n nodes l k lt
]

-- distinct numbers below n are at most n
any_has : (x : ℕ) (xs : List ℕ) → list_any (eqb x) xs ≡ has x xs
any_has x [] = refl
any_has x (y ∷ ys) = ap (λ (b : Bool). (x == y) || b) (any_has x ys)

all_apart : (x : ℕ) (xs : List ℕ) → has x xs ≡ false → AllByRecursion (λ y. eqb x y ≡ false) xs
all_apart x [] h = tt
all_apart x (y ∷ ys) h = (differ x y (lacks_head x y ys h), all_apart x ys (lacks_tail x y ys h))

is_distinct : (xs : List ℕ) → Distinct xs → IsDistinct eqb xs
unfolding IsDistinct
is_distinct [] d = tt
is_distinct (x ∷ xs) d = IsDistinct-cons eqb x xs (all_apart x xs d.0) (is_distinct xs d.1)

pub few : (xs : List ℕ) (n : ℕ) → Distinct xs → ((x : ℕ) → has x xs ≡ true → x < n) → length xs ≤ n
few xs n d small = length-le_from_distinct_below xs n (is_distinct xs d) (λ q h. small q (sym (any_has q xs) ∙ h))

pub owns_true : (l : ℕ) (o : Option ℕ) → owns l o ≡ true → o ≡ Some l
owns_true l None h = absurd (cc)
owns_true l (Some k) h = ap Some (eq_true k l h)

owns_here : (l : ℕ) (o : Option ℕ) → o ≡ Some l → owns l o ≡ true
owns_here l o e = ap (owns l) e ∙ same l l refl

owns_other : (l k : ℕ) (o : Option ℕ) → o ≡ Some k → k ≢ l → owns l o ≡ false
owns_other l k o e ne = ap (owns l) e ∙ differ k l ne

module _ (n p : ℕ → ℕ) (o : ℕ → Option ℕ) (nodes : ℕ) (ls : List (List ℕ)) (k : Linked n p o nodes ls) where
  pub holds : (l x : ℕ) → l < length ls → has x (get_or ls l []) ≡ true → o x ≡ Some l
  holds l x h t = owns_true l (o x) (sym (k.owned l x h) ∙ t)

  pub small : (l x : ℕ) → l < length ls → has x (get_or ls l []) ≡ true → x < nodes
  small l x h t = (k.within l x (holds l x h t)).1

  pub held : (l x : ℕ) → o x ≡ Some l → has x (get_or ls l []) ≡ true
  held l x e = k.owned l x (k.within l x e).0 ∙ owns_here l (o x) e

  pub lacks_free : (l x : ℕ) → l < length ls → o x ≡ None → has x (get_or ls l []) ≡ false
  lacks_free l x h e = k.owned l x h ∙ ap (owns l) e

  pub lacks_end : (l m : ℕ) → l < length ls → has (nodes + m) (get_or ls l []) ≡ false
  lacks_end l m h = elim (known (has (nodes + m) (get_or ls l []))) [
    | inl t ↦ absurd (let lt : nodes + m < nodes = small l (nodes + m) h t in omega arith)
    | inr t ↦ t
  ]

  pub ring_distinct : (l : ℕ) → l < length ls → Distinct ((nodes + l) ∷ get_or ls l [])
  ring_distinct l h = (lacks_end l l h, k.distinct l h)

  pub same_rings : (count : ℕ) → length ls ≡ count → rings n nodes count ≡ ls
  same_rings count e = ext_get_or [] (rings n nodes count) ls (length_rings n nodes count ∙ sym e) (λ i h.
      let lc : i < count = let g = length_rings n nodes count in omega arith in
      let ll : i < length ls = omega arith in
      rings_at n nodes i count lc
      ∙ walk_joined n p nodes nodes (nodes + i) (get_or ls i []) (nodes + i) (k.joined i ll) (λ z t. small i z ll t) (omega arith)
      (few (get_or ls i []) nodes (k.distinct i ll) (λ z t. small i z ll t)))

  -- what stands in one ring doesn't stand in another
  pub disjoint : (i l z w : ℕ) → i < length ls → l < length ls → i ≢ l
      → has z ((nodes + i) ∷ get_or ls i []) ≡ true → has w ((nodes + l) ∷ get_or ls l []) ≡ true → z ≢ w
  disjoint i l z w hi hl ne hz hw = λ e. elim (has_cases z (nodes + i) (get_or ls i []) hz) [
    | inl a ↦ elim (has_cases w (nodes + l) (get_or ls l []) hw) [
      | inl b ↦ ne (omega arith)
      | inr b ↦ (let lt : w < nodes = small l w hl b in absurd (omega arith))
    ]
    | inr a ↦ elim (has_cases w (nodes + l) (get_or ls l []) hw) [
      | inl b ↦ (let lt : z < nodes = small i z hi a in absurd (omega arith))
      | inr b ↦ (let one : o z ≡ Some i = holds i z hi a in let two : o w ≡ Some l = holds l w hl b in
          let both : Some i ≡ Some l = sym one ∙ (ap o e ∙ two) in ne (cc))
    ]
  ]

  pub free_apart : (i z x : ℕ) → i < length ls → x < nodes → o x ≡ None → has z ((nodes + i) ∷ get_or ls i []) ≡ true → z ≢ x
  free_apart i z x hi hx e hz = λ w. elim (has_cases z (nodes + i) (get_or ls i []) hz) [
    | inl a ↦ absurd (omega arith)
    | inr a ↦ (let one : o z ≡ Some i = holds i z hi a in let both : None ≡ Some i = sym e ∙ (ap o (sym w) ∙ one) in absurd (cc))
  ]

  pub ring_cases : (i z : ℕ) → (has z (get_or ls i []) ≡ true) ⊎ (z ≡ nodes + i) → has z ((nodes + i) ∷ get_or ls i []) ≡ true
  ring_cases i z (inl t) = has_there z (nodes + i) (get_or ls i []) t
  ring_cases i z (inr t) = has_here z (nodes + i) (get_or ls i []) t

  pub linked_put : (m q : ℕ → ℕ) (u : ℕ → Option ℕ) (l place x : ℕ) → l < length ls
      → has place ((nodes + l) ∷ get_or ls l []) ≡ true → x < nodes → o x ≡ None
      → m x ≡ place → m (p place) ≡ x → ((z : ℕ) → z ≢ x → z ≢ p place → m z ≡ n z)
      → q place ≡ x → q x ≡ p place → ((z : ℕ) → z ≢ x → z ≢ place → q z ≡ p z)
      → u x ≡ Some l → ((z : ℕ) → z ≢ x → u z ≡ o z)
      → Linked m q u nodes (set ls l (put_before place x (get_or ls l [])))
  linked_put m q u l place x hl hplace hx free mx mb mo qa qx qo ux uo =
      let xs : List ℕ = get_or ls l [] in
      let there : (has place xs ≡ true) ⊎ (place ≡ nodes + l) = elim (has_cases place (nodes + l) xs hplace) [ inl e ↦ inr e | inr t ↦ inl t ] in
      let pin : has (p place) ((nodes + l) ∷ xs) ≡ true = joined_prev n p (nodes + l) xs (nodes + l) place (k.joined l hl) there in
      let lx : has x xs ≡ false = lacks_free l x hl free in
      record {
        joined = λ i h. elim (known (i == l)) [
          | inl t ↦ (let e : l ≡ i = sym (eq_true i l t) in
              subst (λ (j : ℕ). Joined m q (nodes + j) (get_or (set ls l (put_before place x xs)) j []) (nodes + j)) e
              (subst (λ (v : List ℕ). Joined m q (nodes + l) v (nodes + l)) (sym (get_or-set_same ls l (put_before place x xs) [] hl))
              (joined_insert n p m q x place (nodes + l) xs (nodes + l) (k.joined l hl) (ring_distinct l hl) (lacks_end l l hl) there
              (let ne : x ≢ nodes + l = λ w. absurd (omega arith) in let b : (x == (nodes + l)) ≡ false = differ x (nodes + l) ne in rw b lx)
              (λ w. absurd (omega arith)) mx mb mo qa qx qo)))
          | inr t ↦ (let ne : i ≢ l = eq_false i l t in let hi : i < length ls = let g = length-set ls l (put_before place x xs) in omega arith in
              subst (λ (v : List ℕ). Joined m q (nodes + i) v (nodes + i)) (sym (get_or-set_other ls l i (put_before place x xs) [] ne))
              (joined_frame n p m q (nodes + i) (get_or ls i []) (nodes + i) (k.joined i hi)
              (λ z hz. mo z (free_apart i z x hi hx free hz) (disjoint i l z (p place) hi hl ne hz pin))
              (λ z hz. qo z (free_apart i z x hi hx free (ring_cases i z hz)) (disjoint i l z place hi hl ne (ring_cases i z hz) hplace))))
        ];
        distinct = λ i h. elim (known (i == l)) [
          | inl t ↦ (let e : l ≡ i = sym (eq_true i l t) in
              subst (λ (j : ℕ). Distinct (get_or (set ls l (put_before place x xs)) j [])) e
              (subst Distinct (sym (get_or-set_same ls l (put_before place x xs) [] hl)) (Distinct-put_before place x xs lx (k.distinct l hl))))
          | inr t ↦ (let ne : i ≢ l = eq_false i l t in let hi : i < length ls = let g = length-set ls l (put_before place x xs) in omega arith in
              subst Distinct (sym (get_or-set_other ls l i (put_before place x xs) [] ne)) (k.distinct i hi))
        ];
        owned = λ i z h. elim (known (i == l)) [
          | inl t ↦ (let e : l ≡ i = sym (eq_true i l t) in
              subst (λ (j : ℕ). has z (get_or (set ls l (put_before place x xs)) j []) ≡ owns j (u z)) e
              (ap (has z) (get_or-set_same ls l (put_before place x xs) [] hl) ∙ (has-put_before z place x xs ∙ owned_here u l x z xs ux uo (k.owned l z hl))))
          | inr t ↦ (let ne : i ≢ l = eq_false i l t in let hi : i < length ls = let g = length-set ls l (put_before place x xs) in omega arith in
              ap (has z) (get_or-set_other ls l i (put_before place x xs) [] ne) ∙ (k.owned i z hi ∙ owned_there u i l x z ne free ux uo))
        ];
        within = λ i z e. elim (known (z == x)) [
          | inl t ↦ (let same_x : z ≡ x = eq_true z x t in let both : Some i ≡ Some l = sym e ∙ (ap u same_x ∙ ux) in let il : i ≡ l = cc in
              (let g = length-set ls l (put_before place x xs) in omega arith, omega arith))
          | inr t ↦ (let w = k.within i z (sym (uo z (eq_false z x t)) ∙ e) in (let g = length-set ls l (put_before place x xs) in omega arith, w.1))
        ];
      }
    where
      owned_here : (u : ℕ → Option ℕ) (l x z : ℕ) (xs : List ℕ) → u x ≡ Some l → ((z : ℕ) → z ≢ x → u z ≡ o z)
          → has z xs ≡ owns l (o z) → ((z == x) || has z xs) ≡ owns l (u z)
      owned_here u l x z xs ux uo w = elim (known (z == x)) [
        | inl t ↦ or_left (z == x) (has z xs) t ∙ sym (owns_here l (u z) (ap u (eq_true z x t) ∙ ux))
        | inr t ↦ ap (λ (b : Bool). b || has z xs) t ∙ (w ∙ ap (owns l) (sym (uo z (eq_false z x t))))
      ]

      owned_there : (u : ℕ → Option ℕ) (i l x z : ℕ) → i ≢ l → o x ≡ None → u x ≡ Some l → ((z : ℕ) → z ≢ x → u z ≡ o z) → owns i (o z) ≡ owns i (u z)
      owned_there u i l x z ne free ux uo = elim (known (z == x)) [
        | inl t ↦ ap (λ (v : ℕ). owns i (o v)) (eq_true z x t) ∙ (ap (owns i) free ∙ sym (owns_other i l (u z) (ap u (eq_true z x t) ∙ ux) (λ w. ne (sym w))))
        | inr t ↦ ap (owns i) (sym (uo z (eq_false z x t)))
      ]

  pub linked_remove : (m q : ℕ → ℕ) (u : ℕ → Option ℕ) (l x : ℕ) → o x ≡ Some l
      → m (p x) ≡ n x → ((z : ℕ) → z ≢ p x → m z ≡ n z)
      → q (n x) ≡ p x → ((z : ℕ) → z ≢ n x → q z ≡ p z)
      → u x ≡ None → ((z : ℕ) → z ≢ x → u z ≡ o z)
      → Linked m q u nodes (set ls l (without x (get_or ls l [])))
  linked_remove m q u l x ox mb mo qa qo ux uo =
      let xs : List ℕ = get_or ls l [] in
      let hl : l < length ls = (k.within l x ox).0 in
      let hx : has x xs ≡ true = held l x ox in
      let pin : has (p x) ((nodes + l) ∷ xs) ≡ true = joined_prev n p (nodes + l) xs (nodes + l) x (k.joined l hl) (inl hx) in
      let nin : has (n x) ((nodes + l) ∷ xs) ≡ true = ring_cases l (n x) (joined_next n p (nodes + l) xs (nodes + l) x (k.joined l hl) (has_there x (nodes + l) xs hx)) in
      record {
        joined = λ i h. elim (known (i == l)) [
          | inl t ↦ (let e : l ≡ i = sym (eq_true i l t) in
              subst (λ (j : ℕ). Joined m q (nodes + j) (get_or (set ls l (without x xs)) j []) (nodes + j)) e
              (subst (λ (v : List ℕ). Joined m q (nodes + l) v (nodes + l)) (sym (get_or-set_same ls l (without x xs) [] hl))
              (joined_remove n p m q x (nodes + l) xs (nodes + l) (k.joined l hl) (ring_distinct l hl) (lacks_end l l hl) hx mb mo qa qo)))
          | inr t ↦ (let ne : i ≢ l = eq_false i l t in let hi : i < length ls = let g = length-set ls l (without x xs) in omega arith in
              subst (λ (v : List ℕ). Joined m q (nodes + i) v (nodes + i)) (sym (get_or-set_other ls l i (without x xs) [] ne))
              (joined_frame n p m q (nodes + i) (get_or ls i []) (nodes + i) (k.joined i hi)
              (λ z hz. mo z (disjoint i l z (p x) hi hl ne hz pin))
              (λ z hz. qo z (disjoint i l z (n x) hi hl ne (ring_cases i z hz) nin))))
        ];
        distinct = λ i h. elim (known (i == l)) [
          | inl t ↦ (let e : l ≡ i = sym (eq_true i l t) in
              subst (λ (j : ℕ). Distinct (get_or (set ls l (without x xs)) j [])) e
              (subst Distinct (sym (get_or-set_same ls l (without x xs) [] hl)) (Distinct-without x xs (k.distinct l hl))))
          | inr t ↦ (let ne : i ≢ l = eq_false i l t in let hi : i < length ls = let g = length-set ls l (without x xs) in omega arith in
              subst Distinct (sym (get_or-set_other ls l i (without x xs) [] ne)) (k.distinct i hi))
        ];
        owned = λ i z h. elim (known (i == l)) [
          | inl t ↦ (let e : l ≡ i = sym (eq_true i l t) in
              subst (λ (j : ℕ). has z (get_or (set ls l (without x xs)) j []) ≡ owns j (u z)) e
              (ap (has z) (get_or-set_same ls l (without x xs) [] hl) ∙ (has-without z x xs (k.distinct l hl) ∙ out_here u l x z xs ux uo (k.owned l z hl))))
          | inr t ↦ (let ne : i ≢ l = eq_false i l t in let hi : i < length ls = let g = length-set ls l (without x xs) in omega arith in
              ap (has z) (get_or-set_other ls l i (without x xs) [] ne) ∙ (k.owned i z hi ∙ out_there u i l x z ne ox ux uo))
        ];
        within = λ i z e. elim (known (z == x)) [
          | inl t ↦ (let both : None ≡ Some i = sym ux ∙ (ap u (sym (eq_true z x t)) ∙ e) in absurd (cc))
          | inr t ↦ (let w = k.within i z (sym (uo z (eq_false z x t)) ∙ e) in (let g = length-set ls l (without x xs) in omega arith, w.1))
        ];
      }
    where
      out_here : (u : ℕ → Option ℕ) (l x z : ℕ) (xs : List ℕ) → u x ≡ None → ((z : ℕ) → z ≢ x → u z ≡ o z)
          → has z xs ≡ owns l (o z) → (not (z == x) && has z xs) ≡ owns l (u z)
      out_here u l x z xs ux uo w = elim (known (z == x)) [
        | inl t ↦ ap (λ (b : Bool). not b && has z xs) t ∙ sym (ap (owns l) (ap u (eq_true z x t) ∙ ux))
        | inr t ↦ ap (λ (b : Bool). not b && has z xs) t ∙ (w ∙ ap (owns l) (sym (uo z (eq_false z x t))))
      ]

      out_there : (u : ℕ → Option ℕ) (i l x z : ℕ) → i ≢ l → o x ≡ Some l → u x ≡ None → ((z : ℕ) → z ≢ x → u z ≡ o z) → owns i (o z) ≡ owns i (u z)
      out_there u i l x z ne ox ux uo = elim (known (z == x)) [
        | inl t ↦ owns_other i l (o z) (ap o (eq_true z x t) ∙ ox) (λ w. ne (sym w)) ∙ sym (ap (owns i) (ap u (eq_true z x t) ∙ ux))
        | inr t ↦ ap (owns i) (sym (uo z (eq_false z x t)))
      ]
