-- Rings of indices, and how a change of two neighbours changes them.
use Rattle.std.proofs.Common.{◌≡◌, ◌≢◌, ◌<◌, ◌≤◌, ◌==◌, ◌⊎◌, inl, inr, nat_lt, ℕ, zero, suc, true, false, List, [], ◌∷◌, length, Option, Some, None, if◌then◌else◌, refl, sym, ◌∙◌, ap, arith}
use Rattle.std.proofs.lemmas.Bool.Decides.{nat_tests}
use Rattle.sci_links.specs.Table.{has, put_before, without, first, behind}
use Rattle.sci_links.specs.Table.{Distinct}
use Rattle.sci_links.specs.Linked.{walk, Joined}
use Rattle.sci_links.proofs.TestLemmas.{by_cases, when, unless, eq_true, eq_false, has_here, has_there, has_cases, lacks_head, lacks_tail, apart}

pub joined_frame : (n p m q : ℕ → ℕ) (a : ℕ) (xs : List ℕ) (b : ℕ) → Joined n p a xs b
    → ((z : ℕ) → has z (a ∷ xs) ≡ true → m z ≡ n z) → ((z : ℕ) → (has z xs ≡ true) ⊎ (z ≡ b) → q z ≡ p z) → Joined m q a xs b
joined_frame n p m q a [] b j f g = (f a (has_here a a [] refl) ∙ j.0, g b (inr refl) ∙ j.1)
joined_frame n p m q a (x ∷ xs) b j f g = (
  f a (has_here a a (x ∷ xs) refl) ∙ j.0,
  g x (inl (has_here x x xs refl)) ∙ j.1,
  joined_frame n p m q x xs b j.2 (λ z h. f z (has_there z a (x ∷ xs) h))
      (λ z h. g z (elim h [ inl t ↦ inl (has_there z x xs t) | inr t ↦ inr t ])),
)

pub joined_prev : (n p : ℕ → ℕ) (a : ℕ) (xs : List ℕ) (b z : ℕ) → Joined n p a xs b → (has z xs ≡ true) ⊎ (z ≡ b) → has (p z) (a ∷ xs) ≡ true
joined_prev n p a [] b z j (inl h) = absurd (cc)
joined_prev n p a [] b z j (inr h) = has_here (p z) a [] (ap p h ∙ j.1)
joined_prev n p a (x ∷ xs) b z j (inr h) = has_there (p z) a (x ∷ xs) (joined_prev n p x xs b z j.2 (inr h))
joined_prev n p a (x ∷ xs) b z j (inl h) = elim (has_cases z x xs h) [
  | inl e ↦ has_here (p z) a (x ∷ xs) (ap p e ∙ j.1)
  | inr k ↦ has_there (p z) a (x ∷ xs) (joined_prev n p x xs b z j.2 (inl k))
]

pub joined_next : (n p : ℕ → ℕ) (a : ℕ) (xs : List ℕ) (b z : ℕ) → Joined n p a xs b → has z (a ∷ xs) ≡ true → (has (n z) xs ≡ true) ⊎ (n z ≡ b)
joined_next n p a [] b z j h = elim (has_cases z a [] h) [ inl e ↦ inr (ap n e ∙ j.0) | inr k ↦ absurd (cc) ]
joined_next n p a (x ∷ xs) b z j h = elim (has_cases z a (x ∷ xs) h) [
  | inl e ↦ inl (has_here (n z) x xs (ap n e ∙ j.0))
  | inr k ↦ elim (joined_next n p x xs b z j.2 k) [ inl t ↦ inl (has_there (n z) x xs t) | inr t ↦ inr t ]
]

-- from a past y
joined_past : (n p m q : ℕ → ℕ) (a y : ℕ) (ys : List ℕ) (b : ℕ) → Joined n p y ys b → Distinct (a ∷ y ∷ ys) → has b (y ∷ ys) ≡ false
    → m a ≡ n y → q (n y) ≡ a → ((z : ℕ) → z ≢ a → m z ≡ n z) → ((z : ℕ) → z ≢ n y → q z ≡ p z) → Joined m q a ys b
joined_past n p m q a y [] b j d nb start back mo qo = (start ∙ j.0, ap q (sym j.0) ∙ back)
joined_past n p m q a y (w ∷ ws) b j d nb start back mo qo = (
  start ∙ j.0,
  ap q (sym j.0) ∙ back,
  joined_frame n p m q w ws b j.2
      (λ z h. mo z (apart z a (w ∷ ws) h (lacks_tail a y (w ∷ ws) d.0)))
      (λ z h. qo z (elim h [
        | inl k ↦ λ v. apart z w ws k d.1.1.0 (v ∙ j.0)
        | inr k ↦ λ v. lacks_head b w ws (lacks_tail b y (w ∷ ws) nb) (sym k ∙ (v ∙ j.0))
      ])),
)

module _ (n p m q : ℕ → ℕ) where
  -- x goes before `at`
  pub joined_insert : (x at a : ℕ) (xs : List ℕ) (b : ℕ) → Joined n p a xs b → Distinct (a ∷ xs) → has b xs ≡ false
      → (has at xs ≡ true) ⊎ (at ≡ b) → has x (a ∷ xs) ≡ false → x ≢ b
      → m x ≡ at → m (p at) ≡ x → ((z : ℕ) → z ≢ x → z ≢ p at → m z ≡ n z)
      → q at ≡ x → q x ≡ p at → ((z : ℕ) → z ≢ x → z ≢ at → q z ≡ p z)
      → Joined m q a (put_before at x xs) b
  joined_insert x at a [] b j d nb (inl h) lx xb mx mb mo qa qx qo = absurd (cc)
  joined_insert x at a [] b j d nb (inr h) lx xb mx mb mo qa qx qo =
      let pa : p at ≡ a = ap p h ∙ j.1 in
      (ap m (sym pa) ∙ mb, qx ∙ pa, (mx ∙ h, ap q (sym h) ∙ qa))
  joined_insert x at a (y ∷ ys) b j d nb where_at lx xb mx mb mo qa qx qo =
      by_cases (at == y) (λ l. Joined m q a l b) (x ∷ y ∷ ys) (y ∷ put_before at x ys)
      (λ t.
      let e : at ≡ y = eq_true at y t in
      let pa : p at ≡ a = ap p e ∙ j.1 in (
        ap m (sym pa) ∙ mb,
        qx ∙ pa,
        (
          mx ∙ e,
          ap q (sym e) ∙ qa,
          joined_frame n p m q y ys b j.2
              (λ z h. mo z (apart z x (y ∷ ys) h (lacks_tail x a (y ∷ ys) lx)) (λ w. apart z a (y ∷ ys) h d.0 (w ∙ pa)))
              (λ z h. qo z
              (elim h [ inl k ↦ apart z x ys k (lacks_tail x y ys (lacks_tail x a (y ∷ ys) lx)) | inr k ↦ λ w. xb (sym w ∙ k) ])
              (elim h [ inl k ↦ λ w. apart z y ys k d.1.0 (w ∙ e) | inr k ↦ λ w. lacks_head b y ys nb (sym k ∙ (w ∙ e)) ])),
        ),
      ))
      (λ t.
      let ne : at ≢ y = eq_false at y t in
      let there : (has at ys ≡ true) ⊎ (at ≡ b) = elim where_at [ inl h ↦ elim (has_cases at y ys h) [ inl e ↦ absurd (ne e) | inr k ↦ inl k ] | inr h ↦ inr h ] in
      let pin : has (p at) (y ∷ ys) ≡ true = joined_prev n p y ys b at j.2 there in (
        mo a (λ w. lacks_head x a (y ∷ ys) lx (sym w)) (λ w. apart (p at) a (y ∷ ys) pin d.0 (sym w)) ∙ j.0,
        qo y (λ w. lacks_head x y ys (lacks_tail x a (y ∷ ys) lx) (sym w)) (λ w. ne (sym w)) ∙ j.1,
        joined_insert x at y ys b j.2 d.1 (lacks_tail b y ys nb) there (lacks_tail x a (y ∷ ys) lx) xb mx mb mo qa qx qo,
      ))

  -- x goes out
  pub joined_remove : (x a : ℕ) (xs : List ℕ) (b : ℕ) → Joined n p a xs b → Distinct (a ∷ xs) → has b xs ≡ false
      → has x xs ≡ true
      → m (p x) ≡ n x → ((z : ℕ) → z ≢ p x → m z ≡ n z)
      → q (n x) ≡ p x → ((z : ℕ) → z ≢ n x → q z ≡ p z)
      → Joined m q a (without x xs) b
  joined_remove x a [] b j d nb h mb mo qa qo = absurd (cc)
  joined_remove x a (y ∷ ys) b j d nb h mb mo qa qo =
      by_cases (x == y) (λ l. Joined m q a l b) ys (y ∷ without x ys)
      (λ t.
      let e : x ≡ y = eq_true x y t in
      let pa : p x ≡ a = ap p e ∙ j.1 in
      let start : m a ≡ n y = ap m (sym pa) ∙ (mb ∙ ap n e) in
      let back : q (n y) ≡ a = ap (λ (w : ℕ). q (n w)) (sym e) ∙ (qa ∙ pa) in
      joined_past n p m q a y ys b j.2 d nb start back
      (λ z k. mo z (λ w. k (w ∙ pa))) (λ z k. qo z (λ w. k (w ∙ ap n e))))
      (λ t.
      let ne : x ≢ y = eq_false x y t in
      let there : has x ys ≡ true = elim (has_cases x y ys h) [ inl e ↦ absurd (ne e) | inr k ↦ k ] in
      let pin : has (p x) (y ∷ ys) ≡ true = joined_prev n p y ys b x j.2 (inl there) in
      let nin : (has (n x) ys ≡ true) ⊎ (n x ≡ b) = joined_next n p y ys b x j.2 (has_there x y ys there) in (
        mo a (λ w. apart (p x) a (y ∷ ys) pin d.0 (sym w)) ∙ j.0,
        qo y (elim nin [ inl k ↦ λ w. apart (n x) y ys k d.1.0 (sym w) | inr k ↦ λ w. lacks_head b y ys nb (sym k ∙ sym w) ]) ∙ j.1,
        joined_remove x y ys b j.2 d.1 (lacks_tail b y ys nb) there mb mo qa qo,
      ))

-- the walk along a ring gives its list
pub walk_joined : (n p : ℕ → ℕ) (nodes fuel a : ℕ) (xs : List ℕ) (b : ℕ) → Joined n p a xs b
    → ((z : ℕ) → has z xs ≡ true → z < nodes) → nodes ≤ b → length xs ≤ fuel → walk n nodes fuel (n a) ≡ xs
walk_joined n p nodes zero a [] b j small past room = refl
walk_joined n p nodes (suc k) a [] b j small past room =
    let no : nat_lt (n a) nodes ≡ false = let e : n a ≡ b = j.0 in grind (arith, nat_tests) in
    unless (nat_lt (n a) nodes) (n a ∷ walk n nodes k (n (n a))) [] no
walk_joined n p nodes zero a (x ∷ xs) b j small past room = absurd (omega arith)
walk_joined n p nodes (suc k) a (x ∷ xs) b j small past room =
    let lt : x < nodes = small x (has_here x x xs refl) in
    let yes_ : nat_lt (n a) nodes ≡ true = let e : n a ≡ x = j.0 in grind (arith, nat_tests) in
    when (nat_lt (n a) nodes) (n a ∷ walk n nodes k (n (n a))) [] yes_
    ∙ (ap (λ (w : ℕ). w ∷ walk n nodes k (n w)) j.0
    ∙ ap (λ (l : List ℕ). x ∷ l) (walk_joined n p nodes k x xs b j.2 (λ z h. small z (has_there z x xs h)) past (omega arith)))

first_next : (n p : ℕ → ℕ) (nodes y : ℕ) (ys : List ℕ) (b x : ℕ) → x ≡ y → Joined n p y ys b
    → ((z : ℕ) → has z ys ≡ true → z < nodes) → nodes ≤ b → (if nat_lt (n x) nodes then Some (n x) else None) ≡ first ys
first_next n p nodes y [] b x e j small past =
    let no : nat_lt (n x) nodes ≡ false = let f : n x ≡ b = ap n e ∙ j.0 in grind (arith, nat_tests) in unless (nat_lt (n x) nodes) (Some (n x)) None no
first_next n p nodes y (w ∷ ws) b x e j small past =
    let f : n x ≡ w = ap n e ∙ j.0 in
    let lt : w < nodes = small w (has_here w w ws refl) in
    let yes_ : nat_lt (n x) nodes ≡ true = grind (arith, nat_tests) in when (nat_lt (n x) nodes) (Some (n x)) None yes_ ∙ ap Some f

-- what stands behind x, or b
pub behind_next : (n p : ℕ → ℕ) (nodes a : ℕ) (xs : List ℕ) (b x : ℕ) → Joined n p a xs b
    → ((z : ℕ) → has z xs ≡ true → z < nodes) → nodes ≤ b → has x xs ≡ true
    → (if nat_lt (n x) nodes then Some (n x) else None) ≡ behind x xs
behind_next n p nodes a [] b x j small past h = absurd (cc)
behind_next n p nodes a (y ∷ ys) b x j small past h = by_cases (x == y) (λ (o : Option ℕ). (if nat_lt (n x) nodes then Some (n x) else None) ≡ o) (first ys) (behind x ys)
    (λ t. first_next n p nodes y ys b x (eq_true x y t) j.2 (λ z k. small z (has_there z y ys k)) past)
    (λ t. behind_next n p nodes y ys b x j.2 (λ z k. small z (has_there z y ys k)) past
    (elim (has_cases x y ys h) [ inl e ↦ absurd (eq_false x y t e) | inr k ↦ k ]))

pub first_of_ring : (n p : ℕ → ℕ) (nodes a : ℕ) (xs : List ℕ) (b : ℕ) → Joined n p a xs b
    → ((z : ℕ) → has z xs ≡ true → z < nodes) → nodes ≤ b → (if nat_lt (n a) nodes then Some (n a) else None) ≡ first xs
first_of_ring n p nodes a [] b j small past =
    let no : nat_lt (n a) nodes ≡ false = let f : n a ≡ b = j.0 in grind (arith, nat_tests) in unless (nat_lt (n a) nodes) (Some (n a)) None no
first_of_ring n p nodes a (w ∷ ws) b j small past =
    let f : n a ≡ w = j.0 in
    let lt : w < nodes = small w (has_here w w ws refl) in
    let yes_ : nat_lt (n a) nodes ≡ true = grind (arith, nat_tests) in when (nat_lt (n a) nodes) (Some (n a)) None yes_ ∙ ap Some f
