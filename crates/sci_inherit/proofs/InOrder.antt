-- The order of activation inputs, and rows that are in order.
use Rattle.std.proofs.Common.{◌≡◌, ◌<◌, ◌+◌, ◌∙◌, ℕ, Bool, true, List, ◌∷◌, [], ◌++◌, ◌⊎◌, inl, inr, ⊎_elim, refl, sym, ap, subst, arith, length, get_or, take}
use Rattle.std.specs.Prelude.{Contains, nat_lt}
use Rattle.std.proofs.lemmas.Bool.Decides.{eqb_tells}
use Rattle.std.proofs.lemmas.List.{take_more, get_or-take, get_or_default, length-take-le}
use Rattle.std.proofs.lemmas.List.Elements.{Contains-append_left, Contains-push, Contains-get_or}
use Rattle.std.proofs.lemmas.List.Quantifiers.{all_pairs_push}
use Rattle.sci_net.specs.declared.Feed.{Feed}
use Rattle.sci_net.specs.Parts.{AreRising, precedes}
use Rattle.sci_inherit.specs.declared.Fed.{Fed}
use Rattle.sci_inherit.specs.Followers.{row_at, comes, AreInOrder, ComeBefore, Appends, Fills, FeedGets}
use Rattle.sci_inherit.proofs.Ordered.{told, lt_yes, eq_yes, or_left, or_right, precedes_not_itself}

-- ---- the order

comes_yes : (f g : Fed) → (f.block < g.block) ⊎ ((f.block ≡ g.block) × (f.input < g.input)) → comes f g ≡ true
comes_yes f g h = ⊎_elim
    (λ l. or_left (nat_lt f.block g.block) _ (lt_yes f.block g.block l))
    (λ e. or_right (nat_lt f.block g.block) _ (rw (eq_yes f.block g.block e.0, lt_yes f.input g.input e.1) refl))
    h

-- what comes before an input comes before the next one, and before the next block's inputs
next_input : (x : Fed) (b i : ℕ) → comes x (record { block = b; input = i }) ≡ true → comes x (record { block = b; input = i + 1 }) ≡ true
next_input x b i h = comes_yes x (record { block = b; input = i + 1 }) (⊎_elim (λ l. inl l) (λ e. let l = e.1 in inr (e.0, omega (arith, l))) (told x.block x.input b i h))

next_block : (x : Fed) (b i : ℕ) → comes x (record { block = b; input = i }) ≡ true → comes x (record { block = b + 1; input = 1 }) ≡ true
next_block x b i h = comes_yes x (record { block = b + 1; input = 1 }) (inl (⊎_elim (λ l. omega (arith, l)) (λ e. let s = e.0 in omega (arith, s)) (told x.block x.input b i h)))

-- ---- one input is put

pub feed_cases : (p q : Feed) → (p ≡ q) ⊎ (p ≡ q → ⊥)
feed_cases p q = elim (eqb_tells p.block q.block) [
  | inl t ↦ elim (eqb_tells p.port q.port) [
    | inl u ↦ inl (ap (λ (c : ℕ). mk c p.port) t.1 ∙ ap (λ (c : ℕ). mk q.block c) u.1)
    | inr u ↦ inr (λ s. u.1 (ap (λ (r : Feed). r.port) s))
  ]
  | inr t ↦ inr (λ s. t.1 (ap (λ (r : Feed). r.block) s))
]
  where
    mk : ℕ → ℕ → Feed
    mk c o = record { block = c; port = o }

pub appends_one : (q : Feed) (f : Fed) (old new : List (List (List Fed))) → row_at new q ≡ row_at old q ++ f ∷ [] → ((x : Feed) → (q ≡ x → ⊥) → row_at new x ≡ row_at old x) → Appends (λ x. q ≡ x) f old new
appends_one q f old new here other = record {
  rest = other;
  in_order = λ x ok below. ⊎_elim
      (λ s. subst (λ (y : Feed). AreInOrder (row_at new y)) s (subst AreInOrder (sym here)
      (all_pairs_push (λ g h. comes g h ≡ true) (row_at old q) f (subst (λ (y : Feed). AreInOrder (row_at old y)) (sym s) ok)
      (λ k d l. below (get_or (row_at old q) k d) (subst (λ (y : Feed). Contains (row_at old y) (get_or (row_at old q) k d)) s (Contains-get_or (row_at old q) k d l))))))
      (λ d. subst AreInOrder (sym (other x d)) ok)
      (feed_cases q x);
}

-- nothing is put
pub appends_nothing : (gets : Feed → Type 0) (f : Fed) (rows : List (List (List Fed))) → Appends gets f rows rows
appends_nothing gets f rows = record { rest = λ q h. refl; in_order = λ q ok below. ok }

pub appends_none : (fs : List Feed) (f : Fed) (rows : List (List (List Fed))) → Appends (Contains (take 0 fs)) f rows rows
appends_none fs f rows = record { rest = λ q h. refl; in_order = λ q ok below. ok }

-- none of rising outputs is among those before it
fresh : (fs : List Feed) (i : ℕ) (d : Feed) → i < length fs → AreRising fs → Contains (take i fs) (get_or fs i d) → ⊥
fresh fs i d within rise has =
    let q = get_or fs i d in
    let j = has.0 in
    let long = length-take-le i fs (omega (arith, within)) in
    let l : j < i = let h = has.1 in omega (arith, h, long) in
    let e : get_or fs j q ≡ q = sym (get_or-take i fs j q l) ∙ has.2 in
    let here : get_or fs i q ≡ q = get_or_default fs i q d within in
    let before : precedes (get_or fs j q) (get_or fs i q) ≡ true = rise j i q l within in
    precedes_not_itself q (subst (λ (x : Feed). precedes q x ≡ true) here (subst (λ (x : Feed). precedes x (get_or fs i q) ≡ true) e before))

pub appends_next : (fs : List Feed) (f : Fed) (i : ℕ) (d : Feed) (old mid new : List (List (List Fed))) → i < length fs → AreRising fs → Appends (Contains (take i fs)) f old mid
    → Appends (λ x. get_or fs i d ≡ x) f mid new → Appends (Contains (take (i + 1) fs)) f old new
appends_next fs f i d old mid new within rise a b = record { rest = rest; in_order = in_order }
  where
    q : Feed
    q = get_or fs i d

    more : take (i + 1) fs ≡ take i fs ++ q ∷ []
    more = take_more fs i d within

    rest : (x : Feed) → (Contains (take (i + 1) fs) x → ⊥) → row_at new x ≡ row_at old x
    rest x h =
        b.rest x (λ s. h (subst (Contains (take (i + 1) fs)) s (subst (λ (l : List Feed). Contains l q) (sym more) (Contains-push (take i fs) q))))
        ∙ a.rest x (λ c. h (subst (λ (l : List Feed). Contains l x) (sym more) (Contains-append_left (take i fs) (q ∷ []) x c)))

    in_order : (x : Feed) → AreInOrder (row_at old x) → ((g : Fed) → Contains (row_at old x) g → comes g f ≡ true) → AreInOrder (row_at new x)
    in_order x ok below = ⊎_elim
        (λ s. let same : row_at mid x ≡ row_at old x = a.rest x (λ c. fresh fs i d within rise (subst (Contains (take i fs)) (sym s) c)) in
        b.in_order x (subst AreInOrder (sym same) ok) (λ g h. below g (subst (λ (l : List Fed). Contains l g) same h)))
        (λ e. subst AreInOrder (sym (b.rest x e)) (a.in_order x ok below))
        (feed_cases q x)

-- ---- the inputs in turn

pub before_next : (w : List Bool) (fs : List Feed) (b i : ℕ) (old new : List (List (List Fed))) → ComeBefore (record { block = b; input = i }) old → Fills (FeedGets w fs (record { block = b; input = i })) old new
    → Appends (Contains fs) (record { block = b; input = i }) old new → ComeBefore (record { block = b; input = i + 1 }) new
before_next w fs b i old new c fills a = record {
  in_order = λ q. a.in_order q (c.in_order q) (c.before q);
  before = λ q x h. elim ((fills.exactly q x).0 h) [
    | inl o ↦ next_input x b i (c.before q x o)
    | inr g ↦ subst (λ (y : Fed). comes y (record { block = b; input = i + 1 }) ≡ true) g.is (comes_yes (record { block = b; input = i }) (record { block = b; input = i + 1 }) (inr (refl, omega arith)))
  ];
}

pub before_block : (b i : ℕ) (rows : List (List (List Fed))) → ComeBefore (record { block = b; input = i }) rows → ComeBefore (record { block = b + 1; input = 1 }) rows
before_block b i rows c = record { in_order = c.in_order; before = λ q x h. next_block x b i (c.before q x h) }

pub before_none : (f : Fed) (rows : List (List (List Fed))) → ((q : Feed) (x : Fed) → Contains (row_at rows q) x → ⊥) → ComeBefore f rows
before_none f rows empty = record {
  in_order = λ q i j d l h. absurd (empty q (get_or (row_at rows q) j d) (Contains-get_or (row_at rows q) j d h));
  before = λ q x h. absurd (empty q x h);
}
