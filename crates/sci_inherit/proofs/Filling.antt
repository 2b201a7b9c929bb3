-- Rows by block and port, as they are filled.
use Rattle.std.proofs.Common.{◌≡◌, ◌≢◌, ◌<◌, ◌+◌, ◌↔◌, ◌∙◌, ℕ, zero, suc, List, ◌∷◌, [], ◌++◌, ◌⊎◌, inl, inr, ⊎_elim, refl, sym, ap, subst, arith, length, get_or, get_or-set_same, get_or-set_other, length-set, Vec}
use Rattle.std.proofs.Math.ListN.{set, replicate}
use Rattle.std.specs.Prelude.{Contains}
use Rattle.std.specs.declared.alloc.Global.{Global}
use Rattle.std.proofs.lemmas.Bool.{cases_lt, cases_eq}
use Rattle.std.proofs.lemmas.Bool.Decides.{eqb_tells}
use Rattle.std.proofs.lemmas.List.{map-set, map-append, get_or-map, length-map, length-append, get_or_append_left, get_or_past, length-replicate}
use Rattle.std.proofs.Math.Seq.{get_or-append_seam}
use Rattle.sci_loop.specs.Lists.{plain, list_at, Adds}
use Rattle.sci_loop.proofs.Adding.{none-there, adds-one}
use Rattle.sci_net.specs.declared.Feed.{Feed}
use Rattle.sci_net.specs.Parts.{Parts, IsBlock, spec_of}
use Rattle.sci_inherit.specs.Followers.{Upto, plain_rows, row_at, HasRow, HaveRows, AreEmptyRows, Fills}
use Rattle.sci_inherit.proofs.Giving.{upto_more}

module _ {X : Type 0} where
  pub fills_none : (more : Feed → X → Type 0) (rows : List (List (List X))) → ((q : Feed) (x : X) → more q x → ⊥) → Fills more rows rows
  fills_none more rows none = record { long = refl; wide = λ b. refl; exactly = λ q x. ((λ h. inl h), λ h. elim h [ inl a ↦ a | inr m ↦ absurd (none q x m) ]) }

  pub fills_same : (more other : Feed → X → Type 0) (old new : List (List (List X))) → ((q : Feed) (x : X) → more q x ↔ other q x) → Fills more old new → Fills other old new
  fills_same more other old new is a = record {
    long = a.long;
    wide = a.wide;
    exactly = λ q x. (
      (λ h. elim ((a.exactly q x).0 h) [ inl l ↦ inl l | inr r ↦ inr ((is q x).0 r) ]),
      λ h. (a.exactly q x).1 (elim h [ inl l ↦ inl l | inr r ↦ inr ((is q x).1 r) ]),
    );
  }

  pub fills_both : (first then_ all : Feed → X → Type 0) (old mid new : List (List (List X))) → ((q : Feed) (x : X) → all q x ↔ (first q x ⊎ then_ q x)) → Fills first old mid
      → Fills then_ mid new → Fills all old new
  fills_both first then_ all old mid new is a b = record {
    long = b.long ∙ a.long;
    wide = λ p. b.wide p ∙ a.wide p;
    exactly = λ q x. (
      (λ h. elim ((b.exactly q x).0 h) [
        | inl l ↦ elim ((a.exactly q x).0 l) [ inl m ↦ inl m | inr f ↦ inr ((is q x).1 (inl f)) ]
        | inr t ↦ inr ((is q x).1 (inr t))
      ]),
      λ h. (b.exactly q x).1 (elim h [
        | inl l ↦ inl ((a.exactly q x).1 (inl l))
        | inr m ↦ elim ((is q x).0 m) [ inl f ↦ inl ((a.exactly q x).1 (inr f)) | inr t ↦ inr t ]
      ]),
    );
  }

  pub fills_upto : (gives : ℕ → Feed → X → Type 0) (k : ℕ) (old mid new : List (List (List X))) → Fills (Upto gives k) old mid → Fills (gives k) mid new
      → Fills (Upto gives (k + 1)) old new
  fills_upto gives k old mid new a b = fills_both (Upto gives k) (gives k) (Upto gives (k + 1)) old mid new (upto_more gives k) a b

  module _ (rows new : List (List (List X))) (i p : ℕ) (y : X) (inside : i < length rows) (within : p < length (list_at rows i))
      (e : new ≡ set rows i (set (list_at rows i) p (list_at (list_at rows i) p ++ y ∷ []))) where
    filled : List (List X)
    filled = set (list_at rows i) p (list_at (list_at rows i) p ++ y ∷ [])

    here : list_at new i ≡ set (list_at rows i) p (list_at (list_at rows i) p ++ y ∷ [])
    here = ap (λ (l : List (List (List X))). list_at l i) e ∙ get_or-set_same rows i _ [] inside

    other : (b : ℕ) → b ≢ i → list_at new b ≡ list_at rows b
    other b d = ap (λ (l : List (List (List X))). list_at l b) e ∙ get_or-set_other rows i b _ [] d

    one_wide : (b : ℕ) → length (list_at new b) ≡ length (list_at rows b)
    one_wide b = elim (eqb_tells b i) [
      | inl t ↦ ap (λ (j : ℕ). length (list_at new j)) t.1 ∙ (ap length here ∙ (length-set (list_at rows i) p _ ∙ ap (λ (j : ℕ). length (list_at rows j)) (sym t.1)))
      | inr t ↦ ap length (other b t.1)
    ]

    in_row : Adds (λ o x. (o ≡ p) × (y ≡ x)) (list_at rows i) (list_at new i)
    in_row = adds-one (list_at rows i) (list_at new i) p y within here

    one_here : (q : Feed) (x : X) → q.block ≡ i → Contains (row_at new q) x ↔ (Contains (row_at rows q) x ⊎ ((q.block ≡ i) × (q.port ≡ p) × (y ≡ x)))
    one_here q x t = (
      (λ h. elim ((in_row.exactly q.port x).0 (subst (λ (j : ℕ). Contains (list_at (list_at new j) q.port) x) t h)) [
        | inl a ↦ inl (subst (λ (j : ℕ). Contains (list_at (list_at rows j) q.port) x) (sym t) a)
        | inr b ↦ inr (t, b.0, b.1)
      ]),
      λ h. subst (λ (j : ℕ). Contains (list_at (list_at new j) q.port) x) (sym t) ((in_row.exactly q.port x).1 (elim h [
        | inl a ↦ inl (subst (λ (j : ℕ). Contains (list_at (list_at rows j) q.port) x) t a)
        | inr b ↦ inr (b.1, b.2)
      ])),
    )

    one_other : (q : Feed) (x : X) → q.block ≢ i → Contains (row_at new q) x ↔ (Contains (row_at rows q) x ⊎ ((q.block ≡ i) × (q.port ≡ p) × (y ≡ x)))
    one_other q x d = (
      (λ h. inl (subst (λ (l : List (List X)). Contains (list_at l q.port) x) (other q.block d) h)),
      λ h. subst (λ (l : List (List X)). Contains (list_at l q.port) x) (sym (other q.block d)) (elim h [ inl a ↦ a | inr b ↦ absurd (d b.0) ]),
    )

    pub row_here : row_at new (record { block = i; port = p }) ≡ row_at rows (record { block = i; port = p }) ++ y ∷ []
    row_here = ap (λ (l : List (List X)). list_at l p) here ∙ get_or-set_same (list_at rows i) p _ [] within

    pub row_other : (q : Feed) → (record { block = i; port = p } ≡ q → ⊥) → row_at new q ≡ row_at rows q
    row_other q d = elim (eqb_tells q.block i) [
      | inl t ↦
          ap (λ (j : ℕ). list_at (list_at new j) q.port) t.1
          ∙ (ap (λ (l : List (List X)). list_at l q.port) here
          ∙ (get_or-set_other (list_at rows i) p q.port _ [] (λ s. d (ap (λ (c : ℕ). mk c p) (sym t.1) ∙ ap (λ (c : ℕ). mk q.block c) (sym s)))
          ∙ ap (λ (j : ℕ). list_at (list_at rows j) q.port) (sym t.1)))
      | inr t ↦ ap (λ (l : List (List X)). list_at l q.port) (other q.block t.1)
    ]
      where
        mk : ℕ → ℕ → Feed
        mk c o = record { block = c; port = o }

    -- one element
    pub fills_one : Fills (λ q x. (q.block ≡ i) × (q.port ≡ p) × (y ≡ x)) rows new
    fills_one = record {
      long = ap length e ∙ length-set rows i _;
      wide = one_wide;
      exactly = λ q x. elim (eqb_tells q.block i) [ inl t ↦ one_here q x t.1 | inr t ↦ one_other q x t.1 ];
    }

  -- ---- the rows in plain form

  pub rows_at : (vs : List (Vec (Vec X Global) Global)) (i : ℕ) (v : Vec (Vec X Global) Global) → i < length vs → v ≡ get_or vs i v → list_at (plain_rows vs) i ≡ plain v.items
  rows_at vs i v h is =
      get_or-map (λ (w : Vec (Vec X Global) Global). plain w.items) vs i v [] h ∙ ap (λ (w : Vec (Vec X Global) Global). plain w.items) (sym is)

  pub row_is_at : (vs : List (Vec (Vec X Global) Global)) (i p : ℕ) (v : Vec (Vec X Global) Global) (w : Vec X Global) → i < length vs → v ≡ get_or vs i v → p < length v.items → w ≡ get_or v.items p w
      → row_at (plain_rows vs) (record { block = i; port = p }) ≡ w.items
  row_is_at vs i p v w h is g at =
      ap (λ (l : List (List X)). list_at l p) (rows_at vs i v h is) ∙ (get_or-map (λ (u : Vec X Global). u.items) v.items p w [] g ∙ ap (λ (u : Vec X Global). u.items) (sym at))

  pub rows_pushed : (old new : List (Vec (Vec X Global) Global)) (v : Vec (Vec X Global) Global) → new ≡ old ++ v ∷ [] → plain_rows new ≡ plain_rows old ++ plain v.items ∷ []
  rows_pushed old new v e = ap plain_rows e ∙ map-append (λ (w : Vec (Vec X Global) Global). plain w.items) old (v ∷ [])

  -- an element at the end of a row, as it is put there
  pub put_is : (vs : List (Vec (Vec X Global) Global)) (i p : ℕ) (old new : Vec (Vec X Global) Global) (y : X) → i < length (plain_rows vs)
      → old ≡ get_or vs i old → plain new.items ≡ set (plain old.items) p (list_at (plain old.items) p ++ y ∷ [])
      → plain_rows (set vs i new) ≡ set (plain_rows vs) i (set (list_at (plain_rows vs) i) p (list_at (list_at (plain_rows vs) i) p ++ y ∷ []))
  put_is vs i p old new y h is e =
      let long = length-map vs (λ (w : Vec (Vec X Global) Global). plain w.items) in
      let at : plain old.items ≡ list_at (plain_rows vs) i = sym (rows_at vs i old (omega (arith, h, long)) is) in
      map-set (λ (w : Vec (Vec X Global) Global). plain w.items) vs i new
      ∙ ap (λ (l : List (List X)). set (plain_rows vs) i l) (e ∙ ap (λ (l : List (List X)). set l p (list_at l p ++ y ∷ [])) at)

  pub fills_put : (vs : List (Vec (Vec X Global) Global)) (i p : ℕ) (old new : Vec (Vec X Global) Global) (y : X) → i < length (plain_rows vs) → p < length (list_at (plain_rows vs) i)
      → old ≡ get_or vs i old → plain new.items ≡ set (plain old.items) p (list_at (plain old.items) p ++ y ∷ [])
      → Fills (λ q x. (q.block ≡ i) × (q.port ≡ p) × (y ≡ x)) (plain_rows vs) (plain_rows (set vs i new))
  fills_put vs i p old new y h within is e = fills_one (plain_rows vs) (plain_rows (set vs i new)) i p y h within (put_is vs i p old new y h is e)

  -- ---- the shape of the rows

  pub has_row_same : (more : Feed → X → Type 0) (old new : List (List (List X))) (q : Feed) → Fills more old new → HasRow old q → HasRow new q
  has_row_same more old new q f h = record { block = let b = h.block in omega (arith, f.long, b); port = let p = h.port in let w = f.wide q.block in omega (arith, w, p) }

  pub have_rows_same : (n : Parts) (more : Feed → X → Type 0) (old new : List (List (List X))) → Fills more old new → HaveRows n old → HaveRows n new
  have_rows_same n more old new f h = record { long = f.long ∙ h.long; wide = λ b is. f.wide b ∙ h.wide b is }

  pub have_rows : (n : Parts) (rows : List (List (List X))) → AreEmptyRows n (length n.specs) rows → HaveRows n rows
  have_rows n rows e = record { long = e.long; wide = λ b is. e.wide b is.least (let m = is.most in omega (arith, m)) }

  nothing_in : (l : List (List X)) (p : ℕ) (x : X) → l ≡ [] → Contains (list_at l p) x → ⊥
  nothing_in l p x e has = let h = subst (λ (m : List (List X)). Contains (list_at m p) x) e has in absurd (omega (arith, h.1))

  pub empty_first : (n : Parts) (rows : List (List (List X))) → rows ≡ [] ∷ [] → AreEmptyRows n 0 rows
  empty_first n rows e = subst (AreEmptyRows n 0) (sym e) (record {
    long = refl;
    wide = λ b low high. absurd (omega (arith, low, high));
    empty = λ q x has. nothing_in (list_at ([] ∷ []) q.block) q.port x (first q.block) has;
  })
    where
      first : (b : ℕ) → list_at {X = List X} ([] ∷ []) b ≡ []
      first zero = refl
      first (suc b) = refl

  pub empty_next : (n : Parts) (k m : ℕ) (old new : List (List (List X))) (row : List (List X)) → new ≡ old ++ row ∷ [] → row ≡ replicate (m + 1) [] → m ≡ (spec_of n (k + 1)).evtout
      → AreEmptyRows n k old → AreEmptyRows n (k + 1) new
  empty_next n k m old new row e is count before = record {
    long = let long = ap length e ∙ length-append old (row ∷ []) in omega (arith, long, before.long);
    wide = λ b low high. ⊎_elim
        (λ s. ap length (last b s) ∙ (ap length is ∙ (length-replicate (m + 1) [] ∙ (ap (λ (i : ℕ). i + 1) count ∙ ap (λ (i : ℕ). (spec_of n i).evtout + 1) (sym s)))))
        (λ d. let l : b < k + 1 = omega (arith, high, d) in ap length (earlier b l) ∙ before.wide b low l)
        (cases_eq b (k + 1));
    empty = λ q x has. ⊎_elim
        (λ s. none-there (m + 1) q.port x (subst (λ (l : List (List X)). Contains (list_at l q.port) x) (last q.block s ∙ is) has))
        (λ d. ⊎_elim
        (λ l. before.empty q x (subst (λ (r : List (List X)). Contains (list_at r q.port) x) (earlier q.block l) has))
        (λ g. nothing_in (list_at new q.block) q.port x (get_or_past new q.block [] (let long = ap length e ∙ length-append old (row ∷ []) in omega (arith, long, before.long, d, g))) has)
        (cases_lt q.block (k + 1)))
        (cases_eq q.block (k + 1));
  }
    where
      last : (b : ℕ) → b ≡ k + 1 → list_at new b ≡ row
      last b s = ap (λ (l : List (List (List X))). list_at l b) e ∙ (ap (λ (i : ℕ). list_at (old ++ row ∷ []) i) (s ∙ sym before.long) ∙ get_or-append_seam old row [] [])

      earlier : (b : ℕ) → b < k + 1 → list_at new b ≡ list_at old b
      earlier b l = ap (λ (r : List (List (List X))). list_at r b) e ∙ get_or_append_left old (row ∷ []) [] b (omega (arith, l, before.long))

  -- the row of an activation output, as it is read
  pub row_given : (n : Parts) (vs : List (Vec (Vec X Global) Global)) (b p : ℕ) (v : Vec (Vec X Global) Global) (w : Vec X Global) → HaveRows n (plain_rows vs) → IsBlock n b → p < (spec_of n b).evtout + 1
      → v ≡ get_or vs b v → w ≡ get_or v.items p w → row_at (plain_rows vs) (record { block = b; port = p }) ≡ w.items
  row_given n vs b p v w have is within at then_ =
      let long = length-map vs (λ (u : Vec (Vec X Global) Global). plain u.items) in
      let most = is.most in
      let inside : b < length vs = omega (arith, long, most, have.long) in
      let wide = have.wide b is in
      let same = ap length (rows_at vs b v inside at) ∙ length-map v.items (λ (u : Vec X Global). u.items) in
      row_is_at vs b p v w inside at (omega (arith, within, wide, same)) then_
