-- Tests of what a net says of one reaction on given values.
use Rattle.std.proofs.Common.{◌≡◌, ℕ, zero, suc, ◌+◌, ◌<◌, ◌≤◌, Bool, true, false, ◌&&◌, ◌||◌, not, inl, inr, ⊎_elim, ℤ, List, [], ◌∷◌, length, slice_index_or, Contains, eqb, refl, sym, ap, ap₂, subst, ◌∙◌, arith, true≢false}
use Rattle.std.proofs.lemmas.Bool.{cases_eq, or_cases, eqb-true, eq-eqb}
use Rattle.std.proofs.lemmas.Bool.Decides.{Decides-int_eq}
use Rattle.std.specs.Ordering.{int_eq}
use Rattle.std.specs.List.{list_any}
use Rattle.sci_forms.specs.Form.{is_sync}
use Rattle.sci_net.specs.declared.Feed.{Feed}
use Rattle.sci_net.specs.declared.Source.{Source}
use Rattle.sci_net.specs.declared.Source.TheVariants.{Start, Port}
use Rattle.sci_net.specs.Parts.{Parts, IsBlock, IsActivationInput, numbered, spec_of, wire_of, feeds_of}
use Rattle.sci_reaction.specs.Links.{SourceFeeds, Supplies, Feeds, Inherits, SetOff}
use Rattle.sci_reaction.specs.Active.{set_off, taken, inherited}
use Rattle.sci_reaction.specs.Equations.{Signals, input_in, branch_on, Active, IsActivated}
use Rattle.sci_reaction.proofs.Lists.{and_both, or_left, or_right, any_to, any_from, Contains-cons, cons-Contains}
use Rattle.sci_reaction.proofs.Spreading.{Spread-least, SetOff-block}

-- ---- lists

abbrev pub up_to : ℕ → List ℕ
up_to zero = []
up_to (suc k) = suc k ∷ up_to k

pub up_to-has : (k p : ℕ) → 1 ≤ p → p ≤ k → Contains (up_to k) p
up_to-has zero p l m = absurd (omega (arith, l, m))
up_to-has (suc k) p l m =
    ⊎_elim (λ same. (0, omega arith, sym same)) (λ other. cons-Contains (suc k) (up_to k) p (up_to-has k p l (omega (arith, m, other)))) (cases_eq p (suc k))

pub up_to-within : (k p : ℕ) → Contains (up_to k) p → (1 ≤ p) × (p ≤ k)
up_to-within zero p h = absurd (omega (arith, h.1))
up_to-within (suc k) p h =
    ⊎_elim (λ same. (omega (arith, same), omega (arith, same))) (λ other. let r = up_to-within k p other in (r.0, omega (arith, r.1)))
    (Contains-cons (suc k) (up_to k) p h)

abbrev pub all_in : (ℕ → Bool) → List ℕ → Bool
all_in t [] = true
all_in t (x ∷ xs) = t x && all_in t xs

pub all_at : (t : ℕ → Bool) (xs : List ℕ) (q : ℕ) → all_in t xs ≡ true → Contains xs q → t q ≡ true
all_at t [] q h c = absurd (omega (arith, c.1))
all_at t (x ∷ xs) q h c =
    let b = and_both (t x) (all_in t xs) h in
    ⊎_elim (λ same. ap t (sym same) ∙ b.0) (λ other. all_at t xs q b.1 other) (Contains-cons x xs q c)

-- the values of a function from b on, in a list
abbrev pub listed_from : {A : Type 0} → (ℕ → A) → ℕ → ℕ → List A
listed_from f b zero = []
listed_from f b (suc k) = f b ∷ listed_from f (b + 1) k

listed_from-at : {A : Type 0} (f : ℕ → A) (d : A) (b k j : ℕ) → j < k → slice_index_or (listed_from f b k) j d ≡ f (b + j)
listed_from-at f d b zero j l = absurd (omega (arith, l))
listed_from-at f d b (suc k) zero l = ap f (omega arith)
listed_from-at f d b (suc k) (suc j) l = let e : b + 1 + j ≡ b + suc j = omega arith in listed_from-at f d (b + 1) k j (omega (arith, l)) ∙ ap f e

pub recalled : {A : Type 0} (f : ℕ → A) (d : A) (k b : ℕ) → 1 ≤ b → b ≤ k → numbered d (listed_from f 1 k) b ≡ f b
recalled f d k zero l m = absurd (omega (arith, l))
recalled f d k (suc b) l m = let e : 1 + b ≡ suc b = omega arith in listed_from-at f d 1 k b (omega (arith, m)) ∙ ap f e

abbrev pub same_list : List ℤ → List ℤ → Bool
same_list [] [] = true
same_list [] (y ∷ ys) = false
same_list (x ∷ xs) [] = false
same_list (x ∷ xs) (y ∷ ys) = int_eq x y && same_list xs ys

pub same_list-is : (xs ys : List ℤ) → same_list xs ys ≡ true → xs ≡ ys
same_list-is [] [] h = refl
same_list-is [] (y ∷ ys) h = absurd (true≢false (sym h))
same_list-is (x ∷ xs) [] h = absurd (true≢false (sym h))
same_list-is (x ∷ xs) (y ∷ ys) h =
    let b = and_both (int_eq x y) (same_list xs ys) h in ap₂ (λ v vs. v ∷ vs) ((Decides-int_eq x y).0 b.0) (same_list-is xs ys b.1)

-- ---- feeds

abbrev pub same_feed : Feed → Feed → Bool
same_feed q r = eqb q.block r.block && eqb q.port r.port

same_feed-is : (q r : Feed) → same_feed q r ≡ true → q ≡ r
same_feed-is q r h =
    let b = and_both (eqb q.block r.block) (eqb q.port r.port) h in
    ap₂ (λ i j. record { block = i; port = j }) (eqb-true q.block r.block b.0) (eqb-true q.port r.port b.1)

and_true : (x y : Bool) → x ≡ true → y ≡ true → (x && y) ≡ true
and_true true y h g = g
and_true false y h g = h

same_feed-refl : (q : Feed) → same_feed q q ≡ true
same_feed-refl q = and_true _ _ (eq-eqb q.block q.block refl) (eq-eqb q.port q.port refl)

module _ (n : Parts) where
  abbrev pub feeds_test : Feed → ℕ → Bool
  feeds_test q b = list_any (λ p. list_any (same_feed q) (feeds_of n b p)) (up_to (spec_of n b).evtin)

  feeds_to : (q : Feed) (b : ℕ) → IsBlock n b → feeds_test q b ≡ true → Feeds n q b
  feeds_to q b inside h =
      let r = any_to (λ p. list_any (same_feed q) (feeds_of n b p)) (up_to (spec_of n b).evtin) h in
      let w = up_to-within (spec_of n b).evtin r.0 r.1 in
      let m = any_to (same_feed q) (feeds_of n b r.0) r.2 in
      record {
        input = r.0;
        within = record { block = inside; least = w.0; most = w.1 };
        fed = subst (Contains (feeds_of n b r.0)) (sym (same_feed-is q m.0 m.2)) m.1;
      }

  feeds_from : (q : Feed) (b : ℕ) → Feeds n q b → feeds_test q b ≡ true
  feeds_from q b f =
      any_from (λ p. list_any (same_feed q) (feeds_of n b p)) (up_to (spec_of n b).evtin) f.input
      (up_to-has (spec_of n b).evtin f.input f.within.least f.within.most)
      (any_from (same_feed q) (feeds_of n b f.input) q f.fed (same_feed-refl q))

  abbrev pub set_off_test : Source → ℕ → Bool
  set_off_test Start b = eqb (length (spec_of n b).ins) 0 && eqb (spec_of n b).evtin 0
  set_off_test (Port q) b = feeds_test q b

  set_off_to : (s : Source) (b : ℕ) → IsBlock n b → set_off_test s b ≡ true → SetOff n s b
  set_off_to Start b inside h =
      let t = and_both _ _ h in record { block = inside; no_input = eqb-true _ 0 t.0; no_activation_input = eqb-true _ 0 t.1 }
  set_off_to (Port q) b inside h = feeds_to q b inside h

  set_off_from : (s : Source) (b : ℕ) → SetOff n s b → set_off_test s b ≡ true
  set_off_from Start b h = and_true _ _ (eq-eqb _ 0 h.no_input) (eq-eqb _ 0 h.no_activation_input)
  set_off_from (Port q) b h = feeds_from q b h

  abbrev pub inherits_test : ℕ → ℕ → Bool
  inherits_test a b = eqb (spec_of n b).evtin 0 && list_any (λ k. eqb (wire_of n b k).block a) (up_to (length (spec_of n b).ins))

  inherits_to : (a b : ℕ) → IsBlock n b → inherits_test a b ≡ true → Inherits n b × Supplies n a b
  inherits_to a b inside h =
      let t = and_both (eqb (spec_of n b).evtin 0) (list_any (λ k. eqb (wire_of n b k).block a) (up_to (length (spec_of n b).ins))) h in
      let r = any_to (λ k. eqb (wire_of n b k).block a) (up_to (length (spec_of n b).ins)) t.1 in
      let w = up_to-within (length (spec_of n b).ins) r.0 r.1 in (
        record { some_input = omega (arith, w.0, w.1); no_activation_input = eqb-true (spec_of n b).evtin 0 t.0 },
        record { input = r.0; within = record { block = inside; least = w.0; most = w.1 }; from = eqb-true (wire_of n b r.0).block a r.2 },
      )

  inherits_from : (a b : ℕ) → Inherits n b → Supplies n a b → inherits_test a b ≡ true
  inherits_from a b i u =
      and_true _ _ (eq-eqb (spec_of n b).evtin 0 i.no_activation_input)
      (any_from (λ k. eqb (wire_of n b k).block a) (up_to (length (spec_of n b).ins)) u.input
      (up_to-has (length (spec_of n b).ins) u.input u.within.least u.within.most) (eq-eqb (wire_of n b u.input).block a u.from))

  abbrev pub fed_by : Source → List Feed → Bool
  fed_by Start fs = false
  fed_by (Port q) fs = list_any (same_feed q) fs

  fed_by_to : (s : Source) (b p : ℕ) → fed_by s (feeds_of n b p) ≡ true → SourceFeeds n s b p
  fed_by_to Start b p h = true≢false (sym h)
  fed_by_to (Port q) b p h =
      let m = any_to (same_feed q) (feeds_of n b p) h in subst (Contains (feeds_of n b p)) (sym (same_feed-is q m.0 m.2)) m.1

  fed_by_from : (s : Source) (b p : ℕ) → SourceFeeds n s b p → fed_by s (feeds_of n b p) ≡ true
  fed_by_from Start b p h = absurd h
  fed_by_from (Port q) b p h = any_from (same_feed q) (feeds_of n b p) q h (same_feed-refl q)

  -- ---- active blocks

  module _ (s : Source) (y : Signals) where
    abbrev pub branch_at : ℕ → Feed
    branch_at c = record { block = c; port = branch_on (spec_of n c) (input_in n y c) }

    abbrev pub takes_test : ℕ → ℕ → Bool
    takes_test c b = is_sync (spec_of n c).kind && feeds_test (branch_at c) b

    -- b is active where these are
    abbrev pub joins : List ℕ → ℕ → Bool
    joins act b = set_off_test s b || list_any (λ c. takes_test c b || inherits_test c b) act

    abbrev pub active_in : List ℕ → ℕ → Bool
    active_in act b = list_any (eqb b) act

    -- each is active because of those behind it
    abbrev pub justified : List ℕ → Bool
    justified [] = true
    justified (b ∷ act) = list_any (eqb b) (up_to (length n.specs)) && (joins act b && justified act)

    -- and no other block is
    abbrev pub closed : List ℕ → Bool
    closed act = all_in (λ b. active_in act b || not (joins act b)) (up_to (length n.specs))

    inside_of : (b : ℕ) → list_any (eqb b) (up_to (length n.specs)) ≡ true → IsBlock n b
    inside_of b h =
        let r = any_to (eqb b) (up_to (length n.specs)) h in
        let w = up_to-within (length n.specs) b (subst (Contains (up_to (length n.specs))) (sym (eqb-true b r.0 r.2)) r.1) in
        record { least = w.0; most = w.1 }

    pub active_to : (act : List ℕ) (b : ℕ) → justified act ≡ true → active_in act b ≡ true → Active n s y b
    active_to [] b j h = absurd (true≢false (sym h))
    active_to (x ∷ act) b j h =
        let t = and_both _ _ j in
        let u = and_both (joins act x) (justified act) t.1 in
        ⊎_elim
        (λ here. subst (Active n s y) (sym (eqb-true b x here))
        (⊎_elim
        (λ first. set_off x (set_off_to s x (inside_of x t.0) first))
        (λ some.
        let r = any_to (λ c. takes_test c x || inherits_test c x) act some in
        let before = active_to act r.0 u.1 (any_from (eqb r.0) act r.0 r.1 (eq-eqb r.0 r.0 refl)) in
        ⊎_elim
        (λ branch. let v = and_both (is_sync (spec_of n r.0).kind) (feeds_test (branch_at r.0) x) branch in
        taken r.0 (branch_at r.0).port x before v.0 refl (feeds_to (branch_at r.0) x (inside_of x t.0) v.1))
        (λ inherit. let v = inherits_to r.0 x (inside_of x t.0) inherit in inherited r.0 x before v.0 v.1)
        (or_cases (takes_test r.0 x) (inherits_test r.0 x) r.2))
        (or_cases (set_off_test s x) (list_any (λ c. takes_test c x || inherits_test c x) act) u.0)))
        (λ there. active_to act b u.1 there)
        (or_cases (eqb b x) (active_in act b) h)

    not_true : (t : Bool) → not t ≡ true → t ≡ true → ⊥
    not_true true h g = true≢false (sym h)
    not_true false h g = true≢false (sym g)

    closed_at : (act : List ℕ) (b : ℕ) → closed act ≡ true → IsBlock n b → joins act b ≡ true → active_in act b ≡ true
    closed_at act b h inside j =
        ⊎_elim (λ on. on) (λ off. absurd (not_true (joins act b) off j))
        (or_cases (active_in act b) (not (joins act b))
        (all_at (λ c. active_in act c || not (joins act c)) (up_to (length n.specs)) b h (up_to-has (length n.specs) b inside.least inside.most)))

    some_joins : (act : List ℕ) (c b : ℕ) → active_in act c ≡ true → (takes_test c b || inherits_test c b) ≡ true → joins act b ≡ true
    some_joins act c b on h =
        let r = any_to (eqb c) act on in
        or_right (set_off_test s b) _
        (any_from (λ d. takes_test d b || inherits_test d b) act c (subst (Contains act) (sym (eqb-true c r.0 r.2)) r.1) h)

    pub active_from : (act : List ℕ) → closed act ≡ true → {b : ℕ} → Active n s y b → active_in act b ≡ true
    active_from act h =
        let P : ℕ → Type 0 = λ b. active_in act b ≡ true in
        Spread-least n s _ P
        (λ b o. closed_at act b h (SetOff-block n s b o) (or_left (set_off_test s b) _ (set_off_from s b o)))
        (λ c p b on sync t f. closed_at act b h f.within.block (some_joins act c b on
        (or_left (takes_test c b) (inherits_test c b) (and_true _ _ sync (feeds_from (branch_at c) b (subst (λ q. Feeds n (record { block = c; port = q }) b) (sym t) f))))))
        (λ a b on i u. closed_at act b h u.within.block (some_joins act a b on
        (or_right (takes_test a b) (inherits_test a b) (inherits_from a b i u))))

    -- ---- the activation inputs that are activated

    abbrev pub branch_feeds : ℕ → ℕ → ℕ → Bool
    branch_feeds c b p = is_sync (spec_of n c).kind && list_any (same_feed (branch_at c)) (feeds_of n b p)

    abbrev pub activated_test : List ℕ → ℕ → ℕ → Bool
    activated_test act b p = fed_by s (feeds_of n b p) || list_any (λ c. branch_feeds c b p) act

    pub activated_to : (act : List ℕ) (b p : ℕ) → justified act ≡ true → IsActivationInput n b p → activated_test act b p ≡ true → IsActivated n s y b p
    activated_to act b p j inside h = record {
      within = inside;
      how = ⊎_elim (λ f. inl (fed_by_to s b p f))
          (λ some.
          let r = any_to (λ c. branch_feeds c b p) act some in
          let v = and_both (is_sync (spec_of n r.0).kind) (list_any (same_feed (branch_at r.0)) (feeds_of n b p)) r.2 in
          let m = any_to (same_feed (branch_at r.0)) (feeds_of n b p) v.1 in
          inr (record {
            block = r.0;
            port = (branch_at r.0).port;
            active = active_to act r.0 j (any_from (eqb r.0) act r.0 r.1 (eq-eqb r.0 r.0 refl));
            sync = v.0;
            takes = refl;
            fed = subst (Contains (feeds_of n b p)) (sym (same_feed-is (branch_at r.0) m.0 m.2)) m.1;
          }))
          (or_cases (fed_by s (feeds_of n b p)) (list_any (λ c. branch_feeds c b p) act) h);
    }

    pub activated_from : (act : List ℕ) (b p : ℕ) → closed act ≡ true → IsActivated n s y b p → activated_test act b p ≡ true
    activated_from act b p h a =
        ⊎_elim (λ f. or_left (fed_by s (feeds_of n b p)) _ (fed_by_from s b p f))
        (λ f.
        let r = any_to (eqb f.block) act (active_from act h f.active) in
        or_right (fed_by s (feeds_of n b p)) _
        (any_from (λ c. branch_feeds c b p) act f.block (subst (Contains act) (sym (eqb-true f.block r.0 r.2)) r.1)
        (and_true _ _ f.sync
        (any_from (same_feed (branch_at f.block)) (feeds_of n b p) (branch_at f.block)
        (subst (λ k. Contains (feeds_of n b p) (record { block = f.block; port = k })) (sym f.takes) f.fed) (same_feed-refl (branch_at f.block))))))
        a.how
