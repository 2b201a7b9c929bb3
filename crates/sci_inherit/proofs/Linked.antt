-- The links of a net, step by step.
use Rattle.std.proofs.Common.{◌≡◌, ◌<◌, ◌≤◌, ◌+◌, ◌-◌, ◌↔◌, ◌∙◌, ℕ, zero, suc, Bool, List, ◌∷◌, [], ◌++◌, ◌⊎◌, inl, inr, ⊎_elim, refl, sym, ap, subst, arith, length, get_or, take, replicate}
use Rattle.std.specs.Prelude.{Contains, All}
use Rattle.std.proofs.lemmas.Bool.{cases_lt}
use Rattle.std.proofs.lemmas.List.{take_more, get_or_past}
use Rattle.std.proofs.lemmas.List.Elements.{Contains-append_left, Contains-push, Contains-push_cases, Contains-get_or}
use Rattle.sci_loop.specs.Lists.{list_at, Adds}
use Rattle.sci_loop.specs.Walk.{IsMarked}
use Rattle.sci_loop.proofs.Adding.{none-there, adds-none, adds-same, adds-both}
use Rattle.sci_net.specs.declared.Feed.{Feed}
use Rattle.sci_net.specs.Parts.{Parts, IsBlock, IsActivationInput, numbered, spec_of, wire_of, feeds_of}
use Rattle.sci_net.specs.Net.{IsNet}
use Rattle.sci_reaction.specs.Links.{Supplies}
use Rattle.sci_inherit.specs.declared.Fed.{Fed}
use Rattle.sci_inherit.specs.Followers.{Upto, IsHeir, InputGives, HeirGiven, AreHeirs, HasRow, HaveRows, AreEmptyRows, Fills, RowGets, FeedGets, BlockFed, AreFilled, AreRows, FeedsSome, IsTarget, SenderGets, TargetGiven, AreTargets}
use Rattle.sci_inherit.proofs.Giving.{upto_more}
use Rattle.sci_inherit.proofs.Filling.{fills_both, have_rows_same, have_rows}

-- ---- heirs

pub wire_inside : (n : Parts) (b k : ℕ) → IsNet n → 1 ≤ b → b ≤ length n.specs → k < length (spec_of n b).ins → (wire_of n b (k + 1)).block < length n.specs + 1
wire_inside n b k net least most within =
    let o = net.wired.wires_lead b (k + 1) (record { block = record { least = least; most = most }; least = omega arith; most = omega (arith, within) }) in
    let m = o.block.most in omega (arith, m)

pub heir_given : (n : Parts) (b : ℕ) (old new : List (List ℕ)) → 1 ≤ b → b ≤ length n.specs → (spec_of n b).evtin ≡ 0
    → Adds (Upto (InputGives n b) (length (spec_of n b).ins)) old new → Adds (HeirGiven n (b - 1)) old new
heir_given n b old new least most none = adds-same (Upto (InputGives n b) (length (spec_of n b).ins)) (HeirGiven n (b - 1)) old new to from
  where
    number : (b - 1) + 1 ≡ b
    number = omega arith

    to : (a x : ℕ) → Upto (InputGives n b) (length (spec_of n b).ins) a x → HeirGiven n (b - 1) a x
    to a x u = record { is = number ∙ u.given.is; heir = subst (IsHeir n a) u.given.is heir }
      where
        heir : IsHeir n a b
        heir = record {
          inherits = record { some_input = let l = u.below in omega (arith, l); no_activation_input = none };
          supplies = record { input = u.step + 1; within = record { block = record { least = least; most = most }; least = omega arith; most = let l = u.below in omega (arith, l) }; from = u.given.from };
        }

    from : (a x : ℕ) → HeirGiven n (b - 1) a x → Upto (InputGives n b) (length (spec_of n b).ins) a x
    from a x g = record { step = k - 1; below = omega (arith, low, high); given = record { from = subst (λ (j : ℕ). (wire_of n b j).block ≡ a) (sym next) s.from; is = same } }
      where
        same : b ≡ x
        same = sym number ∙ g.is

        s : Supplies n a b
        s = subst (Supplies n a) (sym same) g.heir.supplies

        k : ℕ
        k = s.input

        low : 1 ≤ k
        low = s.within.least

        high : k ≤ length (spec_of n b).ins
        high = s.within.most

        next : (k - 1) + 1 ≡ k
        next = omega (arith, low)

pub heir_none : (n : Parts) (b : ℕ) (ls : List (List ℕ)) → 1 ≤ b → ((spec_of n b).evtin ≡ 0 → ⊥) → Adds (HeirGiven n (b - 1)) ls ls
heir_none n b ls least some =
    adds-none (HeirGiven n (b - 1)) ls
    (λ a x g. let same : x ≡ b = sym g.is ∙ omega arith in some (subst (λ (y : ℕ). (spec_of n y).evtin ≡ 0) same g.heir.inherits.no_activation_input))

pub heirs_are : (n : Parts) (count k : ℕ) (ls : List (List ℕ)) → k ≡ length n.specs → Adds (Upto (HeirGiven n) k) (replicate count []) ls → AreHeirs n ls
heirs_are n count k ls all adds a b = (
  (λ h. elim ((adds.exactly a b).0 h) [ inl l ↦ absurd (none-there count a b l) | inr u ↦ u.given.heir ]),
  λ h. let low = h.supplies.within.block.least in let high = h.supplies.within.block.most in
      (adds.exactly a b).1 (inr (record { step = b - 1; below = omega (arith, low, high, all); given = record { is = omega (arith, low); heir = h } })),
)

-- ---- what is fed

no_input : {X : Type 0} (l : List X) (x : X) → l ≡ [] → Contains l x → ⊥
no_input {X} l x e has = let h = subst (λ (m : List X). Contains m x) e has in absurd (omega (arith, h.1))

-- only an activation input is fed
pub input_inside : (n : Parts) (b p : ℕ) (q : Feed) → IsNet n → Contains (feeds_of n b p) q → IsActivationInput n b p
input_inside n zero zero q net has = absurd (no_input [] q refl has)
input_inside n zero (suc p) q net has = absurd (no_input [] q refl has)
input_inside n (suc a) zero q net has = absurd (no_input [] q refl has)
input_inside n (suc a) (suc p) q net has = ⊎_elim
    (λ l. let is : IsBlock n (suc a) = record { least = omega arith; most = omega (arith, l) } in ⊎_elim
    (λ m. record { block = is; least = omega arith; most = omega (arith, m) })
    (λ m. absurd (no_input (feeds_of n (suc a) (suc p)) q (get_or_past (numbered [] n.feeds (suc a)) p [] (let w = net.wired.one_feed_list_each (suc a) is in omega (arith, w, m))) has))
    (cases_lt p (spec_of n (suc a)).evtin))
    (λ l. absurd (no_input (feeds_of n (suc a) (suc p)) q
    (ap (λ (r : List (List Feed)). numbered [] r (suc p)) (get_or_past n.feeds a [] (let w = net.wired.one_feed_row_each in omega (arith, w, l))) ∙ refl) has))
    (cases_lt a (length n.specs))

-- the rows have one for each output that feeds an input
pub has_rows : (n : Parts) (b k : ℕ) (fs : List Feed) (rows : List (List (List Fed))) → IsNet n → 1 ≤ b → b ≤ length n.specs → k < (spec_of n b).evtin → fs ≡ feeds_of n b (k + 1)
    → HaveRows n rows → All (HasRow rows) fs
has_rows n b k fs rows net least most within is have j d h =
    let q = get_or fs j d in
    let has : Contains (feeds_of n b (k + 1)) q = subst (λ (x : List Feed). Contains x q) is (Contains-get_or fs j d h) in
    let o = net.wired.feeds_lead b (k + 1) q (record { block = record { least = least; most = most }; least = omega arith; most = omega (arith, within) }) has in
    record { block = let m = o.block.most in omega (arith, m, have.long); port = let m = o.most in let w = have.wide q.block o.block in omega (arith, m, w) }

-- one output gets an input
pub gets_one : (q : Feed) (f : Fed) (i p : ℕ) (x : Feed) (g : Fed) → q.block ≡ i → q.port ≡ p → ((x.block ≡ i) × (x.port ≡ p) × (f ≡ g)) ↔ RowGets q f x g
gets_one q f i p x g a b = (
  (λ h. record { at = ap (λ (c : ℕ). mk c q.port) (a ∙ sym h.0) ∙ ap (λ (c : ℕ). mk x.block c) (b ∙ sym h.1); is = h.2 }),
  λ h. (ap (λ (r : Feed). r.block) (sym h.at) ∙ a, ap (λ (r : Feed). r.port) (sym h.at) ∙ b, h.is),
)
  where
    mk : ℕ → ℕ → Feed
    mk c o = record { block = c; port = o }

one_of : (q x : Feed) → Contains (q ∷ []) x → q ≡ x
one_of q x has = elim (Contains-push_cases [] q x has) [ inl n ↦ absurd (no_input [] x refl n) | inr s ↦ s ]

pub gets_wanted : (w : List Bool) (q : Feed) (f : Fed) → IsMarked w q.block → (x : Feed) (g : Fed) → RowGets q f x g ↔ FeedGets w (q ∷ []) f x g
gets_wanted w q f on x g = (
  (λ h. record { has = subst (Contains (q ∷ [])) h.at (Contains-push [] q); is = h.is; wanted = subst (λ (r : Feed). IsMarked w r.block) h.at on }),
  λ h. record { at = one_of q x h.has; is = h.is },
)

pub gets_unwanted : (w : List Bool) (q : Feed) (f : Fed) → (IsMarked w q.block → ⊥) → (x : Feed) (g : Fed) → FeedGets w (q ∷ []) f x g → ⊥
gets_unwanted w q f off x g h = off (subst (λ (r : Feed). IsMarked w r.block) (sym (one_of q x h.has)) h.wanted)

pub gets_next : (w : List Bool) (fs : List Feed) (f : Fed) (i : ℕ) (d : Feed) (old mid new : List (List (List Fed))) → i < length fs → Fills (FeedGets w (take i fs) f) old mid
    → Fills (FeedGets w (get_or fs i d ∷ []) f) mid new → Fills (FeedGets w (take (i + 1) fs) f) old new
gets_next w fs f i d old mid new within a b = fills_both (FeedGets w (take i fs) f) (FeedGets w (q ∷ []) f) (FeedGets w (take (i + 1) fs) f) old mid new is a b
  where
    q : Feed
    q = get_or fs i d

    more : take (i + 1) fs ≡ take i fs ++ q ∷ []
    more = take_more fs i d within

    is : (x : Feed) (g : Fed) → FeedGets w (take (i + 1) fs) f x g ↔ (FeedGets w (take i fs) f x g ⊎ FeedGets w (q ∷ []) f x g)
    is x g = (
      (λ h. elim (Contains-push_cases (take i fs) q x (subst (λ (l : List Feed). Contains l x) more h.has)) [
        | inl l ↦ inl (record { has = l; is = h.is; wanted = h.wanted })
        | inr s ↦ inr (record { has = subst (Contains (q ∷ [])) s (Contains-push [] q); is = h.is; wanted = h.wanted })
      ]),
      λ h. elim h [
        | inl l ↦ record { has = subst (λ (r : List Feed). Contains r x) (sym more) (Contains-append_left (take i fs) (q ∷ []) x l.has); is = l.is; wanted = l.wanted }
        | inr r ↦ record {
          has = subst (λ (l : List Feed). Contains l x) (sym more) (subst (Contains (take i fs ++ q ∷ [])) (one_of q x r.has) (Contains-push (take i fs) q));
          is = r.is;
          wanted = r.wanted;
        }
      ],
    )

pub filled_none : (n : Parts) (w : List Bool) (rows : List (List (List Fed))) → AreEmptyRows n (length n.specs) rows → AreFilled n w 0 rows
filled_none n w rows e = record {
  have_rows = have_rows n rows e;
  exactly = λ q f. ((λ h. absurd (e.empty q f h)), λ u. let l = u.below in absurd (omega (arith, l)));
}

pub filled_next : (n : Parts) (w : List Bool) (k : ℕ) (old new : List (List (List Fed))) → Fills (BlockFed n w k) old new → AreFilled n w k old → AreFilled n w (k + 1) new
filled_next n w k old new fills before = record {
  have_rows = have_rows_same n (BlockFed n w k) old new fills before.have_rows;
  exactly = λ q f. (
    (λ h. elim ((fills.exactly q f).0 h) [
      | inl o ↦ (upto_more (BlockFed n w) k q f).1 (inl ((before.exactly q f).0 o))
      | inr m ↦ (upto_more (BlockFed n w) k q f).1 (inr m)
    ]),
    λ u. (fills.exactly q f).1 (elim ((upto_more (BlockFed n w) k q f).0 u) [ inl o ↦ inl ((before.exactly q f).1 o) | inr m ↦ inr m ]),
  );
}

pub rows_are : (n : Parts) (w : List Bool) (k : ℕ) (rows : List (List (List Fed))) → IsNet n → k ≡ length n.specs → AreFilled n w k rows → AreRows n w rows
rows_are n w k rows net all filled q f = (
  (λ h. let u = (filled.exactly q f).0 h in let g = u.given.given in
      (g.wanted, subst (λ (x : Fed). Contains (feeds_of n x.block x.input) q) g.is g.has)),
  λ h. (filled.exactly q f).1 (given (input_inside n f.block f.input q net h.1) h.0 h.1),
)
  where
    given : IsActivationInput n f.block f.input → IsMarked w q.block → Contains (feeds_of n f.block f.input) q → Upto (BlockFed n w) k q f
    given inside on has =
        let low = inside.block.least in let high = inside.block.most in let first = inside.least in let last = inside.most in
        let b : (f.block - 1) + 1 ≡ f.block = omega (arith, low) in
        let i : (f.input - 1) + 1 ≡ f.input = omega (arith, first) in
        let Gives : ℕ → ℕ → Type 0 = λ c j. FeedGets w (feeds_of n c j) (record { block = c; input = j }) q f in
        let here : Gives f.block f.input = record { has = has; is = refl; wanted = on } in
        let at : Gives ((f.block - 1) + 1) ((f.input - 1) + 1) = subst (λ (c : ℕ). Gives c ((f.input - 1) + 1)) (sym b) (subst (Gives f.block) (sym i) here) in
        let most : f.input - 1 < (spec_of n ((f.block - 1) + 1)).evtin = subst (λ (c : ℕ). f.input - 1 < (spec_of n c).evtin) (sym b) (omega (arith, first, last)) in
        record { step = f.block - 1; below = omega (arith, low, high, all); given = record { step = f.input - 1; below = most; given = at } }

-- ---- what is fed, by block

pub target_stays : (sender block : ℕ) (ls : List (List ℕ)) → Contains (list_at ls sender) block → Adds (IsTarget sender block) ls ls
target_stays sender block ls has = record {
  long = refl;
  exactly = λ a x. (
    (λ h. inl h),
    λ h. elim h [
      | inl l ↦ l
      | inr t ↦ subst (λ (c : ℕ). Contains (list_at ls c) x) (sym t.from) (subst (Contains (list_at ls sender)) t.is has)
    ],
  );
}

pub senders_none : (fs : List Feed) (block : ℕ) (ls : List (List ℕ)) → Adds (SenderGets (take 0 fs) block) ls ls
senders_none fs block ls = adds-none (SenderGets (take 0 fs) block) ls (λ a x g. let l = g.has.1 in absurd (omega (arith, l)))

pub senders_next : (fs : List Feed) (block i : ℕ) (d : Feed) (old mid new : List (List ℕ)) → i < length fs → Adds (SenderGets (take i fs) block) old mid → Adds (IsTarget (get_or fs i d).block block) mid new
    → Adds (SenderGets (take (i + 1) fs) block) old new
senders_next fs block i d old mid new within a b = adds-both (SenderGets (take i fs) block) (IsTarget q.block block) (SenderGets (take (i + 1) fs) block) old mid new is a b
  where
    q : Feed
    q = get_or fs i d

    mk : ℕ → ℕ → Feed
    mk c o = record { block = c; port = o }

    more : take (i + 1) fs ≡ take i fs ++ q ∷ []
    more = take_more fs i d within

    is : (p x : ℕ) → SenderGets (take (i + 1) fs) block p x ↔ (SenderGets (take i fs) block p x ⊎ IsTarget q.block block p x)
    is p x = (
      (λ h. elim (Contains-push_cases (take i fs) q (mk p h.port) (subst (λ (l : List Feed). Contains l (mk p h.port)) more h.has)) [
        | inl l ↦ inl (record { port = h.port; has = l; is = h.is })
        | inr s ↦ inr (record { from = sym (ap (λ (r : Feed). r.block) s); is = h.is })
      ]),
      λ h. elim h [
        | inl l ↦ record { port = l.port; has = subst (λ (r : List Feed). Contains r (mk p l.port)) (sym more) (Contains-append_left (take i fs) (q ∷ []) (mk p l.port) l.has); is = l.is }
        | inr t ↦ record {
          port = q.port;
          has = subst (λ (r : List Feed). Contains r (mk p q.port)) (sym more) (subst (λ (c : ℕ). Contains (take i fs ++ q ∷ []) (mk c q.port)) (sym t.from) (Contains-push (take i fs) q));
          is = t.is;
        }
      ],
    )

-- senders are blocks
pub senders_inside : (n : Parts) (b k count : ℕ) (fs : List Feed) → IsNet n → 1 ≤ b → b ≤ length n.specs → k < (spec_of n b).evtin → fs ≡ feeds_of n b (k + 1) → count ≡ length n.specs + 1
    → All (λ (q : Feed). q.block < count) fs
senders_inside n b k count fs net least most within is long j d h =
    let q = get_or fs j d in
    let has : Contains (feeds_of n b (k + 1)) q = subst (λ (x : List Feed). Contains x q) is (Contains-get_or fs j d h) in
    let o = net.wired.feeds_lead b (k + 1) q (record { block = record { least = least; most = most }; least = omega arith; most = omega (arith, within) }) has in
    let m = o.block.most in omega (arith, m, long)

pub targets_are : (n : Parts) (count k : ℕ) (ls : List (List ℕ)) → IsNet n → k ≡ length n.specs → Adds (Upto (TargetGiven n) k) (replicate count []) ls → AreTargets n ls
targets_are n count k ls net all adds a b = (
  (λ h. elim ((adds.exactly a b).0 h) [
    | inl l ↦ absurd (none-there count a b l)
    | inr u ↦ let g = u.given.given in
        let has : Contains (feeds_of n b (u.given.step + 1)) (mk g.port) = subst (λ (c : ℕ). Contains (feeds_of n c (u.given.step + 1)) (mk g.port)) g.is g.has in
        record { port = g.port; feeds = record { input = u.given.step + 1; within = input_inside n b (u.given.step + 1) (mk g.port) net has; fed = has } }
  ]),
  λ h. (adds.exactly a b).1 (inr (given h)),
)
  where
    mk : ℕ → Feed
    mk o = record { block = a; port = o }

    given : FeedsSome n a b → Upto (TargetGiven n) k a b
    given h =
        let f = h.feeds in let p = f.input in
        let low = f.within.block.least in let high = f.within.block.most in let first = f.within.least in let last = f.within.most in
        let at : (b - 1) + 1 ≡ b = omega (arith, low) in
        let i : (p - 1) + 1 ≡ p = omega (arith, first) in
        let Gives : ℕ → ℕ → Type 0 = λ c j. SenderGets (feeds_of n c j) c a b in
        let here : Gives b p = record { port = h.port; has = f.fed; is = refl } in
        let there : Gives ((b - 1) + 1) ((p - 1) + 1) = subst (λ (c : ℕ). Gives c ((p - 1) + 1)) (sym at) (subst (Gives b) (sym i) here) in
        let most : p - 1 < (spec_of n ((b - 1) + 1)).evtin = subst (λ (c : ℕ). p - 1 < (spec_of n c).evtin) (sym at) (omega (arith, first, last)) in
        record { step = b - 1; below = omega (arith, low, high, all); given = record { step = p - 1; below = most; given = there } }
