-- The activation outputs that reach each block, as they are gathered.
use Rattle.std.proofs.Common.{◌≡◌, ◌≢◌, ◌<◌, ◌≤◌, ◌+◌, ◌-◌, ◌↔◌, ◌∙◌, ℕ, suc, true, List, ◌∷◌, [], ◌++◌, ◌⊎◌, inl, inr, ⊎_elim, refl, sym, ap, subst, arith, length, get_or, get_or-set_same, get_or-set_other, take, replicate, true≢false}
use Rattle.std.proofs.Math.ListN.{set}
use Rattle.std.specs.Prelude.{Contains, All, nat_eq}
use Rattle.std.specs.List.{IsDistinct}
use Rattle.std.proofs.lemmas.Bool.{cases_eq}
use Rattle.std.proofs.lemmas.Bool.Decides.{nat_tests}
use Rattle.std.proofs.lemmas.List.{get_or-take, get_or_default, length-take-le}
use Rattle.std.proofs.lemmas.List.Elements.{Contains-get_or, Contains-append_left, Contains-push, Contains-push_cases}
use Rattle.std.proofs.lemmas.List.Quantifiers.{all_pairs_push}
use Rattle.std.proofs.lemmas.Map.Keys.{apart_from_distinct}
use Rattle.sci_loop.specs.Lists.{list_at}
use Rattle.sci_loop.specs.Reached.{IsReached, start, onward}
use Rattle.sci_loop.proofs.Adding.{none-there, adds-none, adds-same, adds-both, adds-one}
use Rattle.sci_net.specs.declared.Feed.{Feed}
use Rattle.sci_net.specs.Parts.{Parts, IsBlock, IsActivationOutput, spec_of, AreRising, precedes}
use Rattle.sci_net.specs.Net.{IsNet}
use Rattle.sci_reaction.specs.Active.{Inherited, seeded, passed, Reaches}
use Rattle.sci_inherit.proofs.Ordered.{precedes_yes}
use Rattle.sci_inherit.specs.Followers.{AreHeirs}
use Rattle.sci_inherit.specs.Gather.{Goes, Pushes, Gathered, OfBlocks, OfPorts}

-- ---- one output is put into the lists

module _ (q : Feed) where
  pub pushes_none : (ls : List (List Feed)) → Pushes (Contains []) q ls ls
  pushes_none ls = record {
    adds = adds-none (Goes (Contains []) q) ls (λ p x g. let h = g.reached in absurd (omega (arith, h.1)));
    rest = λ p h. refl;
    rising = λ p r below. r;
  }

  pub pushes_next : (ps : List ℕ) (k : ℕ) (old mid new : List (List Feed)) → k < length mid → (Contains ps (suc k) → ⊥) → new ≡ set mid k (list_at mid k ++ q ∷ []) → Pushes (Contains ps) q old mid
      → Pushes (Contains (ps ++ suc k ∷ [])) q old new
  pushes_next ps k old mid new inside apart e before = record {
    adds = adds-both (Goes (Contains ps) q) (λ p x. (p ≡ k) × (q ≡ x)) (Goes (Contains (ps ++ suc k ∷ [])) q) old mid new is before.adds (adds-one mid new k q inside e);
    rest = λ p h. other p (λ s. h (subst (λ (j : ℕ). Contains (ps ++ suc k ∷ []) (suc j)) (sym s) (Contains-push ps (suc k)))) ∙ before.rest p (λ c. h (Contains-append_left ps (suc k ∷ []) (suc p) c));
    rising = rising;
  }
    where
      other : (p : ℕ) → p ≢ k → list_at new p ≡ list_at mid p
      other p d = ap (λ (l : List (List Feed)). list_at l p) e ∙ get_or-set_other mid k p _ [] d

      at_k : list_at new k ≡ list_at old k ++ q ∷ []
      at_k = ap (λ (l : List (List Feed)). list_at l k) e ∙ (get_or-set_same mid k _ [] inside ∙ ap (λ (l : List Feed). l ++ q ∷ []) (before.rest k apart))

      is : (p : ℕ) (x : Feed) → Goes (Contains (ps ++ suc k ∷ [])) q p x ↔ (Goes (Contains ps) q p x ⊎ ((p ≡ k) × (q ≡ x)))
      is p x = (
        (λ g. elim (Contains-push_cases ps (suc k) (suc p) g.reached) [ inl a ↦ inl (record { reached = a; is = g.is }) | inr s ↦ inr (omega (arith, s), g.is) ]),
        λ h. elim h [
          | inl g ↦ record { reached = Contains-append_left ps (suc k ∷ []) (suc p) g.reached; is = g.is }
          | inr s ↦ record { reached = subst (λ (j : ℕ). Contains (ps ++ suc k ∷ []) (suc j)) (sym s.0) (Contains-push ps (suc k)); is = s.1 }
        ],
      )

      rising : (p : ℕ) → AreRising (list_at old p) → ((x : Feed) → Contains (list_at old p) x → precedes x q ≡ true) → AreRising (list_at new p)
      rising p r below = ⊎_elim
          (λ s. subst AreRising (sym (ap (list_at new) s ∙ (at_k ∙ ap (λ (j : ℕ). list_at old j ++ q ∷ []) (sym s))))
          (all_pairs_push (λ a b. precedes a b ≡ true) (list_at old p) q r (λ j d h. below (get_or (list_at old p) j d) (Contains-get_or (list_at old p) j d h))))
          (λ d. subst AreRising (sym (other p d)) (before.rising p r below))
          (cases_eq p k)

  pub pushes_same : (goes other : ℕ → Type 0) (old new : List (List Feed)) → ((b : ℕ) → goes b ↔ other b) → Pushes goes q old new → Pushes other q old new
  pushes_same goes other old new is p = record {
    adds = adds-same (Goes goes q) (Goes other q) old new
        (λ a x g. record { reached = (is (suc a)).0 g.reached; is = g.is })
        (λ a x g. record { reached = (is (suc a)).1 g.reached; is = g.is })
        p.adds;
    rest = λ a h. p.rest a (λ g. h ((is (suc a)).0 g));
    rising = p.rising;
  }

same_number : (a b : ℕ) → a ≡ b → nat_eq a b ≡ true
same_number a b h = grind (arith, nat_tests)

-- none of distinct numbers is among those before it
pub apart : (ps : List ℕ) (i : ℕ) → i < length ps → IsDistinct nat_eq ps → Contains (take i ps) (get_or ps i 0) → ⊥
apart ps i within distinct has =
    let j = has.0 in
    let long = length-take-le i ps (omega (arith, within)) in
    let l : j < i = let h = has.1 in omega (arith, h, long, within) in
    let e : get_or ps j (get_or ps i 0) ≡ get_or ps i 0 = sym (get_or-take i ps j (get_or ps i 0) l) ∙ has.2 in
    let far = apart_from_distinct nat_eq ps j i (get_or ps i 0) distinct l within in
    let here : get_or ps i (get_or ps i 0) ≡ get_or ps i 0 = get_or_default ps i (get_or ps i 0) 0 within in
    true≢false (sym (same_number (get_or ps j (get_or ps i 0)) (get_or ps i (get_or ps i 0)) (e ∙ sym here)) ∙ far)

-- ---- what is reached

pub reaches_block : (n : Parts) (q : Feed) → {b : ℕ} → Reaches n q b → IsBlock n b
reaches_block n q (seeded b f) = f.within.block
reaches_block n q (passed a b d i u) = u.within.block

pub reaches_output : (n : Parts) (q : Feed) → IsNet n → {b : ℕ} → Reaches n q b → IsActivationOutput n q.block q.port
reaches_output n q net (seeded b f) = net.wired.feeds_lead b f.input q f.within f.fed
reaches_output n q net (passed a b d i u) = reaches_output n q net d

module _ (n : Parts) (ls : List (List ℕ)) (starts : List ℕ) (seed : ℕ → Type 0) (heirs : AreHeirs n ls) (are : (b : ℕ) → Contains starts b ↔ seed b) where
  walked_to : {b : ℕ} → IsReached ls starts b → Inherited n seed b
  walked_to (start b h) = seeded b ((are b).0 h)
  walked_to (onward a b r h) = let i = (heirs a b).0 h in passed a b (walked_to r) i.inherits i.supplies

  walked_from : {b : ℕ} → Inherited n seed b → IsReached ls starts b
  walked_from (seeded b h) = start b ((are b).1 h)
  walked_from (passed a b d i u) = onward a b (walked_from d) ((heirs a b).1 (record { inherits = i; supplies = u }))

  -- a walk along heirs finds what inherits from the seeds
  pub walked_is : (b : ℕ) → IsReached ls starts b ↔ Inherited n seed b
  walked_is b = (walked_to, walked_from)

-- blocks that are found are blocks of the net
pub inherited_block : (n : Parts) (seed : ℕ → Type 0) → ((b : ℕ) → seed b → IsBlock n b) → {b : ℕ} → Inherited n seed b → IsBlock n b
inherited_block n seed is (seeded b h) = is b h
inherited_block n seed is (passed a b d i u) = u.within.block

pub heirs_inside : (n : Parts) (ls : List (List ℕ)) (m : ℕ) → AreHeirs n ls → m ≡ length n.specs + 1 → (a : ℕ) → All (λ b. b < m) (list_at ls a)
heirs_inside n ls m heirs count a j d h =
    let i = (heirs a (get_or (list_at ls a) j d)).0 (Contains-get_or (list_at ls a) j d h) in
    let l = i.supplies.within.block.most in omega (arith, l, count)

pub blocks_inside : (n : Parts) (m : ℕ) (bs : List ℕ) → m ≡ length n.specs + 1 → ((b : ℕ) → Contains bs b → IsBlock n b) → All (λ b. b < m) bs
blocks_inside n m bs count is j d h = let l = (is (get_or bs j d) (Contains-get_or bs j d h)).most in omega (arith, l, count)

pub blocks_within : (n : Parts) (m : ℕ) (bs : List ℕ) → m ≡ length n.specs → ((b : ℕ) → Contains bs b → IsBlock n b) → All (λ b. (1 ≤ b) × (b ≤ m)) bs
blocks_within n m bs count is j d h = let l = is (get_or bs j d) (Contains-get_or bs j d h) in let low = l.least in let high = l.most in (low, omega (arith, high, count))

-- ---- what is gathered

pub ports_precede : (n : Parts) (w : ℕ → Type 0) (b m : ℕ) (x : Feed) → OfPorts w b m x → precedes x (record { block = b; port = m + 1 }) ≡ true
ports_precede n w b m x h = precedes_yes x (record { block = b; port = m + 1 }) h.below

pub gathered_same : (n : Parts) (done other : Feed → Type 0) (ls : List (List Feed)) → ((x : Feed) (b : ℕ) → Reaches n x b → done x ↔ other x) → Gathered n done ls → Gathered n other ls
gathered_same n done other ls is g = record {
  long = g.long;
  rising = g.rising;
  exactly = λ p x. (
    (λ h. let t = (g.exactly p x).0 h in ((is x (suc p) t.1).0 t.0, t.1)),
    λ h. (g.exactly p x).1 ((is x (suc p) h.1).1 h.0, h.1),
  );
}

pub gathered_more : (n : Parts) (done : Feed → Type 0) (q : Feed) (old new : List (List Feed)) → ((x : Feed) → done x → precedes x q ≡ true) → Pushes (Reaches n q) q old new → Gathered n done old
    → Gathered n (λ x. done x ⊎ (q ≡ x)) new
gathered_more n done q old new before pushes g = record {
  long = pushes.adds.long ∙ g.long;
  rising = λ p. pushes.rising p (g.rising p) (λ x h. before x ((g.exactly p x).0 h).0);
  exactly = λ p x. (
    (λ h. elim ((pushes.adds.exactly p x).0 h) [
      | inl o ↦ let t = (g.exactly p x).0 o in (inl t.0, t.1)
      | inr w ↦ (inr w.is, subst (λ (y : Feed). Reaches n y (suc p)) w.is w.reached)
    ]),
    λ h. (pushes.adds.exactly p x).1 (elim h.0 [
      | inl d ↦ inl ((g.exactly p x).1 (d, h.1))
      | inr e ↦ inr (record { reached = subst (λ (y : Feed). Reaches n y (suc p)) (sym e) h.1; is = e })
    ]),
  );
}

pub gathered_none : (n : Parts) (w : ℕ → Type 0) (count : ℕ) → IsNet n → count ≡ length n.specs → length (replicate {A = List Feed} count []) ≡ count → Gathered n (OfBlocks w 0) (replicate count [])
gathered_none n w count net is long = record {
  long = long ∙ is;
  rising = λ p i j d l m. absurd (none-there count p _ (Contains-get_or (list_at (replicate count []) p) j d m));
  exactly = λ p x. ((λ h. absurd (none-there count p x h)), λ h. let o = (reaches_output n x net h.1).block.least in let l = h.0.below in absurd (omega (arith, o, l)));
}

pub gathered_begins : (n : Parts) (w : ℕ → Type 0) (b : ℕ) (ls : List (List Feed)) → IsNet n → 1 ≤ b → Gathered n (OfBlocks w (b - 1)) ls → Gathered n (OfPorts w b 0) ls
gathered_begins n w b ls net least = gathered_same n (OfBlocks w (b - 1)) (OfPorts w b 0) ls is
  where
    is : (x : Feed) (c : ℕ) → Reaches n x c → OfBlocks w (b - 1) x ↔ OfPorts w b 0 x
    is x c r = (
      (λ h. record { sender = h.sender; below = let l = h.below in inl (omega (arith, l, least)) }),
      λ h. record {
        sender = h.sender;
        below = ⊎_elim (λ l. omega (arith, l, least)) (λ e. let o = (reaches_output n x net r).least in let l = e.1 in absurd (omega (arith, o, l))) h.below;
      },
    )

pub gathered_ends : (n : Parts) (w : ℕ → Type 0) (b m : ℕ) (ls : List (List Feed)) → IsNet n → m ≡ (spec_of n b).evtout → Gathered n (OfPorts w b m) ls → Gathered n (OfBlocks w b) ls
gathered_ends n w b m ls net count = gathered_same n (OfPorts w b m) (OfBlocks w b) ls is
  where
    is : (x : Feed) (c : ℕ) → Reaches n x c → OfPorts w b m x ↔ OfBlocks w b x
    is x c r = (
      (λ h. record { sender = h.sender; below = ⊎_elim (λ l. omega (arith, l)) (λ e. let s = e.0 in omega (arith, s)) h.below }),
      λ h. record {
        sender = h.sender;
        below = ⊎_elim
            (λ e. let o = subst (λ (y : ℕ). x.port ≤ (spec_of n y).evtout) e (reaches_output n x net r).most in inr (e, omega (arith, o, count)))
            (λ d. let l = h.below in inl (omega (arith, l, d)))
            (cases_eq x.block b);
      },
    )

-- a block that is no sender adds nothing
pub gathered_other : (n : Parts) (w : ℕ → Type 0) (b : ℕ) (ls : List (List Feed)) → 1 ≤ b → (w b → ⊥) → Gathered n (OfBlocks w (b - 1)) ls → Gathered n (OfBlocks w b) ls
gathered_other n w b ls least other = gathered_same n (OfBlocks w (b - 1)) (OfBlocks w b) ls is
  where
    is : (x : Feed) (c : ℕ) → Reaches n x c → OfBlocks w (b - 1) x ↔ OfBlocks w b x
    is x c r = (
      (λ h. record { sender = h.sender; below = let l = h.below in omega (arith, l, least) }),
      λ h. record {
        sender = h.sender;
        below = ⊎_elim (λ s. absurd (other (subst w s h.sender))) (λ d. let l = h.below in omega (arith, l, d, least)) (cases_eq x.block b);
      },
    )

-- one output more of a sender
pub gathered_port : (n : Parts) (w : ℕ → Type 0) (b m : ℕ) (old new : List (List Feed)) → w b → Pushes (Reaches n (record { block = b; port = m + 1 })) (record { block = b; port = m + 1 }) old new
    → Gathered n (OfPorts w b m) old → Gathered n (OfPorts w b (m + 1)) new
gathered_port n w b m old new sender pushes g =
    gathered_same n (λ x. OfPorts w b m x ⊎ (q ≡ x)) (OfPorts w b (m + 1)) new is (gathered_more n (OfPorts w b m) q old new (ports_precede n w b m) pushes g)
  where
    q : Feed
    q = record { block = b; port = m + 1 }

    mk : ℕ → ℕ → Feed
    mk c p = record { block = c; port = p }

    is : (x : Feed) (c : ℕ) → Reaches n x c → (OfPorts w b m x ⊎ (q ≡ x)) ↔ OfPorts w b (m + 1) x
    is x c r = (
      (λ h. elim h [
        | inl o ↦ record { sender = o.sender; below = ⊎_elim (λ l. inl l) (λ e. let l = e.1 in inr (e.0, omega (arith, l))) o.below }
        | inr e ↦ record {
          sender = subst (λ (y : Feed). w y.block) e sender;
          below = inr (sym (ap (λ (y : Feed). y.block) e), let s = ap (λ (y : Feed). y.port) e in omega (arith, s));
        }
      ]),
      λ h. ⊎_elim (λ l. inl (record { sender = h.sender; below = inl l })) (λ e. ⊎_elim
          (λ s. inr (ap (λ (i : ℕ). mk i (m + 1)) (sym e.0) ∙ ap (λ (i : ℕ). mk x.block i) (sym s)))
          (λ d. let l = e.1 in inl (record { sender = h.sender; below = inr (e.0, omega (arith, l, d)) }))
          (cases_eq x.port (m + 1))) h.below,
    )
