-- A source without a loop has a row, and so a reaction has a result.
use Rattle.std.proofs.Common.{◌≡◌, ℕ, zero, suc, ◌<◌, ◌≤◌, true, ◌&&◌, nat_lt, nat_eq, ◌⊎◌, inl, inr, ⊎_elim, ◌↔◌, List, [], ◌∷◌, ◌++◌, slice_index_or, get_or, Contains, refl, sym, ap, subst, ◌∙◌, arith, true≢false}
use Rattle.std.proofs.lemmas.Bool.{cases_eq, lt-ltb, eq-eqb}
use Rattle.std.proofs.lemmas.Nat.Bits.{same_from_bits, bit_at-lt}
use Rattle.std.proofs.lemmas.List.{get_or_default}
use Rattle.std.proofs.lemmas.List.Elements.{Contains-append_left, Contains-append_right, Contains-append_cases}
use Rattle.std.proofs.lemmas.List.Kept.{AllPairs-cons}
use Rattle.std.proofs.lemmas.List.Quantifiers.{all_pairs_push}
use Rattle.std.specs.List.{AllPairs}
use Rattle.std.specs.Int.{bit_at}
use Rattle.sci_forms.specs.Form.{is_sync}
use Rattle.sci_loop.proofs.Decided.{Decided, decide_true}
use Rattle.sci_net.specs.declared.Feed.{Feed}
use Rattle.sci_net.specs.declared.Source.{Source}
use Rattle.sci_net.specs.declared.Source.TheVariants.{Start, Port}
use Rattle.sci_net.specs.Parts.{Parts, IsBlock, IsWired, IsActivationOutput, spec_of, feeds_of, precedes}
use Rattle.sci_reaction.specs.Links.{SourceFeeds}
use Rattle.sci_reaction.specs.Active.{seeded, passed, Possible, Reaches}
use Rattle.sci_reaction.specs.Depends.{IsLoopFree, HasDepth, Precedes}
use Rattle.sci_reaction.specs.Equations.{HasBits}
use Rattle.sci_reaction.specs.Schedule.{Guard, Entry, blocks_of, branch_of, IsGuard, IsEntry, IsRow}
use Rattle.sci_reaction.proofs.Lists.{Has, or_left, or_right, and_true, Contains-cons}
use Rattle.sci_reaction.proofs.Spreading.{Spread-block}
use Rattle.sci_reaction.proofs.Decide.{bound, block_below, decide_both, decide_like, decide_has, decide_possible, decide_always, decide_reaches}
use Rattle.sci_reaction.proofs.OneResult.{depth_of, precedes_trans, precedes_cases}
use Rattle.sci_reaction.proofs.Rows.{Has-cons, Contains-has, has-Contains, block_in, Sorted, feeds_within, test, mask_number, mask_number-bits, guard_mask, guard_mask-bits}

-- ---- the guards of an entry, by block and port

pub same_mask : (set : ℕ → Type 0) (k l : ℕ) → HasBits k set → HasBits l set → k ≡ l
same_mask set k l hk hl =
    same_from_bits k l (λ p.
    let one : bit_at k p ≡ 1 → bit_at l p ≡ 1 = λ h. (hl p).1 ((hk p).0 h) in
    let two : bit_at l p ≡ 1 → bit_at k p ≡ 1 = λ h. (hk p).1 ((hl p).0 h) in
    bits (bit_at k p) (bit_at l p) (bit_at-lt k p) (bit_at-lt l p) one two)
  where
    bits : (a c : ℕ) → a < 2 → c < 2 → (a ≡ 1 → c ≡ 1) → (c ≡ 1 → a ≡ 1) → a ≡ c
    bits a c ha hc f g = grind arith

-- up to port k of block c
abbrev Within : ℕ → ℕ → Guard → Type 0
Within c k g = (g.block < c) ⊎ ((g.block ≡ c) × (g.port ≤ k))

abbrev Rises : Guard → Guard → Type 0
Rises g h = precedes (branch_of g) (branch_of h) ≡ true

rises_after : (c k mask : ℕ) (g : Guard) → Within c k g → Rises g (record { block = c; port = suc k; mask = mask })
rises_after c k mask g h =
    ⊎_elim
    (λ less. or_left (nat_lt g.block c) (nat_eq g.block c && nat_lt g.port (suc k)) (lt-ltb g.block c less))
    (λ same. or_right (nat_lt g.block c) (nat_eq g.block c && nat_lt g.port (suc k))
    (and_true (nat_eq g.block c) (nat_lt g.port (suc k)) (eq-eqb g.block c same.0) (lt-ltb g.port (suc k) (omega (arith, same.1)))))
    h

-- what reaches a block is an activation output, and ports are counted from 1
reach_output : (n : Parts) → IsWired n → (q : Feed) {b : ℕ} → Reaches n q b → IsActivationOutput n q.block q.port
reach_output n ok q (seeded b h) = ok.feeds_lead b h.input q h.within h.fed
reach_output n ok q (passed a b d i u) = reach_output n ok q d

module _ (n : Parts) (s : Source) (ok : IsWired n) (b : ℕ) (inside : IsBlock n b) where
  record Listed (c k : ℕ) (gs : List Guard) : Type 0 where
    rising : AllPairs Rises gs
    sound : (g : Guard) → Contains gs g → IsGuard n s b g × Within c k g
    complete : (g : Guard) → IsGuard n s b g → Within c k g → Contains gs g

  guard_at : ℕ → ℕ → Guard
  guard_at c p = record { block = c; port = p; mask = guard_mask n b (record { block = c; port = p }) }

  decide_guard : (c p : ℕ) → Decided (IsGuard n s b (guard_at c p))
  unfolding guard_at
  decide_guard c p =
      decide_like
      (λ h. record { possible = h.0; sync = h.1.0; reaches = h.1.1; feeds = guard_mask-bits n ok b (record { block = c; port = p }) inside })
      (λ h. (h.possible, (h.sync, h.reaches)))
      (decide_both (decide_possible n s c) (decide_both (decide_true (is_sync (spec_of n c).kind)) (decide_reaches n (record { block = c; port = p }) b)))

  -- a guard is the one of its branch
  is_guard_at : (g : Guard) → IsGuard n s b g → g ≡ guard_at g.block g.port
  unfolding guard_at
  is_guard_at g is =
      ap (λ mask. record { block = g.block; port = g.port; mask = mask })
      (same_mask (λ p. Contains (feeds_of n b p) (branch_of g)) g.mask (guard_mask n b (branch_of g)) is.feeds (guard_mask-bits n ok b (branch_of g) inside))

  no_port_zero : (g : Guard) → IsGuard n s b g → 1 ≤ g.port
  no_port_zero g is = (reach_output n ok (branch_of g) is.reaches).least

  one_more : (c k : ℕ) (gs : List Guard) → Listed c k gs → (hs : List Guard) × Listed c (suc k) hs
  unfolding guard_at
  one_more c k gs l =
      ⊎_elim
      (λ one. (
        gs ++ guard_at c (suc k) ∷ [],
        record {
          rising = all_pairs_push Rises gs (guard_at c (suc k)) l.rising
              (λ j d h. rises_after c k (guard_mask n b (record { block = c; port = suc k })) (get_or gs j d) (l.sound (get_or gs j d) (j, h, get_or_default gs j (get_or gs j d) d h)).1);
          sound = λ g h. ⊎_elim
              (λ old. let r = l.sound g old in (r.0, wider g r.1))
              (λ new. let same = only g new in (subst (λ v. IsGuard n s b v) same one, subst (λ v. Within c (suc k) v) same (inr (refl, omega arith))))
              (Contains-append_cases gs (guard_at c (suc k) ∷ []) g h);
          complete = λ g is h. ⊎_elim
              (λ old. Contains-append_left gs (guard_at c (suc k) ∷ []) g (l.complete g is old))
              (λ new. Contains-append_right gs (guard_at c (suc k) ∷ []) g
              (0, omega arith, sym (here g is new)))
              (split g h);
        },
      ))
      (λ none. (
        gs,
        record {
          rising = l.rising;
          sound = λ g h. let r = l.sound g h in (r.0, wider g r.1);
          complete = λ g is h. ⊎_elim (l.complete g is) (λ new. absurd (none (subst (λ v. IsGuard n s b v) (here g is new) is))) (split g h);
        },
      ))
      (decide_guard c (suc k))
    where
      wider : (g : Guard) → Within c k g → Within c (suc k) g
      wider g h' = ⊎_elim (λ less. inl less) (λ same. inr (same.0, omega (arith, same.1))) h'

      only : (g : Guard) → Contains (guard_at c (suc k) ∷ []) g → guard_at c (suc k) ≡ g
      only g h' = ⊎_elim (λ same. same) (λ none. absurd (omega (arith, none.1))) (Contains-cons (guard_at c (suc k)) [] g h')

      split : (g : Guard) → Within c (suc k) g → Within c k g ⊎ ((g.block ≡ c) × (g.port ≡ suc k))
      split g h' = ⊎_elim (λ less. inl (inl less)) (λ same. ⊎_elim (λ last. inr (same.0, last)) (λ other. inl (inr (same.0, omega (arith, same.1, other)))) (cases_eq g.port (suc k))) h'

      here : (g : Guard) → IsGuard n s b g → (g.block ≡ c) × (g.port ≡ suc k) → g ≡ guard_at c (suc k)
      here g is' at = is_guard_at g is' ∙ (ap (λ v. guard_at v g.port) at.0 ∙ ap (λ v. guard_at c v) at.1)

  ports_of : (c k : ℕ) → ((gs : List Guard) × Listed c 0 gs) → (gs : List Guard) × Listed c k gs
  ports_of c zero r = r
  ports_of c (suc k) r = let q = ports_of c k r in one_more c k q.0 q.1

  blocks_to : (c : ℕ) → (gs : List Guard) × Listed c 0 gs
  blocks_to zero = (
    [],
    record {
      rising = λ i j d l h. absurd (omega (arith, h));
      sound = λ g h. absurd (omega (arith, h.1));
      complete = λ g is h. absurd (let p = no_port_zero g is in ⊎_elim (λ less. omega (arith, less)) (λ same. omega (arith, same.1, p)) h);
    },
  )
  blocks_to (suc c) =
      let r = ports_of c (spec_of n c).evtout (blocks_to c) in (
        r.0,
        record {
          rising = r.1.rising;
          sound = λ g h. let x = r.1.sound g h in (x.0, inl (⊎_elim (λ less. omega (arith, less)) (λ same. omega (arith, same.0)) x.1));
          complete = λ g is h. r.1.complete g is (narrow g is h);
        },
      )
    where
      narrow : (g : Guard) → IsGuard n s b g → Within (suc c) 0 g → Within c (spec_of n c).evtout g
      narrow g is' h' =
          let out = reach_output n ok (branch_of g) is'.reaches in
          ⊎_elim
          (λ less. ⊎_elim (λ same. inr (same, subst (λ v. g.port ≤ (spec_of n v).evtout) same out.most)) (λ other. inl (omega (arith, less, other))) (cases_eq g.block c))
          (λ same. absurd (let p = out.least in omega (arith, same.1, p))) h'

  guards_of : (gs : List Guard) × AllPairs Rises gs × ((g : Guard) → Contains gs g ↔ IsGuard n s b g)
  guards_of =
      let r = blocks_to (bound n) in (
        r.0,
        r.1.rising,
        λ g. ((λ h. (r.1.sound g h).0), λ is. r.1.complete g is (inl (block_below n g.block (Spread-block n s _ is.possible)))),
      )

  decide_source : (t : Source) (p : ℕ) → Decided (SourceFeeds n t b p)
  decide_source Start p = inr (λ h. h)
  decide_source (Port q) p = decide_has (feeds_of n b p) q

  source_most : (t : Source) (p : ℕ) → SourceFeeds n t b p → p ≤ (spec_of n b).evtin
  source_most Start p h = absurd h
  source_most (Port q) p h = (feeds_within n ok b p q inside h).most

  pub entry_of : (depth : ℕ) → HasDepth n s b depth → (e : Entry) × (e.block ≡ b) × IsEntry n s e
  entry_of depth has =
      let gs = guards_of in (
        record {
          block = b;
          depth = depth;
          always = (test (decide_always n s b)).0;
          mask = mask_number (decide_source s) (spec_of n b).evtin;
          guards = gs.0;
        },
        refl,
        record {
          depth_is = has;
          always_is = (test (decide_always n s b)).1;
          mask_is = mask_number-bits (SourceFeeds n s b) (decide_source s) (spec_of n b).evtin (source_most s);
          rising = gs.1;
          guards_are = gs.2;
        },
      )

-- ---- the possible blocks in order

module _ (n : Parts) (s : Source) (free : IsLoopFree n s) where
  abbrev Inserted : ℕ → List ℕ → Type 0
  Inserted b xs = (ys : List ℕ) × Sorted n s ys × ((c : ℕ) → Has ys c ↔ ((c ≡ b) ⊎ Has xs c))

  inserted : (b : ℕ) (xs : List ℕ) → Possible n s b → ((c : ℕ) → Has xs c → Possible n s c) → (Has xs b → ⊥) → Sorted n s xs → Inserted b xs
  inserted b [] may all out sorted = (b ∷ [], ((λ c h. absurd (true≢false (sym h))), tt), Has-cons b [])
  inserted b (x ∷ xs) may all out sorted =
      ⊎_elim (λ same. absurd (out ((Has-cons x xs b).1 (inl same))))
      (λ apart. ⊎_elim
      (λ before. (
        b ∷ x ∷ xs,
        (
          (λ c h. ⊎_elim (λ same. subst (Precedes n s b) (sym same) before)
              (λ there. precedes_trans n s free b x c before (sorted.0 c there)) ((Has-cons x xs c).0 h)),
          sorted,
        ),
        Has-cons b (x ∷ xs),
      ))
      (λ after. let rest = inserted b xs may (λ c h. all c ((Has-cons x xs c).1 (inr h))) (λ h. out ((Has-cons x xs b).1 (inr h))) sorted.1 in (
        x ∷ rest.0,
        ((λ c h. ⊎_elim (λ same. subst (Precedes n s x) (sym same) after) (λ there. sorted.0 c there) ((rest.2 c).0 h)), rest.1),
        λ c. (
          (λ h. ⊎_elim (λ same. inr ((Has-cons x xs c).1 (inl same)))
              (λ there. ⊎_elim (λ same. inl same) (λ old. inr ((Has-cons x xs c).1 (inr old))) ((rest.2 c).0 there)) ((Has-cons x rest.0 c).0 h)),
          λ h. ⊎_elim (λ same. (Has-cons x rest.0 c).1 (inr ((rest.2 c).1 (inl same))))
              (λ old. ⊎_elim (λ same. (Has-cons x rest.0 c).1 (inl same)) (λ there. (Has-cons x rest.0 c).1 (inr ((rest.2 c).1 (inr there)))) ((Has-cons x xs c).0 old)) h,
        ),
      ))
      apart)
      (precedes_cases n s free b x may (all x ((Has-cons x xs x).1 (inl refl))))

  abbrev Ordered : ℕ → Type 0
  Ordered k = (xs : List ℕ) × Sorted n s xs × ((c : ℕ) → Has xs c ↔ (Possible n s c × (c < k)))

  ordered_upto : (k : ℕ) → Ordered k
  ordered_upto zero = ([], tt, λ c. ((λ h. absurd (true≢false (sym h))), λ h. absurd (omega (arith, h.1))))
  ordered_upto (suc k) =
      let old = ordered_upto k in
      ⊎_elim
      (λ may. let new = inserted k old.0 may (λ c h. ((old.2 c).0 h).0) (λ h. absurd (let l = ((old.2 k).0 h).1 in omega (arith, l))) old.1 in (
        new.0,
        new.1,
        λ c. (
          (λ h. ⊎_elim (λ same. (subst (Possible n s) (sym same) may, omega (arith, same))) (λ there. let g = (old.2 c).0 there in (g.0, omega (arith, g.1))) ((new.2 c).0 h)),
          λ h. (new.2 c).1 (⊎_elim (λ same. inl same) (λ other. inr ((old.2 c).1 (h.0, omega (arith, h.1, other)))) (cases_eq c k)),
        ),
      ))
      (λ out. (
        old.0,
        old.1,
        λ c. (
          (λ h. let g = (old.2 c).0 h in (g.0, omega (arith, g.1))),
          λ h. (old.2 c).1 (h.0, ⊎_elim (λ same. absurd (out (subst (Possible n s) same h.0))) (λ other. omega (arith, h.1, other)) (cases_eq c k)),
        ),
      ))
      (decide_possible n s k)

  module _ (ok : IsWired n) where
    entries_of : (xs : List ℕ) → ((c : ℕ) → Has xs c → Possible n s c) → (es : List Entry) × (blocks_of es ≡ xs) × ((e : Entry) → Contains es e → IsEntry n s e)
    entries_of [] all = ([], refl, λ e h. absurd (omega (arith, h.1)))
    entries_of (x ∷ xs) all =
        let rest = entries_of xs (λ c h. all c ((Has-cons x xs c).1 (inr h))) in
        let may = all x ((Has-cons x xs x).1 (inl refl)) in
        let depth = depth_of n s free x may in
        let here = entry_of n s ok x (Spread-block n s _ may) depth.0 depth.1 in (
          here.0 ∷ rest.0,
          ap (λ c. c ∷ blocks_of rest.0) here.1 ∙ ap (λ cs. x ∷ cs) rest.1,
          λ e h. ⊎_elim (λ same. subst (IsEntry n s) same here.2) (λ there. rest.2 e there) (Contains-cons here.0 rest.0 e h),
        )

    pairs : (es : List Entry) → Sorted n s (blocks_of es) → AllPairs (λ d e. Precedes n s d.block e.block) es
    pairs [] sorted = λ i j d l h. absurd (omega (arith, h))
    pairs (x ∷ es) sorted =
        AllPairs-cons (λ d e. Precedes n s d.block e.block) x es
        (λ k d l. sorted.0 (slice_index_or es k d).block
        (Contains-has (blocks_of es) (slice_index_or es k d).block (block_in es (slice_index_or es k d) (k, l, get_or_default es k (slice_index_or es k d) d l))))
        (pairs es sorted.1)

    pub some_row : (row : List Entry) × IsRow n s row
    some_row =
        let o = ordered_upto (bound n) in
        let r = entries_of o.0 (λ c h. ((o.2 c).0 h).0) in (
          r.0,
          record {
            exactly = λ b. (
              (λ h. ((o.2 b).0 (subst (λ xs. Has xs b) r.1 (Contains-has (blocks_of r.0) b h))).0),
              λ may. has-Contains (blocks_of r.0) b (subst (λ xs. Has xs b) (sym r.1) ((o.2 b).1 (may, block_below n b (Spread-block n s _ may)))),
            );
            ordered = pairs r.0 (subst (Sorted n s) (sym r.1) o.1);
            entries = λ k d l. r.2 (slice_index_or r.0 k d) (k, l, get_or_default r.0 k (slice_index_or r.0 k d) d l);
          },
        )
