-- What each block waits for.
use Rattle.std.proofs.Common.{◌≡◌, ◌<◌, ◌≤◌, ◌+◌, ◌-◌, ◌↔◌, ◌∙◌, ℕ, zero, suc, Bool, true, false, List, ◌∷◌, [], ◌++◌, ◌⊎◌, inl, inr, ⊎_elim, refl, sym, ap, subst, arith, length, get_or, set, take, replicate, length-append}
use Rattle.std.specs.Prelude.{Contains, eqb}
use Rattle.std.specs.List.{dedup}
use Rattle.std.specs.List.Sorted.{IsStrictlyIncreasing, IsPermutation, IsSorted}
use Rattle.std.specs.Ordering.{nat_cmp}
use Rattle.std.proofs.lemmas.Bool.{cases_eq, cases_lt}
use Rattle.std.proofs.lemmas.List.{take_more, take_all, get_or_append_left, get_or_push, get_or_past}
use Rattle.std.proofs.lemmas.List.Elements.{Contains-append_left, Contains-push, Contains-push_cases}
use Rattle.std.proofs.lemmas.List.Sorted.{Contains-permutation, IsPermutation-sym}
use Rattle.std.proofs.lemmas.List.Kept.{Contains-dedup_nat, Contains-from_dedup}
use Rattle.std.proofs.lemmas.Map.Keys.{IsStrictlyIncreasing-dedup}
use Rattle.sci_base.specs.Lists.{truth_at}
use Rattle.sci_loop.specs.Lists.{list_at, Adds}
use Rattle.sci_loop.proofs.Adding.{none-there, adds-none, adds-both, adds-one}
use Rattle.sci_net.specs.Parts.{Parts, numbered, spec_of, wire_of, IsBlock}
use Rattle.sci_net.specs.Net.{IsNet}
use Rattle.sci_reaction.specs.Links.{SuppliesThrough, has_feedthrough}
use Rattle.sci_reaction.specs.Depends.{Conditions}
use Rattle.sci_inherit.proofs.Gathering.{reaches_block, reaches_output}
use Rattle.sci_dep.specs.Tables.{AreWaits}
use Rattle.sci_dep.specs.Building.{Puts, SuppliesAt, SuppliesBelow, IsPutTo, PutUpto, AreConditions, IsWaitsOf, WaitsTo}

-- ---- the sources of inputs

pub puts_none : (n : Parts) (b : ℕ) (xs : List ℕ) → Puts (SuppliesBelow n b 0) xs xs
puts_none n b xs = record { exactly = λ x. ((λ h. inl h), λ h. elim h [ inl l ↦ l | inr s ↦ let l = s.below in absurd (omega (arith, l)) ]) }

-- the truth of an input, counted from 1
pub truth_of : (ts : List Bool) (k : ℕ) → 1 ≤ k → truth_at ts (k - 1) ≡ numbered false ts k
truth_of ts zero least = absurd (omega (arith, least))
truth_of ts (suc k) least = let e : suc k - 1 ≡ k = omega arith in ap (truth_at ts) e

pub puts_source : (n : Parts) (b k : ℕ) (old new : List ℕ) (y : ℕ) → has_feedthrough (spec_of n b) k ≡ true → (wire_of n b k).block ≡ y → new ≡ old ++ y ∷ [] → Puts (SuppliesAt n b k) old new
puts_source n b k old new y on is e = record {
  exactly = λ x. (
    (λ h. elim (Contains-push_cases old y x (subst (λ (l : List ℕ). Contains l x) e h)) [ inl o ↦ inl o | inr s ↦ inr (record { through = on; from = is ∙ s }) ]),
    λ h. subst (λ (l : List ℕ). Contains l x) (sym e) (elim h [
      | inl o ↦ Contains-append_left old (y ∷ []) x o
      | inr s ↦ subst (Contains (old ++ y ∷ [])) (sym is ∙ s.from) (Contains-push old y)
    ]),
  );
}

pub puts_no_source : (n : Parts) (b k : ℕ) (xs : List ℕ) → (has_feedthrough (spec_of n b) k ≡ true → ⊥) → Puts (SuppliesAt n b k) xs xs
puts_no_source n b k xs off = record { exactly = λ x. ((λ h. inl h), λ h. elim h [ inl l ↦ l | inr s ↦ absurd (off s.through) ]) }

pub puts_next : (n : Parts) (b k : ℕ) (old mid new : List ℕ) → Puts (SuppliesAt n b (k + 1)) mid new → Puts (SuppliesBelow n b k) old mid → Puts (SuppliesBelow n b (k + 1)) old new
puts_next n b k old mid new put before = record {
  exactly = λ x. (
    (λ h. elim ((put.exactly x).0 h) [
      | inl m ↦ elim ((before.exactly x).0 m) [ inl o ↦ inl o | inr s ↦ inr (record { input = s.input; below = let l = s.below in omega (arith, l); supplies = s.supplies }) ]
      | inr s ↦ inr (record { input = k; below = omega arith; supplies = s })
    ]),
    λ h. (put.exactly x).1 (elim h [
      | inl o ↦ inl ((before.exactly x).1 (inl o))
      | inr s ↦ ⊎_elim
          (λ d. inr (subst (λ (j : ℕ). SuppliesAt n b (j + 1) x) d s.supplies))
          (λ d. inl ((before.exactly x).1 (inr (record { input = s.input; below = let l = s.below in omega (arith, l, d); supplies = s.supplies }))))
          (cases_eq s.input k)
    ]),
  );
}

pub puts_through : (n : Parts) (b : ℕ) (old new : List ℕ) → 1 ≤ b → b ≤ length n.specs → Puts (SuppliesBelow n b (length (spec_of n b).ins)) old new → Puts (λ x. SuppliesThrough n x b) old new
puts_through n b old new least most p = record {
  exactly = λ x. (
    (λ h. elim ((p.exactly x).0 h) [ inl o ↦ inl o | inr s ↦ inr (to x s) ]),
    λ h. (p.exactly x).1 (elim h [ inl o ↦ inl o | inr s ↦ inr (from x s) ]),
  );
}
  where
    to : (x : ℕ) → SuppliesBelow n b (length (spec_of n b).ins) x → SuppliesThrough n x b
    to x s = record {
      input = s.input + 1;
      within = record { block = record { least = least; most = most }; least = omega arith; most = let l = s.below in omega (arith, l) };
      from = s.supplies.from;
      through = s.supplies.through;
    }

    from : (x : ℕ) → SuppliesThrough n x b → SuppliesBelow n b (length (spec_of n b).ins) x
    from x s = let low = s.within.least in let high = s.within.most in let next : (s.input - 1) + 1 ≡ s.input = omega (arith, low) in record {
      input = s.input - 1;
      below = omega (arith, low, high);
      supplies = subst (λ (j : ℕ). SuppliesAt n b j x) (sym next) (record { through = s.through; from = s.from });
    }

-- ---- the conditions of each block

-- one more of a list
taken : (xs : List ℕ) (i : ℕ) → i < length xs → (x : ℕ) → Contains (take (i + 1) xs) x ↔ (Contains (take i xs) x ⊎ (get_or xs i 0 ≡ x))
taken xs i h x =
    let y = get_or xs i 0 in
    let more = take_more xs i 0 h in (
      λ has. Contains-push_cases (take i xs) y x (subst (λ (l : List ℕ). Contains l x) more has),
      λ has. subst (λ (l : List ℕ). Contains l x) (sym more) (elim has [
        | inl l ↦ Contains-append_left (take i xs) (y ∷ []) x l
        | inr e ↦ subst (Contains (take i xs ++ y ∷ [])) e (Contains-push (take i xs) y)
      ]),
    )

pub put_none : (reached : List ℕ) (c : ℕ) (ls : List (List ℕ)) → Adds (IsPutTo (take 0 reached) c) ls ls
put_none reached c ls = adds-none (IsPutTo (take 0 reached) c) ls (λ b x u. let l = u.reaches.1 in absurd (omega (arith, l)))

pub put_next : (reached : List ℕ) (c i : ℕ) (old mid new : List (List ℕ)) → i < length reached → get_or reached i 0 < length mid → new ≡ set mid (get_or reached i 0) (list_at mid (get_or reached i 0) ++ c ∷ [])
    → Adds (IsPutTo (take i reached) c) old mid → Adds (IsPutTo (take (i + 1) reached) c) old new
put_next reached c i old mid new h inside e before =
    adds-both (IsPutTo (take i reached) c) (λ b x. (b ≡ get_or reached i 0) × (c ≡ x)) (IsPutTo (take (i + 1) reached) c) old mid new
    (λ b x. (
      (λ u. ⊎_elim (λ l. inl (record { reaches = l; is = u.is })) (λ s. inr (sym s, u.is)) ((taken reached i h b).0 u.reaches)),
      λ u. elim u [
        | inl l ↦ record { reaches = (taken reached i h b).1 (inl l.reaches); is = l.is }
        | inr r ↦ record { reaches = (taken reached i h b).1 (inr (sym r.0)); is = r.1 }
      ],
    ))
    before (adds-one mid new (get_or reached i 0) c inside e)

pub put_done : (reached : List ℕ) (c i : ℕ) (old new : List (List ℕ)) → length reached ≤ i → Adds (IsPutTo (take i reached) c) old new → Adds (IsPutTo reached c) old new
put_done reached c i old new all adds = subst (λ (l : List ℕ). Adds (IsPutTo l c) old new) (take_all i reached all) adds

condition_block : (n : Parts) → IsNet n → (c b : ℕ) → Conditions n c b → IsBlock n c
condition_block n net c b k = (reaches_output n (record { block = c; port = k.branch }) net k.reaches).block

pub turned_none : (n : Parts) (ls : List (List ℕ)) → IsNet n → Adds (PutUpto n 0) ls ls
turned_none n ls net = adds-none (PutUpto n 0) ls (λ b x u. let l = (condition_block n net x b u.conditions).least in let m = u.below in absurd (omega (arith, l, m)))

pub turned_next : (n : Parts) (os : List (List ℕ)) (k : ℕ) (reached : List ℕ) (old mid new : List (List ℕ)) → ((c b : ℕ) → Contains (list_at os c) b ↔ Conditions n c b) → reached ≡ list_at os (k + 1)
    → Adds (PutUpto n k) old mid → Adds (IsPutTo reached (k + 1)) mid new → Adds (PutUpto n (k + 1)) old new
turned_next n os k reached old mid new are same before adds =
    adds-both (PutUpto n k) (IsPutTo reached (k + 1)) (PutUpto n (k + 1)) old mid new
    (λ b x. (
      (λ u. ⊎_elim
          (λ s. inr (record { reaches = subst (λ (l : List ℕ). Contains l b) (sym same) ((are (k + 1) b).1 (subst (λ (c : ℕ). Conditions n c b) s u.conditions)); is = sym s }))
          (λ d. inl (record { below = let l = u.below in omega (arith, l, d); conditions = u.conditions }))
          (cases_eq x (k + 1))),
      λ u. elim u [
        | inl l ↦ record { below = let m = l.below in omega (arith, m); conditions = l.conditions }
        | inr r ↦ record {
          below = let s = r.is in omega (arith, s);
          conditions = subst (λ (c : ℕ). Conditions n c b) r.is ((are (k + 1) b).0 (subst (λ (l : List ℕ). Contains l b) same r.reaches));
        }
      ],
    ))
    before adds

pub turned_all : (n : Parts) (count k : ℕ) (ls : List (List ℕ)) → IsNet n → k ≡ length n.specs → Adds (PutUpto n k) (replicate count []) ls → AreConditions n ls
turned_all n count k ls net all adds b c = (
  (λ h. elim ((adds.exactly b c).0 h) [ inl l ↦ absurd (none-there count b c l) | inr u ↦ u.conditions ]),
  λ h. (adds.exactly b c).1 (inr (record { below = let m = (condition_block n net c b h).most in omega (arith, m, all); conditions = h })),
)

-- ---- the list of a block

pub waits_are : (n : Parts) (c : ℕ) (found put sorted kept : List ℕ) → ((b : ℕ) → Contains found b ↔ Conditions n b c)
    → Puts (λ b. SuppliesThrough n b c) found put → IsPermutation put sorted → IsSorted nat_cmp sorted → kept ≡ dedup eqb sorted → IsWaitsOf n c kept
waits_are n c found put sorted kept are puts moved in_order e = record {
  rising = subst IsStrictlyIncreasing (sym e) (IsStrictlyIncreasing-dedup sorted in_order);
  exactly = λ b. (to b, from b);
}
  where
    to : (b : ℕ) → Contains kept b → SuppliesThrough n b c ⊎ Conditions n b c
    to b h =
        let in_sorted : Contains sorted b = Contains-from_dedup eqb sorted b (subst (λ (l : List ℕ). Contains l b) e h) in
        let in_put : Contains put b = Contains-permutation sorted put b (IsPermutation-sym put sorted moved) in_sorted in
        elim ((puts.exactly b).0 in_put) [ inl f ↦ inr ((are b).0 f) | inr s ↦ inl s ]

    from : (b : ℕ) → SuppliesThrough n b c ⊎ Conditions n b c → Contains kept b
    from b h =
        let in_put : Contains put b = (puts.exactly b).1 (elim h [ inl s ↦ inr s | inr k ↦ inl ((are b).1 k) ]) in
        subst (λ (l : List ℕ). Contains l b) (sym e) (Contains-dedup_nat sorted b (Contains-permutation put sorted b moved in_put))

-- ---- the lists of all blocks

pub waits_none : (n : Parts) → WaitsTo n 0 []
waits_none n = record { long = refl; each = λ p h. absurd (omega (arith, h)) }

pub waits_next : (n : Parts) (k : ℕ) (old new : List (List ℕ)) (xs : List ℕ) → new ≡ old ++ xs ∷ [] → IsWaitsOf n (k + 1) xs → WaitsTo n k old → WaitsTo n (k + 1) new
waits_next n k old new xs e here before = record {
  long = ap length e ∙ (length-append old (xs ∷ []) ∙ ap (λ (m : ℕ). m + 1) before.long);
  each = λ p h. ⊎_elim
      (λ s. subst (IsWaitsOf n (p + 1)) (sym (ap (λ (l : List (List ℕ)). list_at l p) e ∙ get_or_push old xs [] p (before.long ∙ sym s))) (subst (λ (j : ℕ). IsWaitsOf n (j + 1) xs) (sym s) here))
      (λ d. subst (IsWaitsOf n (p + 1)) (sym (ap (λ (l : List (List ℕ)). list_at l p) e ∙ get_or_append_left old (xs ∷ []) [] p (let l = before.long in omega (arith, h, d, l)))) (before.each p (omega (arith, h, d))))
      (cases_eq p k);
}

waits_block : (n : Parts) (b c : ℕ) → SuppliesThrough n b c ⊎ Conditions n b c → IsBlock n c
waits_block n b c h = elim h [ inl s ↦ s.within.block | inr k ↦ reaches_block n (record { block = b; port = k.branch }) k.reaches ]

pub waits_all : (n : Parts) (k : ℕ) (ls : List (List ℕ)) → k ≡ length n.specs → WaitsTo n k ls → AreWaits n ls
waits_all n k ls all w = record { enough = w.long ∙ all; rising = rising; exactly = exactly }
  where
    rising : (c : ℕ) → IsStrictlyIncreasing (numbered [] ls c)
    rising zero = λ j h. absurd (omega (arith, h))
    rising (suc p) = ⊎_elim
        (λ l. (w.each p l).rising)
        (λ g. subst IsStrictlyIncreasing (sym (get_or_past ls p [] (let e = w.long in omega (arith, g, e)))) (λ j h. absurd (omega (arith, h))))
        (cases_lt p k)

    exactly : (c b : ℕ) → Contains (numbered [] ls c) b ↔ (SuppliesThrough n b c ⊎ Conditions n b c)
    exactly zero b = ((λ (j, h, e). absurd (omega arith)), λ h. let l = (waits_block n b zero h).least in absurd (omega (arith, l)))
    exactly (suc p) b = (
      (λ h. ⊎_elim
          (λ l. let next : p + 1 ≡ suc p = omega arith in subst (λ (j : ℕ). SuppliesThrough n b j ⊎ Conditions n b j) next (((w.each p l).exactly b).0 h))
          (λ g. let none = subst (λ (l : List ℕ). Contains l b) (get_or_past ls p [] (let e = w.long in omega (arith, g, e))) h in let l = none.1 in absurd (omega (arith, l)))
          (cases_lt p k)),
      λ h. let m = (waits_block n b (suc p) h).most in let next : suc p ≡ p + 1 = omega arith in
          ((w.each p (omega (arith, m, all))).exactly b).1 (subst (λ (j : ℕ). SuppliesThrough n b j ⊎ Conditions n b j) next h),
    )
