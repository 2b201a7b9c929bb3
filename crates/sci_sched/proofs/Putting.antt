-- Synchronous blocks, put into the lists of the blocks that they reach.
use Rattle.std.proofs.Common.{◌≡◌, ℕ, ◌+◌, ◌<◌, ◌≤◌, inl, inr, ⊎_elim, ◌⊎◌, ◌↔◌, List, [], ◌∷◌, ◌++◌, length, get_or, set, take, Contains, refl, sym, ap, subst, ◌∙◌, arith, length-set, get_or-set_same, get_or-set_other}
use Rattle.std.proofs.lemmas.Bool.{cases_eq}
use Rattle.std.proofs.lemmas.List.{take_more, take_all}
use Rattle.std.proofs.lemmas.List.Elements.{Contains-append_left, Contains-push, Contains-push_cases}
use Rattle.sci_loop.specs.Lists.{list_at, Adds}
use Rattle.sci_loop.proofs.Adding.{adds-none, adds-both, adds-one}
use Rattle.sci_sched.specs.Marks.{IsPutTo, PutOnward, LeavesOthers}

-- one more of a list
taken : (xs : List ℕ) (i : ℕ) → i < length xs → (x : ℕ) → Contains (take (i + 1) xs) x ↔ (Contains (take i xs) x ⊎ (get_or xs i 0 ≡ x))
taken xs i h x =
    let y = get_or xs i 0 in
    let more = take_more xs i 0 h in (
      λ has. Contains-push_cases (take i xs) y x (subst (λ (l : List ℕ). Contains l x) more has),
      λ has. subst (λ (l : List ℕ). Contains l x) (sym more) (elim has [
        | inl l ↦ Contains-append_left (take i xs) (y ∷ []) x l
        | inr e ↦ subst (Contains (take i xs ++ y ∷ [])) e (Contains-push (take i xs) y)
      ]),
    )

none_taken : (xs : List ℕ) (x : ℕ) → Contains (take 0 xs) x → ⊥
none_taken xs x has = let m = has.1 in absurd (omega (arith, m))

-- ---- one synchronous block

pub put_none : (reached : List ℕ) (c : ℕ) (ls : List (List ℕ)) → Adds (IsPutTo (take 0 reached) c) ls ls
put_none reached c ls = adds-none (IsPutTo (take 0 reached) c) ls (λ b x u. none_taken reached b u.reaches)

pub put_next : (reached : List ℕ) (c i : ℕ) (old mid new : List (List ℕ)) → i < length reached → get_or reached i 0 < length mid → new ≡ set mid (get_or reached i 0) (list_at mid (get_or reached i 0) ++ c ∷ [])
    → Adds (IsPutTo (take i reached) c) old mid → Adds (IsPutTo (take (i + 1) reached) c) old new
put_next reached c i old mid new h inside e before =
    adds-both (IsPutTo (take i reached) c) (λ b x. (b ≡ get_or reached i 0) × (c ≡ x)) (IsPutTo (take (i + 1) reached) c) old mid new
    (λ b x. (
      (λ u. ⊎_elim (λ l. inl (record { reaches = l; is = u.is })) (λ s. inr (sym s, u.is)) ((taken reached i h b).0 u.reaches)),
      λ u. elim u [
        | inl l ↦ record { reaches = (taken reached i h b).1 (inl l.reaches); is = l.is }
        | inr r ↦ record { reaches = (taken reached i h b).1 (inr (sym r.0)); is = r.1 }
      ],
    ))
    before (adds-one mid new (get_or reached i 0) c inside e)

pub put_done : (reached : List ℕ) (c i : ℕ) (old new : List (List ℕ)) → length reached ≤ i → Adds (IsPutTo (take i reached) c) old new → Adds (IsPutTo reached c) old new
put_done reached c i old new all adds = subst (λ (l : List ℕ). Adds (IsPutTo l c) old new) (take_all i reached all) adds

-- ---- each of some blocks

pub onward_none : (onward : List (List ℕ)) (blocks : List ℕ) (ls : List (List ℕ)) → Adds (PutOnward onward (take 0 blocks)) ls ls
onward_none onward blocks ls = adds-none (PutOnward onward (take 0 blocks)) ls (λ b x u. none_taken blocks x u.one)

pub onward_next : (onward : List (List ℕ)) (blocks : List ℕ) (i : ℕ) (reached : List ℕ) (old mid new : List (List ℕ)) → i < length blocks → reached ≡ list_at onward (get_or blocks i 0)
    → Adds (PutOnward onward (take i blocks)) old mid → Adds (IsPutTo reached (get_or blocks i 0)) mid new → Adds (PutOnward onward (take (i + 1) blocks)) old new
onward_next onward blocks i reached old mid new h same before adds =
    let c = get_or blocks i 0 in
    adds-both (PutOnward onward (take i blocks)) (IsPutTo reached c) (PutOnward onward (take (i + 1) blocks)) old mid new
    (λ b x. (
      (λ u. ⊎_elim
          (λ l. inl (record { one = l; reaches = u.reaches }))
          (λ s. inr (record { reaches = subst (λ (l : List ℕ). Contains l b) (sym same) (subst (λ (y : ℕ). Contains (list_at onward y) b) (sym s) u.reaches); is = s }))
          ((taken blocks i h x).0 u.one)),
      λ u. elim u [
        | inl l ↦ record { one = (taken blocks i h x).1 (inl l.one); reaches = l.reaches }
        | inr r ↦ record { one = (taken blocks i h x).1 (inr r.is); reaches = subst (λ (y : ℕ). Contains (list_at onward y) b) r.is (subst (λ (l : List ℕ). Contains l b) same r.reaches) }
      ],
    ))
    before adds

pub onward_done : (onward : List (List ℕ)) (blocks : List ℕ) (i : ℕ) (old new : List (List ℕ)) → length blocks ≤ i → Adds (PutOnward onward (take i blocks)) old new → Adds (PutOnward onward blocks) old new
onward_done onward blocks i old new all adds = subst (λ (l : List ℕ). Adds (PutOnward onward l) old new) (take_all i blocks all) adds

-- ---- empty lists

pub empty_none : (blocks : List ℕ) (ls : List (List ℕ)) → LeavesOthers (take 0 blocks) ls ls
empty_none blocks ls = record { long = refl; left = λ b x has. has; empty = λ b x has is. none_taken blocks b is }

pub empty_next : (blocks : List ℕ) (i : ℕ) (old mid new : List (List ℕ)) → i < length blocks → get_or blocks i 0 < length mid → new ≡ set mid (get_or blocks i 0) [] → LeavesOthers (take i blocks) old mid
    → LeavesOthers (take (i + 1) blocks) old new
empty_next blocks i old mid new h inside e before = record {
  long = ap length e ∙ (length-set mid c [] ∙ before.long);
  left = λ b x has. ⊎_elim (λ s. absurd (here b x s has)) (λ d. before.left b x (there b x d has)) (cases_eq b c);
  empty = λ b x has is. ⊎_elim
      (λ s. here b x s has)
      (λ d. ⊎_elim (λ l. before.empty b x (there b x d has) l) (λ s. d (sym s)) ((taken blocks i h b).0 is))
      (cases_eq b c);
}
  where
    c : ℕ
    c = get_or blocks i 0

    here : (b x : ℕ) → b ≡ c → Contains (list_at new b) x → ⊥
    here b x s has =
        let none = subst (λ (l : List ℕ). Contains l x) (ap (list_at new) s ∙ (ap (λ (l : List (List ℕ)). list_at l c) e ∙ get_or-set_same mid c [] [] inside)) has in
        let m = none.1 in absurd (omega (arith, m))

    there : (b x : ℕ) → (b ≡ c → ⊥) → Contains (list_at new b) x → Contains (list_at mid b) x
    there b x d has = subst (λ (l : List ℕ). Contains l x) (ap (λ (l : List (List ℕ)). list_at l b) e ∙ get_or-set_other mid c b [] [] d) has

pub empty_done : (blocks : List ℕ) (i : ℕ) (old new : List (List ℕ)) → length blocks ≤ i → LeavesOthers (take i blocks) old new → LeavesOthers blocks old new
empty_done blocks i old new all leaves = subst (λ (l : List ℕ). LeavesOthers l old new) (take_all i blocks all) leaves
