-- Which members depend on a block: the lists as they are filled.
use Rattle.std.proofs.Common.{◌≡◌, ℕ, zero, suc, ◌+◌, ◌<◌, Bool, true, false, ◌||◌, cond, ◌↔◌, ⊎_elim, List, [], ◌∷◌, ◌++◌, length, take, get_or, set, Contains, eqb, refl, sym, ap, subst, ◌∙◌, arith, length-set, get_or-set_same, get_or-set_other, append-nil}
use Rattle.std.proofs.Math.ListN.{replicate}
use Rattle.std.specs.List.{IsDistinct}
use Rattle.std.specs.List.Sorted.{IsStrictlyIncreasing}
use Rattle.std.proofs.lemmas.Bool.{cases_eq, eq-eqb}
use Rattle.std.proofs.lemmas.List.Elements.{Contains-append_left, Contains-append_right, Contains-append_cases}
use Rattle.std.proofs.lemmas.Map.Keys.{IsDistinct-push}
use Rattle.std.proofs.lemmas.Cmp.{nat_eq_equiv}
use Rattle.sci_loop.specs.declared.table.DepTable.{DepTable}
use Rattle.sci_loop.specs.Table.{Needs, IsTable}
use Rattle.sci_loop.specs.Lists.{list_at}
use Rattle.sci_loop.proofs.Grounded.{IsDistinct-nil}
use Rattle.sci_loop.proofs.Places.{same_place}
use Rattle.sci_reaction.proofs.Rows.{Contains-has, has-Contains}
use Rattle.sci_judge.specs.Rounds.{IsPutTo, AreWaiting, needs_at, count_at}
use Rattle.sci_judge.proofs.Members.{has, hasnt, has_more, fresh_at, not_same, distinct_rising, needs_of_place, needs_member, place}

one_or_none : ℕ → Bool → List ℕ
one_or_none m t = cond t (m ∷ []) []

-- ---- one member

pub put_none : (m : ℕ) (ls : List (List ℕ)) → IsPutTo [] m ls ls
put_none m ls = record { long = refl; each = λ b. sym (append-nil (list_at ls b)) }

module _ (needs : List ℕ) (m i : ℕ) (old mid : List (List ℕ)) (rising : IsStrictlyIncreasing needs) (less : i < length needs)
    (before : IsPutTo (take i needs) m old mid) (within : get_or needs i 0 < length mid) where
  abbrev at : ℕ
  at = get_or needs i 0

  pub put_more : IsPutTo (take (i + 1) needs) m old (set mid at (list_at mid at ++ m ∷ []))
  put_more = record {
    long = length-set mid at (list_at mid at ++ m ∷ []) ∙ before.long;
    each = λ b. ⊎_elim (λ same. here b same) (λ other. there b other) (cases_eq b at);
  }
    where
      here : (b : ℕ) → b ≡ at → list_at (set mid at (list_at mid at ++ m ∷ [])) b ≡ list_at old b ++ cond (has (take (i + 1) needs) b) (m ∷ []) []
      here b same =
          let none : list_at mid at ≡ list_at old at =
          before.each at ∙ ap (λ t. list_at old at ++ cond t (m ∷ []) []) (hasnt (take i needs) at (fresh_at needs i (distinct_rising needs rising) less)) ∙ append-nil (list_at old at) in
          let on : has (take (i + 1) needs) b ≡ true =
          has_more needs i b less ∙ ap (λ t. has (take i needs) b || t) (eq-eqb b at same) ∙ or_on (has (take i needs) b) in
          ap (list_at (set mid at (list_at mid at ++ m ∷ []))) same ∙ get_or-set_same mid at (list_at mid at ++ m ∷ []) [] within
          ∙ ap (λ (xs : List ℕ). xs ++ m ∷ []) none ∙ ap (λ k. list_at old k ++ m ∷ []) (sym same)
          ∙ ap (λ t. list_at old b ++ cond t (m ∷ []) []) (sym on)
        where
          or_on : (x : Bool) → (x || true) ≡ true
          or_on true = refl
          or_on false = refl

      there : (b : ℕ) → (b ≡ at → ⊥) → list_at (set mid at (list_at mid at ++ m ∷ [])) b ≡ list_at old b ++ cond (has (take (i + 1) needs) b) (m ∷ []) []
      there b other =
          get_or-set_other mid at b (list_at mid at ++ m ∷ []) [] other ∙ before.each b
          ∙ ap (λ t. list_at old b ++ cond t (m ∷ []) [])
          (sym (has_more needs i b less ∙ ap (λ t. has (take i needs) b || t) (not_same b at other) ∙ or_off (has (take i needs) b)))
        where
          or_off : (x : Bool) → (x || false) ≡ x
          or_off true = refl
          or_off false = refl

-- ---- the members of a table

-- one of the first k members, which depends on b
pub record WaitsBelow (t : DepTable) (k b c : ℕ) : Type 0 where
  pub at : ℕ
  pub below : at < k
  pub is : get_or t.members.items at 0 ≡ c
  pub needs : Contains (needs_at t at) b

-- of the first k members those that depend on a block
pub record AreWaitingTo (t : DepTable) (k count : ℕ) (ls : List (List ℕ)) : Type 0 where
  pub long : length ls ≡ count
  pub once : (b : ℕ) → IsDistinct eqb (list_at ls b)
  pub exactly : (b c : ℕ) → Contains (list_at ls b) c ↔ WaitsBelow t k b c

list_at-empty : (n b : ℕ) → list_at {X = ℕ} (replicate n []) b ≡ []
list_at-empty zero b = refl
list_at-empty (suc n) zero = refl
list_at-empty (suc n) (suc b) = list_at-empty n b

pub waiting_begin : (t : DepTable) (count : ℕ) (ls : List (List ℕ)) → ls ≡ replicate count [] → length ls ≡ count → AreWaitingTo t 0 count ls
waiting_begin t count ls same long = record {
  long = long;
  once = λ b. subst (IsDistinct eqb) (sym (none b)) IsDistinct-nil;
  exactly = λ b c. ((λ h. absurd (empty b c h)), λ w. let l = w.below in absurd (omega (arith, l)));
}
  where
    none : (b : ℕ) → list_at ls b ≡ []
    none b = ap (λ xs. list_at xs b) same ∙ list_at-empty count b

    empty : (b c : ℕ) → Contains (list_at ls b) c → ⊥
    empty b c h = let l = (subst (λ xs. Contains xs c) (ap (λ xs. list_at xs b) same ∙ list_at-empty count b) h).1 in omega (arith, l)

pub waiting_more : (t : DepTable) (k count : ℕ) (old new : List (List ℕ)) → IsTable t → k < length t.members.items → AreWaitingTo t k count old
    → IsPutTo (needs_at t k) (get_or t.members.items k 0) old new → AreWaitingTo t (k + 1) count new
waiting_more t k count old new ok less before put = record {
  long = put.long ∙ before.long;
  once = λ b. subst (IsDistinct eqb) (sym (put.each b)) (once_more b (has (needs_at t k) b));
  exactly = λ b c. ((λ h. to b c (subst (λ xs. Contains xs c) (put.each b) h)), λ w. subst (λ xs. Contains xs c) (sym (put.each b)) (from b c w));
}
  where
    once_more : (b : ℕ) (u : Bool) → IsDistinct eqb (list_at old b ++ cond u (get_or t.members.items k 0 ∷ []) [])
    once_more b true =
        IsDistinct-push nat_eq_equiv (list_at old b) (get_or t.members.items k 0) (before.once b)
        (hasnt (list_at old b) (get_or t.members.items k 0)
        (λ h. let w = (before.exactly b (get_or t.members.items k 0)).0 h in let l = w.below in
        let same = same_place t.members.items w.at k ok.rising (omega (arith, l, less)) less w.is in omega (arith, l, same)))
    once_more b false = subst (IsDistinct eqb) (sym (append-nil (list_at old b))) (before.once b)

    later : (b c : ℕ) → WaitsBelow t k b c → WaitsBelow t (k + 1) b c
    later b c w = record { at = w.at; below = (let l = w.below in omega (arith, l)); is = w.is; needs = w.needs }

    put_here : (b c : ℕ) (u : Bool) → has (needs_at t k) b ≡ u → Contains (cond u (get_or t.members.items k 0 ∷ []) []) c → WaitsBelow t (k + 1) b c
    put_here b c true on (zero, l, e) = record { at = k; below = omega arith; is = e; needs = has-Contains (needs_at t k) b on }
    put_here b c true on (suc j, l, e) = absurd (omega (arith, l))
    put_here b c false off h = absurd (let l = h.1 in omega (arith, l))

    to : (b c : ℕ) → Contains (list_at old b ++ cond (has (needs_at t k) b) (get_or t.members.items k 0 ∷ []) []) c → WaitsBelow t (k + 1) b c
    to b c h =
        ⊎_elim (λ earlier. later b c ((before.exactly b c).0 earlier)) (λ new_one. put_here b c (has (needs_at t k) b) refl new_one)
        (Contains-append_cases (list_at old b) (cond (has (needs_at t k) b) (get_or t.members.items k 0 ∷ []) []) c h)

    here_put : (b c : ℕ) → Contains (needs_at t k) b → get_or t.members.items k 0 ≡ c → Contains (cond (has (needs_at t k) b) (get_or t.members.items k 0 ∷ []) []) c
    here_put b c h same =
        subst (λ u. Contains (cond u (get_or t.members.items k 0 ∷ []) []) c) (sym (Contains-has (needs_at t k) b h)) (0, omega arith, same)

    from : (b c : ℕ) → WaitsBelow t (k + 1) b c → Contains (list_at old b ++ cond (has (needs_at t k) b) (get_or t.members.items k 0 ∷ []) []) c
    from b c w =
        ⊎_elim
        (λ same. Contains-append_right (list_at old b) (cond (has (needs_at t k) b) (get_or t.members.items k 0 ∷ []) []) c
        (here_put b c (subst (λ j. Contains (needs_at t j) b) same w.needs) (ap (λ j. get_or t.members.items j 0) (sym same) ∙ w.is)))
        (λ other. Contains-append_left (list_at old b) (cond (has (needs_at t k) b) (get_or t.members.items k 0 ∷ []) []) c
        ((before.exactly b c).1 (record { at = w.at; below = (let l = w.below in omega (arith, l, other)); is = w.is; needs = w.needs })))
        (cases_eq w.at k)

pub waiting_all : (t : DepTable) (k count : ℕ) (ls : List (List ℕ)) → IsTable t → length t.members.items ≡ k → AreWaitingTo t k count ls → AreWaiting t count ls
waiting_all t k count ls ok all w = record {
  long = w.long;
  once = w.once;
  exactly = λ b c. (
    (λ h. let r = (w.exactly b c).0 h in (needs_of_place t ok r.at (let l = r.below in omega (arith, l, all)) c b r.is).0 r.needs),
    λ n. (w.exactly b c).1 (found b c (place t.members.items c (needs_member t c b n)) n),
  );
}
  where
    found : (b c : ℕ) → (i : ℕ) × (i < length t.members.items) × (get_or t.members.items i 0 ≡ c) → Needs t c b → WaitsBelow t k b c
    found b c p n = record { at = p.0; below = (let l = p.1 in omega (arith, l, all)); is = p.2; needs = (needs_of_place t ok p.0 p.1 c b p.2).1 n }

-- ---- the counts at first

pub counts_more : (t : DepTable) (k len : ℕ) (mid : List ℕ) → IsTable t → k < length t.members.items → ((i : ℕ) → i < k → count_at mid (get_or t.members.items i 0) ≡ length (needs_at t i))
    → get_or t.members.items k 0 < length mid → len ≡ length (needs_at t k)
    → (i : ℕ) → i < k + 1 → count_at (set mid (get_or t.members.items k 0) len) (get_or t.members.items i 0) ≡ length (needs_at t i)
counts_more t k len mid ok less before within same i below =
    ⊎_elim
    (λ here. ap (count_at (set mid (get_or t.members.items k 0) len)) (ap (λ j. get_or t.members.items j 0) here)
    ∙ get_or-set_same mid (get_or t.members.items k 0) len 0 within ∙ same ∙ ap (λ j. length (needs_at t j)) (sym here))
    (λ other. get_or-set_other mid (get_or t.members.items k 0) (get_or t.members.items i 0) len 0
    (λ e. other (same_place t.members.items i k ok.rising (omega (arith, below, less)) less e))
    ∙ before i (omega (arith, below, other)))
    (cases_eq i k)
