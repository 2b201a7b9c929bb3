-- The table of a source.
use Rattle.std.proofs.Common.{◌≡◌, ◌<◌, ◌≤◌, ◌+◌, ◌↔◌, ◌∙◌, ℕ, List, ◌∷◌, [], ◌++◌, inl, inr, ⊎_elim, sym, ap, subst, arith, length, get_or, take, length-append, Vec}
use Rattle.std.specs.Prelude.{Contains, All, Some, slice_get}
use Rattle.std.specs.List.Sorted.{IsStrictlyIncreasing}
use Rattle.std.specs.declared.alloc.Global.{Global}
use Rattle.std.proofs.lemmas.Bool.{cases_eq}
use Rattle.std.proofs.lemmas.Grind.{get_or_default_zero}
use Rattle.std.proofs.lemmas.List.{get_or-take, length-take-le, take_more, length-map, get_or-map, get_or_append_left, get_or_push}
use Rattle.std.proofs.lemmas.List.Elements.{All-contains, Contains-append_left, Contains-push, Contains-push_cases, Contains-get_or}
use Rattle.std.proofs.lemmas.List.Kept.{AllPairs-from_increasing}
use Rattle.std.proofs.lemmas.Option.{slice_get-get_or, slice_get_within, slice_get_cases, get_or_from_slice_get}
use Rattle.sci_loop.specs.Lists.{plain, list_at}
use Rattle.sci_loop.specs.declared.table.DepTable.{DepTable}
use Rattle.sci_loop.specs.Table.{Needs, IsRow}
use Rattle.sci_net.specs.declared.Source.{Source}
use Rattle.sci_net.specs.Parts.{Parts, IsBlock, numbered}
use Rattle.sci_net.specs.Net.{IsNet}
use Rattle.sci_reaction.specs.Active.{Possible}
use Rattle.sci_reaction.specs.Depends.{Depends}
use Rattle.sci_reaction.proofs.Spreading.{Spread-block}
use Rattle.sci_inherit.proofs.Gathering.{reaches_output}
use Rattle.sci_dep.specs.Tables.{AreWaits, ArePossible, IsTableOf}
use Rattle.sci_dep.specs.Building.{KeepsFound, NeedsTo, AreNeeds}

-- ---- numbers that rise

rise_push : (xs : List ℕ) (b : ℕ) → IsStrictlyIncreasing xs → ((x : ℕ) → Contains xs x → x < b) → IsStrictlyIncreasing (xs ++ b ∷ [])
rise_push xs b rising below k h = ⊎_elim
    (λ s. subst (λ (j : ℕ). get_or (xs ++ b ∷ []) k 0 < j) (sym (get_or_push xs b 0 (k + 1) (sym s)))
    (subst (λ (j : ℕ). j < b) (sym (get_or_append_left xs (b ∷ []) 0 k (omega (arith, s)))) (below (get_or xs k 0) (Contains-get_or xs k 0 (omega (arith, s))))))
    (λ d. let long = length-append xs (b ∷ []) in let inside : k + 1 < length xs = omega (arith, h, long, d) in
    subst (λ (j : ℕ). get_or (xs ++ b ∷ []) k 0 < j) (sym (get_or_append_left xs (b ∷ []) 0 (k + 1) inside))
    (subst (λ (j : ℕ). j < get_or xs (k + 1) 0) (sym (get_or_append_left xs (b ∷ []) 0 k (omega (arith, inside)))) (rising k inside)))
    (cases_eq (k + 1) (length xs))

-- ---- those of some numbers that are found

-- the first numbers of a list that rises are less than the next
less_than_next : (xs : List ℕ) (i : ℕ) → IsStrictlyIncreasing xs → i < length xs → (x : ℕ) → Contains (take i xs) x → x < get_or xs i 0
less_than_next xs i rising h x (k, l, e) =
    let long = length-take-le i xs (omega (arith, h)) in
    let below : k < i = omega (arith, l, long) in
    subst (λ (y : ℕ). y < get_or xs i 0) (sym (get_or-take i xs k x below) ∙ e) (subst (λ (y : ℕ). y < get_or xs i 0) (sym (get_or_default_zero xs k x (omega (arith, below, h)))) (AllPairs-from_increasing xs rising k i 0 below h))

pub keeps_more : (found numbers old new : List ℕ) (i : ℕ) → IsStrictlyIncreasing numbers → i < length numbers → Contains found (get_or numbers i 0) → new ≡ old ++ get_or numbers i 0 ∷ []
    → KeepsFound found (take i numbers) old → KeepsFound found (take (i + 1) numbers) new
keeps_more found numbers old new i rising h here e before = record {
  rising = subst IsStrictlyIncreasing (sym e) (rise_push old x before.rising (λ y o. less_than_next numbers i rising h y ((before.exactly y).0 o).1));
  exactly = λ b. (to b, from b);
}
  where
    x : ℕ
    x = get_or numbers i 0

    more : take (i + 1) numbers ≡ take i numbers ++ x ∷ []
    more = take_more numbers i 0 h

    to : (b : ℕ) → Contains new b → Contains found b × Contains (take (i + 1) numbers) b
    to b k = elim (Contains-push_cases old x b (subst (λ (l : List ℕ). Contains l b) e k)) [
      | inl o ↦ let p = (before.exactly b).0 o in (p.0, subst (λ (l : List ℕ). Contains l b) (sym more) (Contains-append_left (take i numbers) (x ∷ []) b p.1))
      | inr s ↦ (subst (Contains found) s here, subst (λ (l : List ℕ). Contains l b) (sym more) (subst (Contains (take i numbers ++ x ∷ [])) s (Contains-push (take i numbers) x)))
    ]

    from : (b : ℕ) → Contains found b × Contains (take (i + 1) numbers) b → Contains new b
    from b k = subst (λ (l : List ℕ). Contains l b) (sym e) (elim (Contains-push_cases (take i numbers) x b (subst (λ (l : List ℕ). Contains l b) more k.1)) [
      | inl t ↦ Contains-append_left old (x ∷ []) b ((before.exactly b).1 (k.0, t))
      | inr s ↦ subst (Contains (old ++ x ∷ [])) s (Contains-push old x)
    ])

pub keeps_other : (found numbers kept : List ℕ) (i : ℕ) → i < length numbers → (Contains found (get_or numbers i 0) → ⊥) → KeepsFound found (take i numbers) kept
    → KeepsFound found (take (i + 1) numbers) kept
keeps_other found numbers kept i h other before = record {
  rising = before.rising;
  exactly = λ b. (to b, from b);
}
  where
    x : ℕ
    x = get_or numbers i 0

    more : take (i + 1) numbers ≡ take i numbers ++ x ∷ []
    more = take_more numbers i 0 h

    to : (b : ℕ) → Contains kept b → Contains found b × Contains (take (i + 1) numbers) b
    to b k = let p = (before.exactly b).0 k in (p.0, subst (λ (l : List ℕ). Contains l b) (sym more) (Contains-append_left (take i numbers) (x ∷ []) b p.1))

    from : (b : ℕ) → Contains found b × Contains (take (i + 1) numbers) b → Contains kept b
    from b k = elim (Contains-push_cases (take i numbers) x b (subst (λ (l : List ℕ). Contains l b) more k.1)) [
      | inl t ↦ (before.exactly b).1 (k.0, t)
      | inr s ↦ absurd (other (subst (Contains found) (sym s) k.0))
    ]

-- ---- the needs of all members

pub needs_next : (w : List (List ℕ)) (found members : List ℕ) (k : ℕ) (old new : List (List ℕ)) (xs : List ℕ) → new ≡ old ++ xs ∷ [] → KeepsFound found (numbered [] w (get_or members k 0)) xs
    → NeedsTo w found members k old → NeedsTo w found members (k + 1) new
needs_next w found members k old new xs e here before = record {
  long = ap length e ∙ (length-append old (xs ∷ []) ∙ ap (λ (m : ℕ). m + 1) before.long);
  each = λ i h. ⊎_elim
      (λ s. subst (Is i) (sym (ap (λ (l : List (List ℕ)). list_at l i) e ∙ get_or_push old xs [] i (before.long ∙ sym s))) (subst (λ (j : ℕ). Is j xs) (sym s) here))
      (λ d. subst (Is i) (sym (ap (λ (l : List (List ℕ)). list_at l i) e ∙ get_or_append_left old (xs ∷ []) [] i (let l = before.long in omega (arith, h, d, l)))) (before.each i (omega (arith, h, d))))
      (cases_eq i k);
}
  where
    Is : ℕ → List ℕ → Type 0
    Is i ys = KeepsFound found (numbered [] w (get_or members i 0)) ys

-- ---- what a block waits for are blocks

pub waits_inside : (n : Parts) (w : List (List ℕ)) (c m : ℕ) (xs : List ℕ) → AreWaits n w → IsNet n → xs ≡ numbered [] w c → m ≡ length n.specs + 1 → All (λ b. b < m) xs
waits_inside n w c m xs waits net is count j d h =
    let b : ℕ = get_or xs j d in
    let has : Contains (numbered [] w c) b = subst (λ (l : List ℕ). Contains l b) is (Contains-get_or xs j d h) in
    elim ((waits.exactly c b).0 has) [
      | inl s ↦
          let o = net.wired.wires_lead c s.input s.within in
          let l = subst (λ (y : ℕ). y ≤ length n.specs) s.from o.block.most in omega (arith, l, count)
      | inr k ↦ let l = (reaches_output n (record { block = b; port = k.branch }) net k.reaches).block.most in omega (arith, l, count)
    ]

-- what is found are blocks
pub found_blocks : (n : Parts) (s : Source) (found : List ℕ) → ArePossible n s found → All (IsBlock n) found
found_blocks n s found possible j d h =
    let b : ℕ = get_or found j d in
    Spread-block n s _ ((possible b).0 (Contains-get_or found j d h))

-- and so are the members, which are what is found
pub members_blocks : (n : Parts) (found members : List ℕ) → All (IsBlock n) found → ((b : ℕ) → Contains members b ↔ Contains found b) → All (IsBlock n) members
members_blocks n found members blocks exactly j d h =
    let b : ℕ = get_or members j d in
    All-contains (IsBlock n) found b blocks ((exactly b).0 (Contains-get_or members j d h))

-- ---- the whole table

module _ (n : Parts) (s : Source) (w : List (List ℕ)) (found : List ℕ) (t : DepTable) (waits : AreWaits n w) (possible : ArePossible n s found) (rising : IsStrictlyIncreasing t.members.items)
    (exactly : (b : ℕ) → Contains t.members.items b ↔ Contains found b) (needs : AreNeeds w found t.members.items (plain t.needs.items)) where
  members : (b : ℕ) → Contains t.members.items b ↔ Possible n s b
  members b = ((λ h. (possible b).0 ((exactly b).0 h)), λ p. (exactly b).1 ((possible b).1 p))

  long : length t.needs.items ≡ length t.members.items
  long = sym (length-map t.needs.items (λ (v : Vec ℕ Global). v.items)) ∙ needs.long

  -- the needs of the member at a place
  row_at : (i : ℕ) (d : Vec ℕ Global) → i < length t.needs.items → KeepsFound found (numbered [] w (get_or t.members.items i 0)) (get_or t.needs.items i d).items
  row_at i d h =
      subst (KeepsFound found (numbered [] w (get_or t.members.items i 0))) (get_or-map (λ (v : Vec ℕ Global). v.items) t.needs.items i d [] h) (needs.each i (omega (arith, h, long)))

  row : (i c : ℕ) (v : Vec ℕ Global) → slice_get t.members.items i ≡ Some c → slice_get t.needs.items i ≡ Some v → KeepsFound found (numbered [] w c) v.items
  row i c v hm hn =
      subst (λ (j : ℕ). KeepsFound found (numbered [] w j) v.items) (get_or_from_slice_get t.members.items i c 0 hm)
      (subst (λ (u : Vec ℕ Global). KeepsFound found (numbered [] w (get_or t.members.items i 0)) u.items) (get_or_from_slice_get t.needs.items i v v hn)
      (row_at i v (slice_get_within t.needs.items i v hn)))

  each : All (IsRow t.members.items) t.needs.items
  each i d h =
      let k = row_at i d h in
      let xs : List ℕ = (get_or t.needs.items i d).items in
      record {
        rising = k.rising;
        closed = λ j f g. (exactly (get_or xs j f)).1 ((k.exactly (get_or xs j f)).0 (Contains-get_or xs j f g)).0;
      }

  needs_to : (c b : ℕ) → Needs t c b → Depends n s c b
  needs_to c b (i, v, hm, hn, has) =
      let both = ((row i c v hm hn).exactly b).0 has in
      let at : get_or t.members.items i c ≡ c = get_or_from_slice_get t.members.items i c c hm in
      let within = slice_get_within t.members.items i c hm in
      record { possible = (members c).0 (i, within, at); on_possible = (possible b).0 both.0; waits = (waits.exactly c b).0 both.1 }

  needs_at : (c b i : ℕ) → Depends n s c b → slice_get t.members.items i ≡ Some c → i < length t.needs.items → Needs t c b
  needs_at c b i d hm inside = elim (slice_get_cases t.needs.items i).1 [
    | inl r ↦ (i, r.0, hm, r.2, ((row i c r.0 hm r.2).exactly b).1 ((possible b).1 d.on_possible, (waits.exactly c b).1 d.waits))
    | inr p ↦ let l = p.0 in absurd (omega (arith, l, inside))
  ]

  needs_from : (c b : ℕ) → Depends n s c b → Needs t c b
  needs_from c b d =
      let place = (members c).1 d.possible in
      let l = place.1 in
      needs_at c b place.0 d (slice_get-get_or t.members.items place.0 c place.1 ∙ ap Some place.2) (omega (arith, l, long))

  pub table_is : IsTableOf n s t
  table_is = record {
    well_formed = record { rising = rising; rows = long; each = each };
    members = members;
    needs = λ c b. (needs_to c b, needs_from c b);
  }
