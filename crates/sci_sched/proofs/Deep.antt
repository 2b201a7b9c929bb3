-- Depths, one member after the other.
use Rattle.std.proofs.Common.{ℕ, zero, suc, ◌≡◌, ◌+◌, ◌<◌, ◌≤◌, ◌⊎◌, inl, inr, ⊎_elim, ◌∷◌, [], ◌++◌, List, length, get_or, set, take, max, cond, Contains, All, refl, sym, ap, subst, ◌∙◌, arith}
use Rattle.std.specs.Ordering.{is_lt, nat_cmp, ord_max}
use Rattle.std.specs.declared.cmp.Ordering.{Ordering}
use Rattle.std.specs.declared.cmp.Ordering.TheVariants.{Less, Equal, Greater}
use Rattle.std.proofs.lemmas.Cmp.{ranked}
use Rattle.std.proofs.lemmas.Bool.{cases_eq, cases_lt}
use Rattle.std.proofs.lemmas.List.{get_or_default, get_or-set_same, get_or-set_other, get_or-take, get_or_push, get_or_append_left, take_more, length-take-le, length-append}
use Rattle.std.proofs.lemmas.List.Elements.{All-contains}
use Rattle.std.proofs.lemmas.Option.{slice_get_within, get_or_from_slice_get}
use Rattle.sci_loop.specs.Depth.{ChainTo, IsDepth}
use Rattle.sci_loop.specs.declared.table.DepTable.{DepTable}
use Rattle.sci_loop.specs.Table.{Needs, IsTable, IsRow}
use Rattle.sci_loop.specs.Sorted.{IsOrder}
use Rattle.sci_sched.specs.Depths.{IsDeepest, HaveDepths, DepthsTo}
use Rattle.sci_sched.proofs.Distinct.{apart}

-- ---- the greatest depth of some blocks

member_push : (xs : List ℕ) (y b : ℕ) → Contains (xs ++ y ∷ []) b → Contains xs b ⊎ (y ≡ b)
member_push xs y b h =
    let more = length-append xs (y ∷ []) in
    ⊎_elim (λ l. inl (h.0, l, sym (get_or_append_left xs (y ∷ []) b h.0 l) ∙ h.2))
    (λ ge. let same : length xs ≡ h.0 = omega (arith, h.1, more, ge) in inr (sym (get_or_push xs y b h.0 same) ∙ h.2))
    (cases_lt h.0 (length xs))

push_member : (xs : List ℕ) (y b : ℕ) → Contains xs b → Contains (xs ++ y ∷ []) b
push_member xs y b h = let more = length-append xs (y ∷ []) in (h.0, omega (arith, h.1, more), get_or_append_left xs (y ∷ []) b h.0 h.1 ∙ h.2)

push_last : (xs : List ℕ) (y : ℕ) → Contains (xs ++ y ∷ []) y
push_last xs y = let more = length-append xs (y ∷ []) in let z : length xs ≡ length xs = omega arith in (length xs, omega (arith, more), get_or_push xs y y (length xs) z)

pub deepest_push : (depths blocks : List ℕ) (y d : ℕ) → IsDeepest depths blocks d → IsDeepest depths (blocks ++ y ∷ []) (max d (get_or depths y 0))
deepest_push depths blocks y d is =
    let e = get_or depths y 0 in
    record {
      most = λ b h.
          ⊎_elim (λ old. let l = is.most b old in let z : get_or depths b 0 ≤ max d e = omega (arith, l) in z)
          (λ new. subst (λ c. get_or depths c 0 ≤ max d e) new (let z : e ≤ max d e = omega arith in z))
          (member_push blocks y b h);
      some =
          ⊎_elim
          (λ less. let z : e ≡ max d e = omega (arith, less) in inr (record { block = y; one = push_last blocks y; depth = z }))
          (λ other. let z : d ≡ max d e = omega (arith, other) in
          ⊎_elim (λ none. inl (sym z ∙ none)) (λ r. inr (record { block = r.block; one = push_member blocks y r.block r.one; depth = r.depth ∙ z })) is.some)
          (cases_lt d e);
    }

max_by : (a b : ℕ) (o : Ordering) → o ≡ nat_cmp b a → cond (is_lt o) a b ≡ max a b
max_by a b Less e = let l = ranked b a Less e in omega (arith, l)
max_by a b Equal e = let l = ranked b a Equal e in omega (arith, l)
max_by a b Greater e = let l = ranked b a Greater e in omega (arith, l)

max_is : (a b : ℕ) → ord_max nat_cmp a b ≡ max a b
max_is a b = max_by a b (nat_cmp b a) refl

pub deepest_step : (depths blocks : List ℕ) (i d m : ℕ) → i < length blocks → IsDeepest depths (take i blocks) d → m ≡ ord_max nat_cmp d (get_or depths (get_or blocks i 0) 0) → IsDeepest depths (take (i + 1) blocks) m
deepest_step depths blocks i d m h is e =
    subst (λ xs. IsDeepest depths xs m) (sym (take_more blocks i 0 h)) (subst (IsDeepest depths (take i blocks ++ get_or blocks i 0 ∷ [])) (sym (e ∙ max_is d (get_or depths (get_or blocks i 0) 0))) (deepest_push depths (take i blocks) (get_or blocks i 0) d is))

pub deepest_low : (depths blocks : List ℕ) (d k : ℕ) → IsDeepest depths blocks d → ((b : ℕ) → Contains blocks b → get_or depths b 0 ≤ k) → d ≤ k
deepest_low depths blocks d k is low = ⊎_elim (λ none. omega (arith, none)) (λ r. let l = low r.block r.one in let e = r.depth in omega (arith, l, e)) is.some

-- ---- the depth of one more

module _ (needs : ℕ → ℕ → Type 0) (depths blocks : List ℕ) (c d : ℕ) (to : (b : ℕ) → Contains blocks b → needs c b) (from : (b : ℕ) → needs c b → Contains blocks b)
    (known : (b : ℕ) → Contains blocks b → IsDepth needs b (get_or depths b 0)) (is : IsDeepest depths blocks d) where
  chain : ChainTo needs d c
  chain =
      ⊎_elim (λ none. subst (λ k. ChainTo needs k c) (sym none) tt)
      (λ r.
      let i = known r.block r.one in let e = r.depth in let f = i.1 in
      let z : suc i.0 ≡ d = omega (arith, e, f) in
      subst (λ k. ChainTo needs k c) z (r.block, to r.block r.one, i.2))
      is.some

  longest : (m : ℕ) → ChainTo needs m c → m ≤ d
  longest zero ch = omega arith
  longest (suc m) ch =
      let has = from ch.0 ch.1 in let i = known ch.0 has in
      let short = i.3 m ch.2 in let f = i.1 in let l = is.most ch.0 has in
      omega (arith, short, f, l)

  pub depth_more : IsDepth needs c (d + 1)
  depth_more = (d, refl, chain, longest)

-- ---- the loop

module _ (t : DepTable) (order depths : List ℕ) (k : ℕ) (s : DepthsTo t order k depths) (h : k < length order) where
  -- what stands among the first k
  before : (P : ℕ → Type 0) → ((m : ℕ) → m < k → P (get_or order m 0)) → (b : ℕ) → Contains (take k order) b → P b
  before P each b has =
      let short = length-take-le k order (omega (arith, h)) in
      let l : has.0 < k = omega (arith, has.1, short) in
      let same : get_or order has.0 0 ≡ b = get_or_default order has.0 0 b (omega (arith, l, h)) ∙ (sym (get_or-take k order has.0 b l) ∙ has.2) in
      subst P same (each has.0 l)

  -- has its depth, which is low
  known_before : (b : ℕ) → Contains (take k order) b → IsDepth (Needs t) b (get_or depths b 0)
  known_before = before (λ c. IsDepth (Needs t) c (get_or depths c 0)) s.known

  low_before : (b : ℕ) → Contains (take k order) b → get_or depths b 0 ≤ k
  low_before = before (λ c. get_or depths c 0 ≤ k) s.low

  -- so the greatest depth of the next one's needs is low
  pub next_low : (c d : ℕ) (blocks : List ℕ) → IsOrder t order → get_or order k 0 ≡ c → ((b : ℕ) → (Contains blocks b → Needs t c b) × (Needs t c b → Contains blocks b)) → IsDeepest depths blocks d → d ≤ k
  next_low c d blocks ok here needs is =
      deepest_low depths blocks d k is (λ b has. low_before b (ok.after k b h (subst (λ x. Needs t x b) (sym here) ((needs b).0 has))))

pub depths_more : (t : DepTable) (order depths blocks : List ℕ) (k c d : ℕ) → IsOrder t order → DepthsTo t order k depths → k < length order → get_or order k 0 ≡ c → c < length depths →
    ((b : ℕ) → (Contains blocks b → Needs t c b) × (Needs t c b → Contains blocks b)) → IsDeepest depths blocks d → DepthsTo t order (k + 1) (set depths c (d + 1))
depths_more t order depths blocks k c d ok s h here within needs is =
    let low = next_low t order depths k s h c d blocks ok here needs is in
    let deep : IsDepth (Needs t) c (d + 1) =
    depth_more (Needs t) depths blocks c d (λ b has. (needs b).0 has) (λ b n. (needs b).1 n)
    (λ b has. known_before t order depths k s h b (ok.after k b h (subst (λ x. Needs t x b) (sym here) ((needs b).0 has)))) is in
    record {
      known = λ m l.
          ⊎_elim
          (λ same. subst (λ x. IsDepth (Needs t) x (get_or (set depths c (d + 1)) x 0)) (sym (ap (λ i. get_or order i 0) same ∙ here))
          (subst (IsDepth (Needs t) c) (sym (get_or-set_same depths c (d + 1) 0 within)) deep))
          (λ other.
          let less : m < k = omega (arith, l, other) in
          let differ : get_or order m 0 ≡ c → ⊥ = λ e. apart order ok.once m k less h (e ∙ sym here) in
          subst (IsDepth (Needs t) (get_or order m 0)) (sym (get_or-set_other depths c (get_or order m 0) (d + 1) 0 differ)) (s.known m less))
          (cases_eq m k);
      low = λ m l.
          let x = get_or order m 0 in
          ⊎_elim
          (λ same. let e : get_or (set depths c (d + 1)) x 0 ≡ d + 1 = ap (λ i. get_or (set depths c (d + 1)) i 0) same ∙ get_or-set_same depths c (d + 1) 0 within in omega (arith, e, low))
          (λ other.
          let e : get_or (set depths c (d + 1)) x 0 ≡ get_or depths x 0 = get_or-set_other depths c x (d + 1) 0 other in
          ⊎_elim (λ last. absurd (other (ap (λ i. get_or order i 0) last ∙ here))) (λ earlier. let w = s.low m (omega (arith, l, earlier)) in omega (arith, e, w)) (cases_eq m k))
          (cases_eq x c);
    }

pub depths_all : (t : DepTable) (order depths : List ℕ) (k : ℕ) → IsOrder t order → DepthsTo t order k depths → length order ≤ k → HaveDepths t depths
depths_all t order depths k ok s all c has =
    let at = (ok.members c).1 has in
    subst (λ x. IsDepth (Needs t) x (get_or depths x 0)) (get_or_default order at.0 0 c at.1 ∙ at.2) (s.known at.0 (omega (arith, all, at.1)))

-- ---- members

pub member_in : (t : DepTable) (order : List ℕ) (k : ℕ) → IsOrder t order → k < length order → Contains t.members.items (get_or order k 0)
member_in t order k ok h = (ok.members (get_or order k 0)).0 (k, h, get_or_default order k (get_or order k 0) 0 h)

-- what a member needs is a member
pub need_member : (t : DepTable) → IsTable t → (c b : ℕ) → Needs t c b → Contains t.members.items b
need_member t ok c b n =
    let fits : IsRow t.members.items n.1 = All-contains (IsRow t.members.items) t.needs.items n.1 ok.each (n.0, slice_get_within t.needs.items n.0 n.1 n.3, get_or_from_slice_get t.needs.items n.0 n.1 n.1 n.3) in
    All-contains (Contains t.members.items) n.1.items b fits.closed n.4

pub needs_below : (t : DepTable) (size c : ℕ) (blocks : List ℕ) → IsTable t → All (λ b. b < size) t.members.items → ((b : ℕ) → (Contains blocks b → Needs t c b) × (Needs t c b → Contains blocks b)) →
    All (λ b. b < size) blocks
needs_below t size c blocks ok below needs k d h =
    let b = get_or blocks k d in
    All-contains (λ x. x < size) t.members.items b below (need_member t ok c b ((needs b).0 (k, h, get_or_default blocks k b d h)))
