-- Blocks sorted by depth and number.
use Rattle.std.proofs.Common.{ℕ, ◌≡◌, ◌+◌, ◌<◌, ◌≤◌, ◌⊎◌, inl, inr, ⊎_elim, true, false, List, length, get_or, map, Contains, AllPairs, All, ◌↔◌, sym, ap, subst, subst₂, ◌∙◌, refl, [], ◌∷◌, arith, true≢false}
use Rattle.std.specs.Prelude.{eqb}
use Rattle.std.specs.List.{IsDistinct}
use Rattle.std.specs.List.Sorted.{IsPermutation, IsSortedBy, IsStrictlyIncreasing}
use Rattle.std.specs.Ordering.{is_lt, nat_cmp, ordering_then}
use Rattle.std.specs.declared.cmp.Ordering.{Ordering}
use Rattle.std.specs.declared.cmp.Ordering.TheVariants.{Less, Equal, Greater}
use Rattle.std.proofs.lemmas.Bool.{cases_eq, cases_Bool, eqb-true}
use Rattle.std.proofs.lemmas.Bool.Decides.{Decides-eqb}
use Rattle.std.proofs.lemmas.Cmp.{ranked}
use Rattle.std.proofs.lemmas.List.{get_or-map, length-map}
use Rattle.std.proofs.lemmas.List.Kept.{AllPairs-from_increasing}
use Rattle.std.proofs.lemmas.List.Sorted.{IsPermutation-map, IsPermutation-sym, Contains-permutation, All-permutation}
use Rattle.std.proofs.lemmas.Map.Keys.{ge_from_not_lt, IsDistinct-IsPermutation}
use Rattle.std.proofs.lemmas.Map.Made.{IsDistinct-from_AllPairs}
use Rattle.sci_sched.specs.declared.ranks.Rank.{Rank}
use Rattle.sci_sched.specs.Depths.{rank, IsBefore}
use Rattle.sci_sched.proofs.Distinct.{apart, pairs_from_steps}

not_less : (a b c d : ℕ) (o : Ordering) → o ≡ nat_cmp b a → is_lt (ordering_then o (nat_cmp d c)) ≡ false → (a < b) ⊎ ((a ≡ b) × (c ≤ d))
not_less a b c d Less e h = absurd (true≢false h)
not_less a b c d Equal e h = inr (sym (ranked b a Equal e), ge_from_not_lt d c h)
not_less a b c d Greater e h = inl (ranked b a Greater e)

-- what the derived order compares
abbrev pub rank_cmp : Rank → Rank → Ordering
rank_cmp x y = ordering_then (nat_cmp x.depth y.depth) (nat_cmp x.block y.block)

map-id : (depths xs : List ℕ) → map (λ (r : Rank). r.block) (map (rank depths) xs) ≡ xs
map-id depths [] = refl
map-id depths (x ∷ xs) = ap (λ ys. x ∷ ys) (map-id depths xs)

eqb-flip : (x y : ℕ) → eqb x y ≡ eqb y x
eqb-flip x y =
    ⊎_elim (λ a. ⊎_elim (λ b. a ∙ sym b) (λ b. absurd (true≢false (sym (subst (λ z. eqb z x ≡ true) (eqb-true x y a) (subst (λ z. eqb x z ≡ true) (sym (eqb-true x y a)) a)) ∙ b))) (cases_Bool (eqb y x)))
    (λ a. ⊎_elim (λ b. absurd (true≢false (sym (subst (λ z. eqb z y ≡ true) (eqb-true y x b) (subst (λ z. eqb y z ≡ true) (sym (eqb-true y x b)) b)) ∙ a))) (λ b. a ∙ sym b) (cases_Bool (eqb y x)))
    (cases_Bool (eqb x y))

before_trans : (depths : List ℕ) (a b c : ℕ) → IsBefore depths a b → IsBefore depths b c → IsBefore depths a c
before_trans depths a b c h k =
    ⊎_elim
    (λ l. ⊎_elim (λ m. inl (omega (arith, l, m))) (λ e. inl (omega (arith, l, e.0))) k)
    (λ e. ⊎_elim (λ m. inl (omega (arith, e.0, m))) (λ f. inr (e.0 ∙ f.0, omega (arith, e.1, f.1))) k)
    h

module _ (depths blocks : List ℕ) (rs : List Rank) (vs : List ℕ) (rising : IsStrictlyIncreasing blocks) (moved : IsPermutation (map (rank depths) blocks) rs) (named : vs ≡ map (λ (r : Rank). r.block) rs) where
  same_members : IsPermutation blocks vs
  same_members =
      subst (λ ys. IsPermutation blocks ys) (sym named)
      (subst (λ xs. IsPermutation xs (map (λ (r : Rank). r.block) rs)) (map-id depths blocks) (IsPermutation-map (λ (r : Rank). r.block) (map (rank depths) blocks) rs moved))

  pub ranked_exactly : (b : ℕ) → Contains vs b ↔ Contains blocks b
  ranked_exactly b = (
    λ h. Contains-permutation vs blocks b (IsPermutation-sym blocks vs same_members) h,
    λ h. Contains-permutation blocks vs b same_members h,
  )

  distinct : IsDistinct eqb vs
  distinct =
      IsDistinct-IsPermutation eqb eqb-flip blocks vs same_members
      (IsDistinct-from_AllPairs Decides-eqb blocks (λ i j d l h e. let less = AllPairs-from_increasing blocks rising i j d l h in omega (arith, less, e)))

  -- each rank is that of its block
  ranks_are : All (λ (r : Rank). r ≡ rank depths r.block) rs
  ranks_are = All-permutation (λ (r : Rank). r ≡ rank depths r.block) (map (rank depths) blocks) rs moved (made blocks)
    where
      made : (xs : List ℕ) → All (λ (r : Rank). r ≡ rank depths r.block) (map (rank depths) xs)
      made xs k d h =
          let l : k < length xs = subst (λ m. k < m) (length-map xs (rank depths)) h in
          let e = get_or-map (rank depths) xs k 0 d l in
          e ∙ ap (λ (r : Rank). rank depths r.block) (sym e)

  pub ranked_ordered : IsSortedBy (λ x y. is_lt (rank_cmp x y)) rs → AllPairs (IsBefore depths) vs
  ranked_ordered sorted = pairs_from_steps (IsBefore depths) (before_trans depths) vs step
    where
      long : length vs ≡ length rs
      long = ap length named ∙ length-map rs (λ (r : Rank). r.block)

      at : (k d : ℕ) (x : Rank) → k < length rs → get_or vs k d ≡ (get_or rs k x).block
      at k d x h = ap (λ ys. get_or ys k d) named ∙ get_or-map (λ (r : Rank). r.block) rs k x d h

      step : (k d : ℕ) → k + 1 < length vs → IsBefore depths (get_or vs k d) (get_or vs (k + 1) d)
      step k d h =
          let d' : Rank = rank depths d in
          let l : k + 1 < length rs = omega (arith, long, h) in
          let here : k < length rs = omega (arith, l) in
          let x = get_or rs k d' in let y = get_or rs (k + 1) d' in
          let low = sorted k d' (let z : 0 ≤ k = omega arith in z) l in
          let order = not_less x.depth y.depth x.block y.block _ refl low in
          let ex : x.depth ≡ get_or depths x.block 0 = ap (λ (r : Rank). r.depth) (ranks_are k d' here) in
          let ey : y.depth ≡ get_or depths y.block 0 = ap (λ (r : Rank). r.depth) (ranks_are (k + 1) d' l) in
          let differ : x.block ≡ y.block → ⊥ = λ e.
          apart vs distinct k (k + 1) (omega arith) h (at k 0 d' here ∙ (e ∙ sym (at (k + 1) 0 d' l))) in
          let before : IsBefore depths x.block y.block =
          ⊎_elim (λ less. inl (omega (arith, less, ex, ey)))
          (λ e. inr (sym ex ∙ (e.0 ∙ ey), ⊎_elim (λ same. absurd (differ same)) (λ other. let le = e.1 in omega (arith, le, other)) (cases_eq x.block y.block))) order in
          subst₂ (IsBefore depths) (sym (at k d d' here)) (sym (at (k + 1) d d' l)) before
