-- The blocks of some entries by number, and which of them are guarded.
use Rattle.std.proofs.Common.{◌≡◌, ℕ, zero, suc, ◌<◌, ◌≢◌, true, false, ⊎_elim, List, [], ◌∷◌, length, get_or, map, All, AllPairs, Contains, ◌↔◌, refl, sym, ap, subst, ◌∙◌, arith, eqb}
use Rattle.std.specs.List.{IsDistinct, filter}
use Rattle.std.specs.List.Sorted.{IsPermutation, IsSorted}
use Rattle.std.specs.Cmp.{IsTotalOrder, bool_cmp_total}
use Rattle.std.specs.Ordering.{is_lt, nat_cmp, bool_cmp, ordering_then}
use Rattle.std.specs.declared.cmp.Ordering.{Ordering}
use Rattle.std.proofs.lemmas.Bool.{cases_Bool}
use Rattle.std.proofs.lemmas.Bool.Decides.{Decides-eqb}
use Rattle.std.proofs.lemmas.Cmp.{nat_cmp_total, on_total, then_total, nat_eq_equiv}
use Rattle.std.proofs.lemmas.List.{get_or-map, length-map}
use Rattle.std.proofs.lemmas.List.Elements.{All-map}
use Rattle.std.proofs.lemmas.List.Sorted.{IsPermutation-map, IsPermutation-sym, All-permutation, Contains-permutation, sorted_far, ranks_by}
use Rattle.std.proofs.lemmas.Map.Keys.{IsDistinct-IsPermutation}
use Rattle.std.proofs.lemmas.Map.Made.{AllPairs-from_IsDistinct}
use Rattle.sci_reaction.specs.declared.entry.Entry.{Entry}
use Rattle.sci_reaction.specs.Schedule.{blocks_of}
use Rattle.sci_reaction.specs.Kept.{entries_of}
use Rattle.sci_reaction.proofs.Lists.{Contains-cons, cons-Contains}
use Rattle.sci_store.specs.declared.row.Member.{Member}
use Rattle.sci_store.specs.Rows.{is_guarded, guarded_blocks, AreByNumber}
use Rattle.sci_store.proofs.Choices.{seen_if, seen_unless}
use Rattle.sci_store.proofs.Ranking.{by_number}

abbrev pub member_of : Entry → Member
member_of e = record { block = e.block; guarded = is_guarded e }

-- what the derived order compares
abbrev pub member_cmp : Member → Member → Ordering
member_cmp x y = ordering_then (nat_cmp x.block y.block) (bool_cmp x.guarded y.guarded)

member_total : IsTotalOrder member_cmp
member_total = then_total (on_total (λ (m : Member). m.block) nat_cmp_total) (on_total (λ (m : Member). m.guarded) bool_cmp_total)

abbrev block_list : List Entry → List ℕ
block_list es = map (λ (e : Entry). e.block) es

plain_blocks : (es : List Entry) → block_list es ≡ blocks_of (entries_of es)
plain_blocks [] = refl
plain_blocks (e ∷ es) = ap (λ (bs : List ℕ). e.block ∷ bs) (plain_blocks es)

member_blocks : (es : List Entry) → map (λ (m : Member). m.block) (map member_of es) ≡ blocks_of (entries_of es)
member_blocks [] = refl
member_blocks (e ∷ es) = ap (λ (bs : List ℕ). e.block ∷ bs) (member_blocks es)

-- ---- the guarded ones among them

guarded_here : (x : Entry) (xs : List Entry) → is_guarded x ≡ true → guarded_blocks (x ∷ xs) ≡ x.block ∷ guarded_blocks xs
guarded_here x xs h = ap (λ (es : List Entry). block_list es) (seen_if (is_guarded x) (x ∷ filter is_guarded xs) (filter is_guarded xs) h)

guarded_later : (x : Entry) (xs : List Entry) → is_guarded x ≡ false → guarded_blocks (x ∷ xs) ≡ guarded_blocks xs
guarded_later x xs h = ap (λ (es : List Entry). block_list es) (seen_unless (is_guarded x) (x ∷ filter is_guarded xs) (filter is_guarded xs) h)

pub guarded_has : (es : List Entry) (k : ℕ) (d : Entry) → k < length es → is_guarded (get_or es k d) ≡ true → Contains (guarded_blocks es) (get_or es k d).block
guarded_has [] k d l h = absurd (omega (arith, l))
guarded_has (x ∷ xs) zero d l h = subst (λ (bs : List ℕ). Contains bs x.block) (sym (guarded_here x xs h)) (0, omega arith, refl)
guarded_has (x ∷ xs) (suc k) d l h =
    let there = guarded_has xs k d (omega (arith, l)) h in
    let b = (get_or xs k d).block in
    ⊎_elim (λ on. subst (λ (bs : List ℕ). Contains bs (get_or xs k d).block) (sym (guarded_here x xs on)) (cons-Contains x.block (guarded_blocks xs) (get_or xs k d).block there))
    (λ off. subst (λ (bs : List ℕ). Contains bs (get_or xs k d).block) (sym (guarded_later x xs off)) there) (cases_Bool (is_guarded x))

guarded_among : (es : List Entry) (b : ℕ) → Contains (guarded_blocks es) b → Contains (block_list es) b
guarded_among [] b h = h
guarded_among (x ∷ xs) b h =
    ⊎_elim
    (λ on. ⊎_elim (λ here. (0, omega arith, here)) (λ there. cons-Contains x.block (block_list xs) b (guarded_among xs b there))
    (Contains-cons x.block (guarded_blocks xs) b (subst (λ (bs : List ℕ). Contains bs b) (guarded_here x xs on) h)))
    (λ off. cons-Contains x.block (block_list xs) b (guarded_among xs b (subst (λ (bs : List ℕ). Contains bs b) (guarded_later x xs off) h))) (cases_Bool (is_guarded x))

-- a number that stands at two places
twice : (x : ℕ) (xs : List ℕ) (b : ℕ) → AllPairs (λ (y z : ℕ). y ≢ z) (x ∷ xs) → Contains xs b → x ≢ b
twice x xs b apart h e = apart 0 (suc h.0) b (omega arith) (omega (arith, h.1)) (e ∙ sym h.2)

later_apart : (x : ℕ) (xs : List ℕ) → AllPairs (λ (y z : ℕ). y ≢ z) (x ∷ xs) → AllPairs (λ (y z : ℕ). y ≢ z) xs
later_apart x xs apart i j d l h = apart (suc i) (suc j) d (omega (arith, l)) (omega (arith, h))

guarded_only : (es : List Entry) → AllPairs (λ (y z : ℕ). y ≢ z) (block_list es) → (k : ℕ) (d : Entry) → k < length es → Contains (guarded_blocks es) (get_or es k d).block
    → is_guarded (get_or es k d) ≡ true
guarded_only [] apart k d l h = absurd (omega (arith, l))
guarded_only (x ∷ xs) apart zero d l h =
    ⊎_elim (λ on. on)
    (λ off. absurd (twice x.block (block_list xs) x.block apart (guarded_among xs x.block (subst (λ (bs : List ℕ). Contains bs x.block) (guarded_later x xs off) h)) refl))
    (cases_Bool (is_guarded x))
guarded_only (x ∷ xs) apart (suc k) d l h =
    let b = (get_or xs k d).block in
    let m : k < length xs = omega (arith, l) in
    let n : k < length (block_list xs) = subst (λ (i : ℕ). k < i) (sym (length-map xs (λ (e : Entry). e.block))) m in
    let here : Contains (block_list xs) (get_or xs k d).block = (k, n, get_or-map (λ (e : Entry). e.block) xs k d (get_or xs k d).block m) in
    guarded_only xs (later_apart x.block (block_list xs) apart) k d m
    (⊎_elim
    (λ on. ⊎_elim (λ e. absurd (twice x.block (block_list xs) (get_or xs k d).block apart here e)) (λ there. there)
    (Contains-cons x.block (guarded_blocks xs) (get_or xs k d).block (subst (λ (bs : List ℕ). Contains bs (get_or xs k d).block) (guarded_here x xs on) h)))
    (λ off. subst (λ (bs : List ℕ). Contains bs (get_or xs k d).block) (guarded_later x xs off) h) (cases_Bool (is_guarded x)))

-- ---- sorted

module _ (es : List Entry) (sorted : List Member) (once : IsDistinct eqb (blocks_of (entries_of es))) (moved : IsPermutation (map member_of es) sorted) (up : IsSorted member_cmp sorted) where
  abbrev numbers : List ℕ
  numbers = map (λ (m : Member). m.block) sorted

  same_blocks : IsPermutation (blocks_of (entries_of es)) (map (λ (m : Member). m.block) sorted)
  same_blocks = subst (λ (bs : List ℕ). IsPermutation bs (map (λ (m : Member). m.block) sorted)) (member_blocks es)
      (IsPermutation-map (λ (m : Member). m.block) (map member_of es) sorted moved)

  differ : AllPairs (λ (y z : ℕ). y ≢ z) (map (λ (m : Member). m.block) sorted)
  differ = AllPairs-from_IsDistinct Decides-eqb (map (λ (m : Member). m.block) sorted)
      (IsDistinct-IsPermutation eqb (λ x y. nat_eq_equiv.symm x y) (blocks_of (entries_of es)) (map (λ (m : Member). m.block) sorted) same_blocks once)

  no_member : Member
  no_member = record { block = 0; guarded = false }

  rising : AllPairs (λ (b c : ℕ). b < c) (map (λ (m : Member). m.block) sorted)
  rising i j d l h =
      let long = length-map sorted (λ (m : Member). m.block) in
      let within : j < length sorted = omega (arith, h, long) in
      let far = sorted_far (λ (x y : Member). is_lt (member_cmp x y)) (ranks_by member_total (λ (x : Member). x)) sorted up i j no_member (omega (arith, l)) within in
      let first = get_or-map (λ (m : Member). m.block) sorted i no_member d (omega (arith, l, within)) in
      let second = get_or-map (λ (m : Member). m.block) sorted j no_member d within in
      let low = (by_number (get_or sorted i no_member).block (get_or sorted j no_member).block (nat_cmp (get_or sorted j no_member).block (get_or sorted i no_member).block)
      (bool_cmp (get_or sorted j no_member).guarded (get_or sorted i no_member).guarded) refl far).0 in
      let ne = differ i j d l h in
      omega (arith, first, second, low, ne)

  pub by_number_all : AreByNumber (blocks_of (entries_of es)) (map (λ (m : Member). m.block) sorted)
  by_number_all = record {
    rising = rising;
    same = λ b. (
      Contains-permutation (map (λ (m : Member). m.block) sorted) (blocks_of (entries_of es)) b (IsPermutation-sym (blocks_of (entries_of es)) (map (λ (m : Member). m.block) sorted) same_blocks),
      Contains-permutation (blocks_of (entries_of es)) (map (λ (m : Member). m.block) sorted) b same_blocks,
    );
  }

  pub guarded_all : All (λ (m : Member). (m.guarded ≡ true) ↔ Contains (guarded_blocks es) m.block) sorted
  guarded_all = All-permutation (λ (m : Member). (m.guarded ≡ true) ↔ Contains (guarded_blocks es) m.block) (map member_of es) sorted moved
      (All-map (λ (m : Member). (m.guarded ≡ true) ↔ Contains (guarded_blocks es) m.block) member_of es (λ k d l. (guarded_has es k d l, guarded_only es apart k d l)))
    where
      apart : AllPairs (λ (y z : ℕ). y ≢ z) (block_list es)
      apart = subst (λ (bs : List ℕ). AllPairs (λ (y z : ℕ). y ≢ z) bs) (sym (plain_blocks es)) (AllPairs-from_IsDistinct Decides-eqb (blocks_of (entries_of es)) once)
