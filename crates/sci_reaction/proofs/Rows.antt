-- Rows of a schedule: which blocks stand in them, and in which order.
use Rattle.std.proofs.Common.{◌≡◌, ℕ, zero, suc, ◌+◌, ◌<◌, ◌≤◌, Bool, true, false, ◌⊎◌, inl, inr, ⊎_elim, ◌↔◌, List, [], ◌∷◌, ◌++◌, length, slice_index_or, Contains, eqb, refl, sym, ap, subst, ◌∙◌, arith, true≢false}
use Rattle.std.proofs.lemmas.Bool.{or_cases, eqb-true, eq-eqb}
use Rattle.std.proofs.lemmas.List.Elements.{All-contains}
use Rattle.std.specs.List.{list_any, AllPairs}
use Rattle.sci_net.specs.declared.Feed.{Feed}
use Rattle.sci_net.specs.declared.Source.{Source}
use Rattle.sci_net.specs.Parts.{Parts, IsBlock, IsWired, IsActivationInput, numbered, spec_of, feeds_of}
use Rattle.sci_reaction.specs.Active.{IsSync, Possible, IsAlways, Reaches}
use Rattle.sci_reaction.specs.Links.{SourceFeeds}
use Rattle.sci_reaction.specs.Depends.{IsLoopFree, Precedes}
use Rattle.sci_reaction.specs.Equations.{HasBits}
use Rattle.sci_reaction.specs.Schedule.{Guard, Entry, blocks_of, branch_of, IsGuard, IsEntry, IsRow}
use Rattle.sci_loop.proofs.Decided.{Decided}
use Rattle.sci_reaction.proofs.Lists.{Has, or_left, or_right, any_to, any_from}
use Rattle.sci_reaction.proofs.Spreading.{Spread-block}
use Rattle.sci_reaction.proofs.Bits.{bits_of, bits_of-at}
use Rattle.sci_reaction.proofs.Decide.{decide_has}
use Rattle.sci_reaction.proofs.OneResult.{precedes_trans, irreflexive}

-- ---- lists of blocks

pub Has-cons : (x : ℕ) (xs : List ℕ) (c : ℕ) → Has (x ∷ xs) c ↔ ((c ≡ x) ⊎ Has xs c)
Has-cons x xs c = (
  (λ h. ⊎_elim (λ here. inl (eqb-true c x here)) (λ there. inr there) (or_cases (eqb c x) (list_any (eqb c) xs) h)),
  λ h. ⊎_elim (λ same. or_left (eqb c x) (list_any (eqb c) xs) (eq-eqb c x same)) (λ there. or_right (eqb c x) (list_any (eqb c) xs) there) h,
)

pub Has-append : (xs ys : List ℕ) (c : ℕ) → Has (xs ++ ys) c → Has xs c ⊎ Has ys c
Has-append [] ys c h = inr h
Has-append (x ∷ xs) ys c h =
    ⊎_elim (λ same. inl ((Has-cons x xs c).1 (inl same)))
    (λ there. ⊎_elim (λ left. inl ((Has-cons x xs c).1 (inr left))) (λ right. inr right) (Has-append xs ys c there)) ((Has-cons x (xs ++ ys) c).0 h)

pub Contains-has : (xs : List ℕ) (b : ℕ) → Contains xs b → Has xs b
Contains-has xs b c = any_from (eqb b) xs b c (eq-eqb b b refl)

pub has-Contains : (xs : List ℕ) (b : ℕ) → Has xs b → Contains xs b
has-Contains xs b h = let r = any_to (eqb b) xs h in subst (Contains xs) (sym (eqb-true b r.0 r.2)) r.1

pub Contains-mid : {A : Type 0} (pre post : List A) (e : A) → Contains (pre ++ e ∷ post) e
Contains-mid [] post e = (0, omega arith, refl)
Contains-mid (x ∷ pre) post e = let r = Contains-mid pre post e in (suc r.0, omega (arith, r.1), r.2)

-- the entry of a block that stands in the row
pub entry_at : (es : List Entry) (b : ℕ) → Has (blocks_of es) b → (e : Entry) × Contains es e × (e.block ≡ b)
entry_at [] b h = absurd (true≢false (sym h))
entry_at (x ∷ es) b h =
    ⊎_elim (λ same. (x, (0, omega arith, refl), sym same))
    (λ there. let r = entry_at es b there in (r.0, (suc r.1.0, omega (arith, r.1.1), r.1.2), r.2))
    ((Has-cons x.block (blocks_of es) b).0 h)

pub block_in : (es : List Entry) (e : Entry) → Contains es e → Contains (blocks_of es) e.block
block_in [] e h = absurd (omega (arith, h.1))
block_in (x ∷ es) e (zero, l, same) = (0, omega arith, ap (λ (d : Entry). d.block) same)
block_in (x ∷ es) e (suc k, l, same) = let r = block_in es e (k, omega (arith, l), same) in (suc r.0, omega (arith, r.1), r.2)

-- ---- order

module _ (n : Parts) (s : Source) where
  abbrev pub Sorted : List ℕ → Type 0
  Sorted [] = Unit {0}
  Sorted (x ∷ xs) = ((c : ℕ) → Has xs c → Precedes n s x c) × Sorted xs

  pub sorted_row : (es : List Entry) → AllPairs (λ d e. Precedes n s d.block e.block) es → Sorted (blocks_of es)
  sorted_row [] all = tt
  sorted_row (x ∷ es) all = (
    (λ c h. let r = entry_at es c h in
        let pair : Precedes n s x.block (slice_index_or es r.1.0 r.0).block = all 0 (suc r.1.0) r.0 (omega arith) (omega (arith, r.1.1)) in
        subst (λ k. Precedes n s x.block k) (ap (λ (e : Entry). e.block) r.1.2 ∙ r.2) pair),
    sorted_row es (λ i j d l h. all (suc i) (suc j) d (omega (arith, l)) (omega (arith, h))),
  )

  pub Sorted-after : (pre post : List ℕ) (b c : ℕ) → Sorted (pre ++ b ∷ post) → Has post c → Precedes n s b c
  Sorted-after [] post b c sorted h = sorted.0 c h
  Sorted-after (x ∷ pre) post b c sorted h = Sorted-after pre post b c sorted.1 h

  Sorted-before : (pre post : List ℕ) (b c : ℕ) → Sorted (pre ++ b ∷ post) → Has pre c → Precedes n s c b
  Sorted-before [] post b c sorted h = absurd (true≢false (sym h))
  Sorted-before (x ∷ pre) post b c sorted h =
      ⊎_elim
      (λ same. subst (λ k. Precedes n s k b) (sym same) (sorted.0 b (Contains-has (pre ++ b ∷ post) b (Contains-mid pre post b))))
      (λ there. Sorted-before pre post b c sorted.1 there)
      ((Has-cons x pre c).0 h)

  module _ (free : IsLoopFree n s) where
    -- a block does not stand before itself
    pub once : (pre post : List ℕ) (b : ℕ) → Sorted (pre ++ b ∷ post) → Has pre b → ⊥
    once pre post b sorted h = irreflexive n s free b (Sorted-before pre post b b sorted h)

    -- what precedes b stands before it
    pub stands_before : (pre post : List ℕ) (b c : ℕ) → Sorted (pre ++ b ∷ post) → Has (pre ++ b ∷ post) c → Precedes n s c b → Has pre c
    stands_before pre post b c sorted has before =
        ⊎_elim (λ left. left)
        (λ right. absurd (⊎_elim
        (λ same. irreflexive n s free b (subst (λ k. Precedes n s k b) same before))
        (λ after. irreflexive n s free b (precedes_trans n s free b c b (Sorted-after pre post b c sorted after) before))
        ((Has-cons b post c).0 right)))
        (Has-append pre (b ∷ post) c has)

-- ---- what a pass needs to know of a row

-- the guards of an entry are exactly the branches that may activate it, in any order
pub record IsFit (n : Parts) (s : Source) (e : Entry) : Type 0 where
  pub always_is : (e.always ≡ true) ↔ IsAlways n s e.block
  pub mask_is : HasBits e.mask (SourceFeeds n s e.block)
  pub are_guards : (g : Guard) → Contains e.guards g → IsGuard n s e.block g
  pub has_guard : (q : Feed) → Possible n s q.block → IsSync n q.block → Reaches n q e.block → (g : Guard) × Contains e.guards g × (branch_of g ≡ q)

pub record IsPlan (n : Parts) (s : Source) (row : List Entry) : Type 0 where
  pub complete : (b : ℕ) → Has (blocks_of row) b ↔ Possible n s b
  pub sorted : Sorted n s (blocks_of row)
  pub entries : (e : Entry) → Contains row e → IsFit n s e

-- ---- masks

-- an activation output feeds activation inputs that there are
pub feeds_within : (n : Parts) → IsWired n → (b p : ℕ) (q : Feed) → IsBlock n b → Contains (feeds_of n b p) q → IsActivationInput n b p
feeds_within n ok b p q inside has = record { block = inside; least = (at_port (numbered [] n.feeds b) p has).0; most = most }
  where
    outside : (rows : List (List Feed)) (k : ℕ) → Contains (slice_index_or rows k []) q → k < length rows
    outside [] k h = absurd (omega (arith, h.1))
    outside (row ∷ rows) zero h = omega arith
    outside (row ∷ rows) (suc k) h = let l = outside rows k h in omega (arith, l)

    at_port : (rows : List (List Feed)) (k : ℕ) → Contains (numbered [] rows k) q → (1 ≤ k) × (k ≤ length rows)
    at_port rows zero h = absurd (omega (arith, h.1))
    at_port rows (suc k) h = let l = outside rows k h in (omega arith, omega (arith, l))

    most : p ≤ (spec_of n b).evtin
    most = let l = (at_port (numbered [] n.feeds b) p has).1 in let e = ok.one_feed_list_each b inside in omega (arith, l, e)

pub test : {P : Type 0} → Decided P → (b : Bool) × ((b ≡ true) ↔ P)
test (inl p) = (true, ((λ h. p), λ h. refl))
test (inr out) = (false, ((λ h. absurd (true≢false (sym h))), λ h. absurd (out h)))

-- the mask of a set of activation inputs that can be decided
abbrev pub mask_number : {set : ℕ → Type 0} → ((p : ℕ) → Decided (set p)) → ℕ → ℕ
mask_number dec most = bits_of (λ p. (test (dec (p + 1))).0) most

pub mask_number-bits : (set : ℕ → Type 0) (dec : (p : ℕ) → Decided (set p)) (most : ℕ) → ((p : ℕ) → set p → p ≤ most) → HasBits (mask_number dec most) set
mask_number-bits set dec most below p =
    let bits = bits_of-at (λ k. (test (dec (k + 1))).0) most p in (
      (λ h. (test (dec (p + 1))).1.0 (bits.0 h).1),
      λ h. bits.1 (let l = below (p + 1) h in omega (arith, l), (test (dec (p + 1))).1.1 h),
    )

abbrev pub guard_mask : Parts → ℕ → Feed → ℕ
guard_mask n b q = mask_number (λ p. decide_has (feeds_of n b p) q) (spec_of n b).evtin

pub guard_mask-bits : (n : Parts) → IsWired n → (b : ℕ) (q : Feed) → IsBlock n b → HasBits (guard_mask n b q) (λ p. Contains (feeds_of n b p) q)
guard_mask-bits n ok b q inside =
    mask_number-bits (λ p. Contains (feeds_of n b p) q) (λ p. decide_has (feeds_of n b p) q) (spec_of n b).evtin (λ p h. (feeds_within n ok b p q inside h).most)

-- ---- rows are such plans

pub entry_fits : (n : Parts) (s : Source) → IsWired n → (e : Entry) → IsBlock n e.block → IsEntry n s e → IsFit n s e
entry_fits n s ok e inside is =
    record {
      always_is = is.always_is;
      mask_is = is.mask_is;
      are_guards = λ g h. (is.guards_are g).0 h;
      has_guard = λ q may sync reach.
          let g : Guard = record { block = q.block; port = q.port; mask = guard_mask n e.block q } in
          (g, (is.guards_are g).1 (record { possible = may; sync = sync; reaches = reach; feeds = guard_mask-bits n ok e.block q inside }), refl);
    }

pub row_plan : (n : Parts) (s : Source) → IsWired n → (row : List Entry) → IsRow n s row → IsPlan n s row
row_plan n s ok row is =
    record {
      complete = λ b. ((λ h. (is.exactly b).0 (has-Contains (blocks_of row) b h)), λ may. Contains-has (blocks_of row) b ((is.exactly b).1 may));
      sorted = sorted_row n s row is.ordered;
      entries = λ e h. entry_fits n s ok e (Spread-block n s _ ((is.exactly e.block).0 (block_in row e h))) (All-contains (IsEntry n s) row e is.entries h);
    }
