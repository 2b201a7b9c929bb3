-- Places of entries by their blocks.
use Rattle.std.proofs.Common.{◌≡◌, ℕ, zero, suc, ◌+◌, ◌<◌, ◌≤◌, Bool, true, false, cond, nat_eq, List, [], ◌∷◌, ◌++◌, length, take, get_or, set, replicate, Some, None, refl, sym, ap, ◌∙◌, ◌≢◌, arith, take_all}
use Rattle.std.proofs.Common.{get_or-set_same, get_or-set_other, length-set}
use Rattle.std.proofs.lemmas.Bool.Decides.{nat_tests}
use Rattle.std.proofs.lemmas.List.{take_more, length-map, length-take-le, length-replicate}
use Rattle.sci_forms.proofs.TestLemmas.{nat_same}
use Rattle.sci_reaction.specs.Kept.{entry_of as plain_entry, entries_of}
use Rattle.sci_reaction.specs.Schedule.{Entry as PlainEntry, blocks_of}
use Rattle.sci_reaction.specs.declared.entry.Entry.{Entry}
use Rattle.sci_ranges_rows.specs.Marks.{entry_of}
use Rattle.sci_ranges_marks.specs.Places.{behind_one, place_in, ArePlaces}

-- ---- places of numbers

behind_within : (p n : ℕ) → p ≤ n → behind_one p ≤ suc n
behind_within zero n h = omega arith
behind_within (suc p) n h = omega (arith, h)

pub place_within : (xs : List ℕ) (b : ℕ) → place_in xs b ≤ length xs
place_within [] b = omega arith
place_within (x ∷ xs) b = by_test (place_within xs b) (nat_eq x b)
  where
    by_test : place_in xs b ≤ length xs → (t : Bool) → cond t 1 (behind_one (place_in xs b)) ≤ length (x ∷ xs)
    by_test rest true = omega arith
    by_test rest false = behind_within (place_in xs b) (length xs) rest

-- of one number more at the end
abbrev place_more_by : ℕ → ℕ → Bool → ℕ
place_more_by n zero t = cond t (suc n) 0
place_more_by n (suc p) t = suc p

more_behind : (n p : ℕ) (t : Bool) → behind_one (place_more_by n p t) ≡ place_more_by (suc n) (behind_one p) t
more_behind n zero true = refl
more_behind n zero false = refl
more_behind n (suc p) t = refl

place_more : (xs : List ℕ) (x b : ℕ) → place_in (xs ++ x ∷ []) b ≡ place_more_by (length xs) (place_in xs b) (nat_eq x b)
place_more [] x b = refl
place_more (y ∷ xs) x b = by_test (place_more xs x b) (nat_eq y b)
  where
    by_test : place_in (xs ++ x ∷ []) b ≡ place_more_by (length xs) (place_in xs b) (nat_eq x b)
        → (t : Bool) → cond t 1 (behind_one (place_in (xs ++ x ∷ []) b)) ≡ place_more_by (suc (length xs)) (cond t 1 (behind_one (place_in xs b))) (nat_eq x b)
    by_test rest true = refl
    by_test rest false = ap behind_one rest ∙ more_behind (length xs) (place_in xs b) (nat_eq x b)

place_more_not : (n p : ℕ) → place_more_by n p false ≡ p
place_more_not n zero = refl
place_more_not n (suc p) = refl

place_more_there : (n p : ℕ) (t : Bool) → (p ≡ 0 → ⊥) → place_more_by n p t ≡ p
place_more_there n zero t h = absurd (h refl)
place_more_there n (suc p) t h = refl

-- ---- writing the places

-- the places of the first k numbers
pub record ArePlacesTo (xs : List ℕ) (k count : ℕ) (places : List ℕ) : Type 0 where
  pub enough : length places ≡ count
  pub placed : (b : ℕ) → get_or places b 0 ≡ place_in (take k xs) b

module _ (xs : List ℕ) (count : ℕ) (places : List ℕ) (k x : ℕ) (h : k < length xs) (e : get_or xs k 0 ≡ x) (within : x < count) (before : ArePlacesTo xs k count places) where
  more : (b : ℕ) → place_in (take (k + 1) xs) b ≡ place_more_by k (place_in (take k xs) b) (nat_eq x b)
  more b =
      let len : length (take k xs) ≡ k = length-take-le k xs (omega arith) in
      ap (λ (ys : List ℕ). place_in ys b) (take_more xs k 0 h)
      ∙ (place_more (take k xs) (get_or xs k 0) b
      ∙ (ap (λ (n : ℕ). place_more_by n (place_in (take k xs) b) (nat_eq (get_or xs k 0) b)) len
      ∙ ap (λ (y : ℕ). place_more_by k (place_in (take k xs) b) (nat_eq y b)) e))

  pub place_written : get_or places x 0 ≡ 0 → ArePlacesTo xs (k + 1) count (set places x (k + 1))
  place_written free =
      record { enough = length-set places x (k + 1) ∙ before.enough; placed = λ b. by_test b (nat_eq x b) refl ∙ sym (more b) }
    where
      by_test : (b : ℕ) (t : Bool) → nat_eq x b ≡ t → get_or (set places x (k + 1)) b 0 ≡ place_more_by k (place_in (take k xs) b) (nat_eq x b)
      by_test b true p =
          let same : x ≡ b = nat_same x b p in
          let here : get_or (set places x (k + 1)) x 0 ≡ suc k = get_or-set_same places x (k + 1) 0 (omega (arith, within, before.enough)) ∙ (let one : k + 1 ≡ suc k = omega arith in one) in
          let none : place_in (take k xs) b ≡ 0 = sym (before.placed b) ∙ (ap (λ (y : ℕ). get_or places y 0) (sym same) ∙ free) in
          ap (λ (y : ℕ). get_or (set places x (k + 1)) y 0) (sym same)
          ∙ (here ∙ (ap (λ (y : ℕ). place_more_by k y true) (sym none) ∙ ap (place_more_by k (place_in (take k xs) b)) (sym p)))
      by_test b false p =
          let other : b ≢ x = grind (arith, nat_tests, p) in
          get_or-set_other places x b (k + 1) 0 other
          ∙ (before.placed b ∙ (sym (place_more_not k (place_in (take k xs) b)) ∙ ap (place_more_by k (place_in (take k xs) b)) (sym p)))

  pub place_kept : (get_or places x 0 ≡ 0 → ⊥) → ArePlacesTo xs (k + 1) count places
  place_kept taken = record { enough = before.enough; placed = λ b. before.placed b ∙ (sym (by_test b (nat_eq x b) refl) ∙ sym (more b)) }
    where
      by_test : (b : ℕ) (t : Bool) → nat_eq x b ≡ t → place_more_by k (place_in (take k xs) b) (nat_eq x b) ≡ place_in (take k xs) b
      by_test b true p =
          let same : x ≡ b = nat_same x b p in
          place_more_there k (place_in (take k xs) b) (nat_eq x b)
          (λ none. taken (ap (λ (y : ℕ). get_or places y 0) same ∙ (before.placed b ∙ none)))
      by_test b false p = ap (place_more_by k (place_in (take k xs) b)) p ∙ place_more_not k (place_in (take k xs) b)

none_at : (n b : ℕ) → get_or (replicate {A = ℕ} n 0) b 0 ≡ 0
none_at zero b = refl
none_at (suc n) zero = refl
none_at (suc n) (suc b) = none_at n b

pub no_places : (xs places : List ℕ) (count : ℕ) → places ≡ replicate count 0 → ArePlacesTo xs 0 count places
no_places xs places count e =
    record { enough = ap length e ∙ length-replicate count 0; placed = λ b. ap (λ (ps : List ℕ). get_or ps b 0) e ∙ none_at count b }

pub blocks_length : (es : List Entry) → length (blocks_of (entries_of es)) ≡ length es
blocks_length es = length-map (entries_of es) (λ (e : PlainEntry). e.block) ∙ length-map es plain_entry

pub all_places : (es : List Entry) (places : List ℕ) (count k : ℕ) → length es ≤ k → ArePlacesTo (blocks_of (entries_of es)) k count places → ArePlaces es places
all_places es places count k h to b =
    let xs = blocks_of (entries_of es) in
    let len = blocks_length es in
    to.placed b ∙ ap (λ (ys : List ℕ). place_in ys b) (take_all k xs (omega (arith, len)))

-- ---- the entry of a block

pub block_at : (es : List Entry) (k : ℕ) (e : Entry) → k < length es → e ≡ get_or es k e → get_or (blocks_of (entries_of es)) k 0 ≡ e.block
block_at [] k e h s = absurd (omega (arith, h))
block_at (x ∷ es) zero e h s = ap (λ (y : Entry). y.block) (sym s)
block_at (x ∷ es) (suc k) e h s = block_at es k e (omega (arith, h)) s

behind_not_none : (p : ℕ) → behind_one p ≡ 1 → ⊥
behind_not_none zero h = absurd (omega (arith, h))
behind_not_none (suc p) h = absurd (omega (arith, h))

behind_none : (p : ℕ) → behind_one p ≡ 0 → p ≡ 0
behind_none zero h = refl
behind_none (suc p) h = absurd (omega (arith, h))

behind_place : (p q : ℕ) → behind_one p ≡ suc (suc q) → p ≡ suc q
behind_place zero q h = absurd (omega (arith, h))
behind_place (suc p) q h = omega (arith, h)

pub no_entry : (es : List Entry) (b : ℕ) → place_in (blocks_of (entries_of es)) b ≡ 0 → entry_of (entries_of es) b ≡ None
no_entry [] b h = refl
no_entry (x ∷ es) b h = by_test (no_entry es b) (nat_eq x.block b) h
  where
    by_test : (place_in (blocks_of (entries_of es)) b ≡ 0 → entry_of (entries_of es) b ≡ None)
        → (t : Bool) → cond t 1 (behind_one (place_in (blocks_of (entries_of es)) b)) ≡ 0 → cond t (Some (plain_entry x)) (entry_of (entries_of es) b) ≡ None
    by_test rest true p = absurd (omega (arith, p))
    by_test rest false p = rest (behind_none (place_in (blocks_of (entries_of es)) b) p)

pub entry_here : (es : List Entry) (b k : ℕ) (e : Entry) → place_in (blocks_of (entries_of es)) b ≡ suc k → e ≡ get_or es k e → Some (plain_entry e) ≡ entry_of (entries_of es) b
entry_here [] b k e h s = absurd (omega (arith, h))
entry_here (x ∷ es) b zero e h s = by_test (nat_eq x.block b) h
  where
    by_test : (t : Bool) → cond t 1 (behind_one (place_in (blocks_of (entries_of es)) b)) ≡ 1 → Some (plain_entry e) ≡ cond t (Some (plain_entry x)) (entry_of (entries_of es) b)
    by_test true p = ap (λ (y : Entry). Some (plain_entry y)) s
    by_test false p = absurd (behind_not_none (place_in (blocks_of (entries_of es)) b) p)
entry_here (x ∷ es) b (suc k) e h s = by_test (λ p. entry_here es b k e p s) (nat_eq x.block b) h
  where
    by_test : (place_in (blocks_of (entries_of es)) b ≡ suc k → Some (plain_entry e) ≡ entry_of (entries_of es) b)
        → (t : Bool) → cond t 1 (behind_one (place_in (blocks_of (entries_of es)) b)) ≡ suc (suc k) → Some (plain_entry e) ≡ cond t (Some (plain_entry x)) (entry_of (entries_of es) b)
    by_test rest true p = absurd (omega (arith, p))
    by_test rest false p = rest (behind_place (place_in (blocks_of (entries_of es)) b) k p)
