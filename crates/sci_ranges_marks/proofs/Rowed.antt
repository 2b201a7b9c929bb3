-- Lists of lists, tests of lists, and tests of all places.
use Rattle.std.proofs.Common.{◌≡◌, ℕ, zero, suc, ◌+◌, ◌<◌, ◌≤◌, Bool, true, false, ◌||◌, ◌&&◌, inl, inr, List, [], ◌∷◌, length, map, get_or, Vec, refl, sym, ap, ◌∙◌, subst, arith}
use Rattle.std.proofs.lemmas.Bool.{cases_lt}
use Rattle.std.proofs.lemmas.List.{get_or-map, get_or_past, length-map}
use Rattle.std.specs.List.{list_any}
use Rattle.std.specs.declared.alloc.Global.{Global}
use Rattle.sci_net.specs.Parts.{rows_of}
use Rattle.sci_ranges_rows.specs.Tests.{all_below}

-- ---- lists of lists

pub row_read : {A : Type 0} (rows : List (Vec A Global)) (i : ℕ) (v : Vec A Global) (d : List A) → i < length rows → v ≡ get_or rows i v → get_or (rows_of rows) i d ≡ v.items
row_read {A} rows i v d h e = get_or-map (λ (w : Vec A Global). w.items) rows i v d h ∙ ap (λ (w : Vec A Global). w.items) (sym e)

pub row_past : {A : Type 0} (rows : List (Vec A Global)) (i : ℕ) (d : List A) → length rows ≤ i → get_or (rows_of rows) i d ≡ d
row_past {A} rows i d h = let same = length-map rows (λ (w : Vec A Global). w.items) in get_or_past (rows_of rows) i d (omega (arith, same))

-- ---- tests of lists

pub any_mapped : {A B : Type 0} (test : B → Bool) (f : A → B) (xs : List A) → list_any test (map f xs) ≡ list_any (λ x. test (f x)) xs
any_mapped test f [] = refl
any_mapped test f (x ∷ xs) = ap (λ (b : Bool). test (f x) || b) (any_mapped test f xs)

-- ---- tests of all places

pub below_more : (f : ℕ → Bool) (k : ℕ) → all_below f k ≡ true → f k ≡ true → all_below f (k + 1) ≡ true
below_more f k h e = let one : k + 1 ≡ suc k = omega arith in rw one (both (all_below f k) (f k) h e)
  where
    both : (a b : Bool) → a ≡ true → b ≡ true → (a && b) ≡ true
    both true b p q = q
    both false b p q = cc

pub below_fails : (f : ℕ → Bool) (count k : ℕ) → k < count → f k ≡ false → all_below f count ≡ false
below_fails f zero k h e = absurd (omega (arith, h))
below_fails f (suc count) k h e = elim (cases_lt k count) [
  | inl l ↦ by_front (all_below f count) (f count) (below_fails f count k l e)
  | inr l ↦ let same : k ≡ count = omega (arith, h, l) in by_last (all_below f count) (f count) (subst (λ j. f j ≡ false) same e)
]
  where
    by_front : (a b : Bool) → a ≡ false → (a && b) ≡ false
    by_front true b p = cc
    by_front false b p = refl

    by_last : (a b : Bool) → b ≡ false → (a && b) ≡ false
    by_last true b p = p
    by_last false b p = refl
