-- Rows of a table of truth, compared one after the other.
use Rattle.std.proofs.Common.{arith, ◌≡◌, ◌≤◌, ◌<◌, ◌+◌, ◌-◌, ◌^◌, ℕ, zero, suc, Bool, true, false, ◌&&◌, refl, ap, ◌∙◌, length, if◌then◌else◌}
use Rattle.std.proofs.Math.Nat.{pow-suc}
use Rattle.sci_base.specs.Fit.{int_eq}
use Rattle.sci_forms.specs.declared.spec.Spec.{Spec}
use Rattle.sci_cgen_blocks.specs.Terms.{input, decide}
use Rattle.sci_cgen_blocks.specs.Recipes.{entry, same_entries, are_as, row, decided}

-- the entries from number e on, of which there are n
pub entries_on : (s : Spec) (q r e n : ℕ) → e < n
    → same_entries s q r e (n - e) ≡ int_eq (entry s q e) (entry s r e) && same_entries s q r (e + 1) (n - (e + 1))
entries_on s q r e n l =
    let more : n - e ≡ suc (n - (e + 1)) = omega (arith, l) in
    let next : suc e ≡ e + 1 = omega arith in
    ap (same_entries s q r e) more ∙ ap (λ (i : ℕ). int_eq (entry s q e) (entry s r e) && same_entries s q r i (n - (e + 1))) next

pub entries_end : (s : Spec) (q r e n : ℕ) → n ≤ e → same_entries s q r e (n - e) ≡ true
entries_end s q r e n l = let none : n - e ≡ 0 = omega (arith, l) in ap (same_entries s q r e) none

-- the rows from number r on, up to number n
pub rows_on : (s : Spec) (q r n : ℕ) → r < n → are_as s q r (n - r) ≡ same_entries s q r 0 (length s.outs) && are_as s q (r + 1) (n - (r + 1))
rows_on s q r n l =
    let more : n - r ≡ suc (n - (r + 1)) = omega (arith, l) in
    let next : suc r ≡ r + 1 = omega arith in
    ap (are_as s q r) more ∙ ap (λ (i : ℕ). same_entries s q r 0 (length s.outs) && are_as s q i (n - (r + 1))) next

pub rows_end : (s : Spec) (q r n : ℕ) → n ≤ r → are_as s q r (n - r) ≡ true
rows_end s q r n l = let none : n - r ≡ 0 = omega (arith, l) in ap (are_as s q r) none

-- ---- decisions

-- with no input left the row is known
pub no_more : (s : Spec) (k n r : ℕ) → n ≡ 0 → decided s k n r ≡ row s r
no_more s k n r h = ap (λ (i : ℕ). decided s k i r) h

-- and where all rows that are left are the same
pub all_same : (s : Spec) (k n r : ℕ) → are_as s r r (2 ^ n) ≡ true → decided s k n r ≡ row s r
all_same s k zero r h = refl
all_same s k (suc n) r h = ap (λ (b : Bool). if b then row s r else decide (input k 0) (decided s (suc k) n (r + 2 ^ n)) (decided s (suc k) n r)) h

-- else the next input decides
pub asked : (s : Spec) (k n r : ℕ) → 0 < n → are_as s r r (2 ^ n) ≡ false
    → decided s k n r ≡ decide (input k 0) (decided s (k + 1) (n - 1) (r + 2 ^ (n - 1))) (decided s (k + 1) (n - 1) r)
asked s k zero r l h = absurd (omega (arith, l))
asked s k (suc n) r l h =
    let next : suc k ≡ k + 1 = omega arith in
    let less : n ≡ suc n - 1 = omega arith in
    ap (λ (b : Bool). if b then row s r else decide (input k 0) (decided s (suc k) n (r + 2 ^ n)) (decided s (suc k) n r)) h
    ∙ ap (λ (i : ℕ). decide (input k 0) (decided s i n (r + 2 ^ n)) (decided s i n r)) next
    ∙ ap (λ (j : ℕ). decide (input k 0) (decided s (k + 1) j (r + 2 ^ j)) (decided s (k + 1) j r)) less

-- ---- how many rows

pub two_halves : (n : ℕ) → 0 < n → 2 ^ n ≡ 2 ^ (n - 1) + 2 ^ (n - 1)
two_halves zero l = absurd (omega (arith, l))
two_halves (suc n) l =
    let less : n ≡ suc n - 1 = omega arith in
    let doubled : 2 ^ suc n ≡ 2 ^ n + 2 ^ n = omega (arith, pow-suc 2 n) in
    doubled ∙ ap (λ (j : ℕ). 2 ^ j + 2 ^ j) less
