-- Steps of the loops that count, and of those that look for a bit.
use Rattle.std.proofs.Common.{◌≡◌, ◌≢◌, ℕ, zero, suc, ◌+◌, ◌-◌, ◌*◌, ◌/◌, ◌%◌, ◌<◌, ◌≤◌, ℤ, pos, false, refl, arith, cond, add-one, inl, inr}
use Rattle.std.specs.Prelude.{nat_eq}
use Rattle.std.proofs.lemmas.Bool.{cases_lt}
use Rattle.std.proofs.lemmas.Nat.{pow_below}
use Rattle.sci_kinds.proofs.Ranges.{row_below}
use Rattle.std.proofs.lemmas.Bool.Decides.{nat_tests}
use Rattle.sci_base.specs.Fit.{int_eq}
use Rattle.sci_kinds.specs.Table.{count_to, row_to, least_set}

pub count_more : (f : ℕ → ℤ) (k c d : ℕ) (v : ℤ) → c ≡ count_to f k → v ≡ f k → d ≡ cond (int_eq v (pos 0)) 0 1 → c + d ≡ count_to f (k + 1)
count_more f k c d v e g h = rw (add-one, e, h, g) refl

pub row_more : (f : ℕ → ℤ) (k r d : ℕ) (v : ℤ) → r ≡ row_to f k → v ≡ f k → d ≡ cond (int_eq v (pos 0)) 0 1 → 2 * r + d ≡ row_to f (k + 1)
row_more f k r d v e g h = rw (add-one, e, h, g) refl

pub least_here : (m j : ℕ) → 0 < j → m % 2 ≡ 1 → least_set m j ≡ 0
least_here m zero h e = absurd (omega (arith, h))
least_here m (suc j) h e = rw e refl

pub least_later : (m j : ℕ) → 0 < j → m % 2 ≢ 1 → least_set m j ≡ suc (least_set (m / 2) (j - 1))
least_later m zero h e = absurd (omega (arith, h))
least_later m (suc j) h e =
    let no : nat_eq (m % 2) 1 ≡ false = grind (arith, nat_tests) in
    let one : suc j - 1 ≡ j = omega arith in
    rw (no, one) refl

-- one bit further
pub least_more : (m n k r : ℕ) → least_set m n ≡ k + least_set r (n - k) → k < n → r % 2 ≢ 1 → least_set m n ≡ (k + 1) + least_set (r / 2) (n - (k + 1))
least_more m n k r e h b =
    let s = least_later r (n - k) (omega (arith, h)) b in
    let d : n - k - 1 ≡ n - (k + 1) = omega arith in
    let l = rw d at s in
    omega (arith, e, l)

-- the number of a row of up to 8 digits
pub row_small : (f : ℕ → ℤ) (k : ℕ) → k ≤ 8 → row_to f k < 256
row_small f k h = elim (cases_lt k 8) [
  | inl l ↦ let b = pow_below k 8 l in let r = row_below f k in omega (arith, b, r)
  | inr r ↦ let e : k ≡ 8 = omega (arith, h, r) in rw e (row_below f 8)
]
