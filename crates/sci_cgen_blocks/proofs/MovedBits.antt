-- Numbers of their bits: of which upper ones are left, and of two that are joined bit by bit.
use Rattle.std.proofs.Common.{◌≡◌, ℕ, zero, suc, ◌+◌, ◌-◌, ◌*◌, ◌/◌, ◌%◌, ◌^◌, ◌<◌, ◌≤◌, refl, sym, ap, ◌∙◌, subst, arith, min, max, Bool, true, false, cond, if◌then◌else◌, ℤ, pos, pow-suc}
use Rattle.std.specs.Prelude.{nat_eq, nat_lt, not}
use Rattle.std.specs.Int.{bit_at}
use Rattle.std.proofs.lemmas.Bool.Decides.{nat_tests}
use Rattle.std.proofs.lemmas.Nat.{shr-shr, div-mul-add, div-add-mod', shr_below}
use Rattle.sci_base.specs.Bits.{of_bits}
use Rattle.sci_base.specs.Fit.{int_eq}
use Rattle.sci_forms.proofs.TestLemmas.{int_same}
use Rattle.sci_kinds.specs.Table.{logical}
use Rattle.sci_cgen_blocks.specs.declared.logical_kinds.Join.{Join}
use Rattle.sci_cgen_blocks.specs.declared.logical_kinds.Join.TheVariants.{Every, Any, Odd}
use Rattle.sci_cgen_blocks.specs.Recipes.{join_of, is_turned}

-- ---- upper bits

-- the number whose bits are f k to f (k + n - 1), the least first
abbrev pub upper_bits : (ℕ → ℕ) → ℕ → ℕ → ℕ
upper_bits f k zero = 0
upper_bits f k (suc n) = upper_bits f (suc k) n * 2 + f k

upper_joined : (f : ℕ → ℕ) (n k : ℕ) → upper_bits f k n * 2 ^ k + of_bits f k ≡ of_bits f (k + n)
upper_joined f zero k = let same : k + 0 ≡ k = omega arith in omega (arith, ap (of_bits f) same)
upper_joined f (suc n) k =
    let same : suc k + n ≡ k + suc n = omega arith in
    let more = upper_joined f n (suc k) in
    let twice = ap (λ (p : ℕ). upper_bits f (suc k) n * p) (pow-suc 2 k) in
    omega (arith, more, twice, ap (of_bits f) same)

pub all_bits : (f : ℕ → ℕ) (n : ℕ) → upper_bits f 0 n ≡ of_bits f n
all_bits f n = let j = upper_joined f n 0 in let same : 0 + n ≡ n = omega arith in omega (arith, j, ap (of_bits f) same)

-- a number of k + n bits without the k last
bits_left : (p n k : ℕ) → p < 2 ^ (k + n) → p / 2 ^ k ≡ upper_bits (bit_at p) k n
bits_left p zero k h =
    let turned : k + 0 ≡ 0 + k = omega arith in
    let none = shr_below p 0 k (subst (λ (i : ℕ). p < 2 ^ i) turned h) in
    omega (arith, none)
bits_left p (suc n) k h =
    let turned : k + suc n ≡ suc k + n = omega arith in
    let more = bits_left p n (suc k) (subst (λ (i : ℕ). p < 2 ^ i) turned h) in
    let next : k + 1 ≡ suc k = omega arith in
    let half = shr-shr p k 1 ∙ ap (λ (i : ℕ). p / 2 ^ i) next in
    let parts = div-add-mod' (p / 2 ^ k) 2 in
    omega (arith, more, half, parts)

pub bits_of_number : (p n : ℕ) → p < 2 ^ n → p ≡ upper_bits (bit_at p) 0 n
bits_of_number p n h =
    let turned : n ≡ 0 + n = omega arith in
    let whole = bits_left p n 0 (subst (λ (i : ℕ). p < 2 ^ i) turned h) in
    omega (arith, whole)

pub same_bits : (f h : ℕ → ℕ) → ((i : ℕ) → f i ≡ h i) → (n : ℕ) → of_bits f n ≡ of_bits h n
same_bits f h e zero = refl
same_bits f h e (suc n) = rw (same_bits f h e n, e n) refl

-- the bits turned over
pub turned_bits : (f : ℕ → ℕ) → ((i : ℕ) → f i < 2) → (n : ℕ) → of_bits f n + of_bits (λ i. 1 - f i) n + 1 ≡ 2 ^ n
turned_bits f h zero = omega arith
turned_bits f h (suc n) =
    let rest = turned_bits f h n in
    let one = by_bit (f n) (2 ^ n) (h n) in
    let twice = pow-suc 2 n in
    omega (arith, rest, one, twice)
  where
    by_bit : (b p : ℕ) → b < 2 → b * p + (1 - b) * p ≡ p
    by_bit zero p l = omega arith
    by_bit (suc zero) p l = omega arith
    by_bit (suc (suc b)) p l = absurd (omega (arith, l))

-- ---- one bit of two joined

-- what two bits give
abbrev pub two_bits : Join → ℕ → ℕ → ℕ
two_bits Every a b = min a b
two_bits Any a b = max a b
two_bits Odd a b = (a + b) % 2

-- what n bits give, c of them 1
abbrev pub joined_bit : Join → ℕ → ℕ → ℕ
joined_bit Every n c = if nat_eq c n then 1 else 0
joined_bit Any n c = if nat_lt 0 c then 1 else 0
joined_bit Odd n c = c % 2

pub two_below : (j : Join) (a b : ℕ) → a < 2 → b < 2 → two_bits j a b < 2
two_below Every a b h k = omega (arith, h, k)
two_below Any a b h k = omega (arith, h, k)
two_below Odd a b h k = omega arith

pub joined_below : (j : Join) (n c : ℕ) → joined_bit j n c < 2
joined_below Every n c = grind (arith, nat_tests)
joined_below Any n c = grind (arith, nat_tests)
joined_below Odd n c = omega arith

-- one bit alone
pub first_bit : (j : Join) (x : ℕ) → x < 2 → joined_bit j 1 x ≡ x
first_bit Every x h = grind (arith, nat_tests)
first_bit Any x h = grind (arith, nat_tests)
first_bit Odd x h = omega (arith, h)

-- and one bit more
pub one_bit : (j : Join) (n c x : ℕ) → c ≤ n → x < 2 → two_bits j (joined_bit j n c) x ≡ joined_bit j (suc n) (c + x)
one_bit Every n c x h k = grind (arith, nat_tests)
one_bit Any n c x h k = grind (arith, nat_tests)
one_bit Odd n c x h k = omega arith

-- ---- an operation's bit

abbrev SameBit : ℕ → ℕ → ℤ → Type 0
SameBit n c z = cond (logical z n c) 1 0 ≡ cond (is_turned z) (1 - joined_bit (join_of z) n c) (joined_bit (join_of z) n c)

-- the bit of an operation, of n bits of which c are 1
pub operation_bit : (op : ℤ) (n c : ℕ) → cond (logical op n c) 1 0 ≡ cond (is_turned op) (1 - joined_bit (join_of op) n c) (joined_bit (join_of op) n c)
operation_bit op n c = at_0 (int_eq op (pos 0)) refl
  where
    none : cond (nat_eq c 0) 1 0 ≡ 1 - cond (nat_lt 0 c) 1 0
    none = grind (arith, nat_tests)

    not_all : cond (not (nat_eq c n)) 1 0 ≡ 1 - cond (nat_eq c n) 1 0
    not_all = grind (arith, nat_tests)

    odd : cond (nat_eq (c % 2) 1) 1 0 ≡ c % 2
    odd = grind (arith, nat_tests)

    is : (k : ℤ) → int_eq op k ≡ true → SameBit n c k → SameBit n c op
    is k e h = subst (SameBit n c) (sym (int_same op k e)) h

    at_4 : (b : Bool) → int_eq op (pos 4) ≡ b → int_eq op (pos 0) ≡ false → int_eq op (pos 1) ≡ false → int_eq op (pos 2) ≡ false → int_eq op (pos 3) ≡ false
        → SameBit n c op
    at_4 true e p0 p1 p2 p3 = is (pos 4) e odd
    at_4 false e p0 p1 p2 p3 = rw (p0, p1, p2, p3, e) none

    at_3 : (b : Bool) → int_eq op (pos 3) ≡ b → int_eq op (pos 0) ≡ false → int_eq op (pos 1) ≡ false → int_eq op (pos 2) ≡ false → SameBit n c op
    at_3 true e p0 p1 p2 = is (pos 3) e none
    at_3 false e p0 p1 p2 = at_4 (int_eq op (pos 4)) refl p0 p1 p2 e

    at_2 : (b : Bool) → int_eq op (pos 2) ≡ b → int_eq op (pos 0) ≡ false → int_eq op (pos 1) ≡ false → SameBit n c op
    at_2 true e p0 p1 = is (pos 2) e not_all
    at_2 false e p0 p1 = at_3 (int_eq op (pos 3)) refl p0 p1 e

    at_1 : (b : Bool) → int_eq op (pos 1) ≡ b → int_eq op (pos 0) ≡ false → SameBit n c op
    at_1 true e p0 = is (pos 1) e refl
    at_1 false e p0 = at_2 (int_eq op (pos 2)) refl p0 e

    at_0 : (b : Bool) → int_eq op (pos 0) ≡ b → SameBit n c op
    at_0 true e = is (pos 0) e refl
    at_0 false e = at_1 (int_eq op (pos 1)) refl e
