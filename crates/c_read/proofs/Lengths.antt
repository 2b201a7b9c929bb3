-- How long numbers are in the text.
use Rattle.std.proofs.Common.{◌≡◌, ℕ, zero, suc, ◌+◌, ◌*◌, ◌/◌, ◌%◌, ◌^◌, ◌<◌, ◌≤◌, List, [], ◌∷◌, ◌++◌, length, ap, ◌∙◌, arith, length-append}
use Rattle.std.specs.Prelude.{decimal}
use Rattle.std.proofs.Math.Nat.{pow-succ'}
use Rattle.std.proofs.lemmas.Fmt.{decimal_digit, decimal_step}

pub digit_exact : (n : ℕ) → n < 10 → length (decimal n) ≡ 1
digit_exact n h = ap length (decimal_digit n h)

one_more : (l : List ℕ) (c : ℕ) → length (l ++ c ∷ []) ≡ length l + 1
one_more l c = length-append l (c ∷ [])

pub digits_exact : (k n : ℕ) → 10 ^ k ≤ n → n < 10 * 10 ^ k → n < 2 ^ 64 → length (decimal n) ≡ k + 1
digits_exact zero n low high h = let small : n < 10 = omega arith in let one = digit_exact n small in omega arith
digits_exact (suc k) n low high h =
    let p = pow-succ' 10 k in
    let some : 10 ≤ n = at_least n (10 ^ k) (positive k) (omega arith) in
    let less : 10 ^ k ≤ n / 10 = omega arith in
    let more : n / 10 < 10 * 10 ^ k = omega arith in
    let small : n / 10 < 2 ^ 64 = omega arith in
    let i = digits_exact k (n / 10) less more small in
    let e = ap length (decimal_step n some h) ∙ one_more (decimal (n / 10)) (48 + n % 10) in
    omega arith
  where
    positive : (k : ℕ) → 1 ≤ 10 ^ k
    positive zero = omega arith
    positive (suc k) = let p = pow-succ' 10 k in let i = positive k in omega arith

    at_least : (n m : ℕ) → 1 ≤ m → 10 * m ≤ n → 10 ≤ n
    at_least n m one h = omega arith
