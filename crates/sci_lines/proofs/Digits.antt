-- How many digits a number has.
use Rattle.std.proofs.Common.{◌≡◌, ℕ, ◌+◌, ◌<◌, ◌≤◌, ◌/◌, ◌^◌, length, ap, ◌∙◌, arith}
use Rattle.std.specs.Fmt.{decimal}
use Rattle.std.proofs.lemmas.Fmt.{length-decimal-le}
use Rattle.itoa.proofs.Decimal.{length_one, length_two, length_pair}

pub length_three : (n : ℕ) → 100 ≤ n → n < 1000 → length (decimal n) ≡ 3
length_three n lo hi = length_pair n lo (omega arith) ∙ ap (λ (k : ℕ). k + 2) (length_one (n / 100) (omega arith))

pub length_of_four : (n : ℕ) → 1000 ≤ n → n < 10000 → length (decimal n) ≡ 4
length_of_four n lo hi = length_pair n (omega arith) (omega arith) ∙ ap (λ (k : ℕ). k + 2) (length_two (n / 100) (omega arith) (omega arith))

pub at_most_20 : (n : ℕ) → n < 2 ^ 64 → length (decimal n) ≤ 20
at_most_20 n h = length-decimal-le 20 n (omega arith) (omega arith) h

-- of the numbers in the start of a line
pub digits_of_block : (n : ℕ) → n < 10000 → length (decimal n) ≤ 4
digits_of_block n h = length-decimal-le 4 n (omega arith) (omega (arith, h)) (omega (arith, h))

pub digits_of_port : (n : ℕ) → n < 100 → length (decimal n) ≤ 2
digits_of_port n h = length-decimal-le 2 n (omega arith) (omega (arith, h)) (omega (arith, h))

pub digits_of_element : (n : ℕ) → n < 100000 → length (decimal n) ≤ 5
digits_of_element n h = length-decimal-le 5 n (omega arith) (omega (arith, h)) (omega (arith, h))
