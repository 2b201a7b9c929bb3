-- Numbers below 1,000 in digits.
use Rattle.std.specs.Prelude.{◌≡◌, ℕ, ◌+◌, ◌/◌, ◌%◌, ◌<◌, List, [], ◌∷◌, length, slice_index_or}
use Rattle.std.specs.Fmt.{decimal}

-- the digits of a number, and three digits with zeros in front
pub record Spelled : Type 0 where
  pub short : List ℕ
  pub whole : List ℕ

abbrev pub three_digits : ℕ → List ℕ
three_digits n = (48 + n / 100) ∷ (48 + n / 10 % 10) ∷ (48 + n % 10) ∷ []

abbrev pub spelled : ℕ → Spelled
spelled n = record { short = decimal n; whole = three_digits n }

abbrev pub not_spelled : Spelled
not_spelled = record { short = []; whole = [] }

-- those of the numbers below 1,000, in their order
pub record AreThrees (items : List Spelled) : Type 0 where
  pub count : length items ≡ 1000
  pub each : (n : ℕ) → n < 1000 → slice_index_or items n not_spelled ≡ spelled n
