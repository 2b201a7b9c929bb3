-- Numbers that stand in front, in their one spelling.
use Rattle.std.specs.Prelude.{ℕ, ◌+◌, ◌*◌, ◌-◌, List, [], ◌∷◌, Option, Some, None, Bool, true, false, nat_eq, nat_lt, if◌then◌else◌}
use Rattle.std.specs.Char.{is_ascii_digit}

abbrev pub digits_front : List ℕ → List ℕ
digits_front [] = []
digits_front (c ∷ cs) = if is_ascii_digit c then c ∷ digits_front cs else []

abbrev pub digits_rest : List ℕ → List ℕ
digits_rest [] = []
digits_rest (c ∷ cs) = if is_ascii_digit c then digits_rest cs else c ∷ cs

-- the number that the digits go on with, behind the number n
abbrev pub read_on : ℕ → List ℕ → ℕ
read_on n [] = n
read_on n (c ∷ cs) = read_on (10 * n + (c - 48)) cs

-- digits, with no zero in front of another
abbrev pub is_numeral : List ℕ → Bool
is_numeral [] = false
is_numeral (c ∷ []) = true
is_numeral (c ∷ d ∷ ds) = if nat_eq c 48 then false else true

-- a number below the limit
unfoldable pub number_at : ℕ → List ℕ → Option (ℕ × List ℕ)
number_at limit bytes =
    if is_numeral (digits_front bytes)
    then (if nat_lt (read_on 0 (digits_front bytes)) limit then Some (read_on 0 (digits_front bytes), digits_rest bytes) else None)
    else None
