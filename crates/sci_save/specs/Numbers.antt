-- Numbers of a line, from left to right: what was read and the bytes behind it, or none.
use Rattle.std.specs.Prelude.{ℕ, zero, suc, ◌^◌, ℤ, pos, negsuc, List, [], ◌∷◌, ◌++◌, codes, decimal, Option, Some, None, if◌then◌else◌}
use Rattle.sci_text.specs.Reading.{◌>>=◌, or_else, after}
use Rattle.sci_text.specs.Numbers.{number_at}
use Rattle.sci_save.specs.declared.bounds.Bounds.{Bounds}
use Rattle.sci_save.specs.Bounds.{is_within}

-- the number below 0 of this size, of which 0 has none
abbrev pub below_zero : ℕ → List ℕ → Option (ℤ × List ℕ)
below_zero zero rest = None
below_zero (suc n) rest = Some (negsuc n, rest)

-- a number with its sign, in its one spelling
unfoldable pub signed_at : List ℕ → Option (ℤ × List ℕ)
signed_at bytes = or_else (after (codes "-") bytes)
    (λ rest. number_at (2 ^ 63) rest >>= λ x. below_zero x.0 x.1)
    (number_at (2 ^ 63) bytes >>= λ x. Some (pos x.0, x.1))

abbrev pub where_within : Bounds → ℤ × List ℕ → Option (ℤ × List ℕ)
where_within r x = if is_within r x.0 then Some x else None

-- a number within the bounds, behind a space
unfoldable pub next_number : Bounds → List ℕ → Option (ℤ × List ℕ)
next_number r bytes = after (codes " ") bytes >>= λ rest. signed_at rest >>= λ x. where_within r x

-- the end of a line
abbrev pub line_end : List ℕ → Option (List ℤ × List ℕ)
line_end bytes = after (codes "\n") bytes >>= λ rest. Some ([], rest)

-- a number within each of the bounds, and the end of the line
unfoldable pub numbers_at : List Bounds → List ℕ → Option (List ℤ × List ℕ)
numbers_at [] bytes = line_end bytes
numbers_at (r ∷ rs) bytes = next_number r bytes >>= λ x. numbers_at rs x.1 >>= λ xs. Some (x.0 ∷ xs.0, xs.1)

-- behind the beginning of a line
abbrev pub behind : List ℕ → List Bounds → List ℕ → Option (List ℤ × List ℕ)
behind start bounds bytes = after start bytes >>= λ rest. numbers_at bounds rest

-- the beginning of a block's line
abbrev pub start_text : List ℕ → ℕ → List ℕ
start_text word b = word ++ (codes " " ++ decimal b)

-- what stands behind it, piece by piece
unfoldable pub behind_start : List ℕ → ℕ → List ℕ → Option (List ℕ)
behind_start word b bytes = after word bytes >>= λ rest. after (codes " ") rest >>= λ rest. after (decimal b) rest
