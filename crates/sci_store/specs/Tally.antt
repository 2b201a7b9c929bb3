-- What is counted of a run.
use Rattle.std.specs.Prelude.{ℕ, zero, suc, ◌+◌, ◌%◌, min, ℤ, pos, List, [], ◌∷◌, unsigned_abs}
use Rattle.std.specs.Int.{int_rem_euclid}

-- so many observations more; a full count stays
abbrev pub lines_after : ℕ → ℕ → ℕ
lines_after lines zero = lines
lines_after lines (suc more) = min (lines_after lines more + 1) 18446744073709551615

-- a value more, modulo 2^32
abbrev pub sum_after : ℕ → ℤ → ℕ
sum_after sum value = (sum + unsigned_abs (int_rem_euclid value (pos 4294967296))) % 4294967296

-- the sum with these values more
abbrev pub sum_with : ℕ → List ℤ → ℕ
sum_with sum [] = sum
sum_with sum (v ∷ vs) = sum_with (sum_after sum v) vs
