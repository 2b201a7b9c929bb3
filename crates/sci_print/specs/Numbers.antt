-- Lines of a word and numbers.
use Rattle.std.specs.Prelude.{ℕ, List, [], ◌∷◌, ◌++◌, codes, decimal}

unfoldable pub spaced : ℕ → List ℕ
spaced n = codes " " ++ decimal n

-- the numbers, each behind a space
abbrev pub all_spaced : List ℕ → List ℕ
all_spaced [] = []
all_spaced (n ∷ ns) = spaced n ++ all_spaced ns

-- the word, the numbers, and the end of the line
unfoldable pub numbers_line : (word numbers : List ℕ) → List ℕ
numbers_line word numbers = word ++ (all_spaced numbers ++ codes "\n")
