-- What is laid down for the lines of values, before the first is written.
use Rattle.std.specs.Prelude.{◌≡◌, ℕ, ◌+◌, ◌<◌, List, [], ◌++◌, length, codes, decimal, slice_index_or}
use Rattle.sci_vcd.specs.Spelling.{binary}

-- what stands behind the digits on the line of signal n
abbrev pub end_text : ℕ → List ℕ
end_text n = codes " v" ++ (decimal n ++ codes "\n")

-- this for each of so many signals, and the digits of each number below 256
pub record AreLaidDown (count : ℕ) (ends eights : List (List ℕ)) : Type 0 where
  pub ends_long : length ends ≡ count
  pub end_is : (k : ℕ) → k < count → slice_index_or ends k [] ≡ end_text (k + 1)
  pub eights_long : length eights ≡ 256
  pub eight_is : (k : ℕ) → k < 256 → slice_index_or eights k [] ≡ binary 8 k
