-- The lines of a text. A line has its line feed; bytes behind the last line feed are an unfinished line.
use Rattle.std.specs.Prelude.{◌≡◌, ℕ, zero, suc, ◌+◌, ◌≤◌, ◌==◌, Bool, if◌then◌else◌, List, [], ◌∷◌, Option, Some, None, option_map}

-- the byte at the end of a line
abbrev pub is_line_feed : ℕ → Bool
is_line_feed byte = byte == 10

-- how many lines a text has, an unfinished one not counted
abbrev pub lines_of : List ℕ → ℕ
lines_of [] = 0
lines_of (x ∷ xs) = (if is_line_feed x then 1 else 0) + lines_of xs

-- of k + 1 lines, those that are left behind a byte
abbrev pub left_behind : ℕ → ℕ → ℕ
left_behind byte k = if is_line_feed byte then k else suc k

-- the first k lines, where there are so many
abbrev pub first_lines : List ℕ → ℕ → Option (List ℕ)
first_lines [] zero = Some []
first_lines [] (suc k) = None
first_lines (x ∷ xs) zero = Some []
first_lines (x ∷ xs) (suc k) = option_map (λ ys. x ∷ ys) (first_lines xs (left_behind x k))

-- both texts have k lines or more, and the first k are equal
pub record AgreeOn (k : ℕ) (text other : List ℕ) : Type 0 where
  pub front : List ℕ
  pub in_text : first_lines text k ≡ Some front
  pub in_other : first_lines other k ≡ Some front

-- the greatest number of leading lines that both have and that are equal
pub record IsAgreement (text other : List ℕ) (k : ℕ) : Type 0 where
  pub agree : AgreeOn k text other
  pub most : (j : ℕ) → AgreeOn j text other → j ≤ k

-- ---- one line

-- up to its line feed, or all there is of an unfinished one; nothing of an empty text
abbrev pub first_line : List ℕ → List ℕ
first_line [] = []
first_line (x ∷ xs) = x ∷ (if is_line_feed x then [] else first_line xs)

-- what stands behind the first k lines
abbrev pub behind_lines : List ℕ → ℕ → List ℕ
behind_lines [] k = []
behind_lines (x ∷ xs) zero = x ∷ xs
behind_lines (x ∷ xs) (suc k) = behind_lines xs (left_behind x k)

-- the line behind the first k; nothing where there is none
abbrev pub line_behind : List ℕ → ℕ → List ℕ
line_behind text k = first_line (behind_lines text k)
