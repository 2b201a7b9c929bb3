-- Which byte of a text is blamed.
use Rattle.std.specs.Prelude.{◌≡◌, ℕ, ◌≤◌, List, [], ◌++◌, length, take, drop, false, Some, map}
use Rattle.std.specs.List.{flat_map}
use Rattle.sci_text.specs.Lines.{has_lf, with_lf, joined, AllClear}
use Rattle.c_ast.specs.Syntax.{Whole}
use Rattle.c_ast.specs.Spelling.{IndentedLine, declared_row, function_rows, main_rows, spelling}
use Rattle.c_ast.specs.Bounds.{IsWhole}
use Rattle.c_parse.specs.Machine.{State, outset, passes}

-- the lines of a program behind the header
abbrev pub behind_rows : Whole → List IndentedLine
behind_rows p = map declared_row p.decls ++ (flat_map function_rows p.funcs ++ main_rows p.main)

-- the program within its bounds whose text this is
abbrev pub Spells : List ℕ → Whole → Type 0
Spells bytes p = IsWhole p × (bytes ≡ spelling p)

-- the beginning of some program's text
abbrev pub IsFront : List ℕ → Type 0
IsFront text = (p : Whole) × (more : List ℕ) × IsWhole p × (spelling p ≡ text ++ more)

-- No program spells these bytes: their lines up to byte n are together the beginning of some program's text, and the next line is not, or
-- has no LF, or is missing.
pub record Unspelled (bytes : List ℕ) (n : ℕ) : Type 0 where
  pub within : n ≤ length bytes
  -- n is the beginning of a line
  pub lines : (line : List ℕ) → (rest : List ℕ) → take n bytes ≡ rest ++ line → has_lf line ≡ false → line ≡ []
  pub front : IsFront (take n bytes)
  pub next : (line : List ℕ) → (rest : List ℕ) → has_lf line ≡ false → drop n bytes ≡ with_lf line ++ rest → IsFront (take n bytes ++ with_lf line) → ⊥
  pub none : (p : Whole) → Spells bytes p → ⊥

-- A text was read, all of it whole lines.
pub record Reached (text : List ℕ) (s : State) : Type 0 where
  pub lines : List (List ℕ)
  pub split : text ≡ joined lines
  pub clear : AllClear lines
  pub ran : passes lines outset ≡ Some s
