-- The bounds of one line, and its text.
use Rattle.std.specs.Prelude.{◌≡◌, ℕ, ◌*◌, ◌≤◌, List, ◌++◌, codes, replicate}
use Rattle.c_ast.specs.Spelling.{Line, IndentedLine, header_line, scalar_line, array_line, function_line, main_line, set_line, ask_line, if_line, else_line, for_line, call_line, tell_line, close_line, line_text}
use Rattle.c_ast.specs.Bounds.{IsName, IsExp, IsPlace, IsAsked, IsTold, IsBound}

-- a line behind the header, its parts within their bounds
abbrev pub IsLine : Line → Type 0
IsLine (header_line t) = ⊥
IsLine (scalar_line x) = IsName x
IsLine (array_line x n) = IsName x × ((1 ≤ n) × (n ≤ 1048576))
IsLine (function_line f) = IsName f
IsLine main_line = Unit {0}
IsLine (set_line p e) = IsPlace p × IsExp e
IsLine (ask_line p a) = IsPlace p × IsAsked a
IsLine (if_line e) = IsExp e
IsLine else_line = Unit {0}
IsLine (for_line x b) = IsName x × IsBound b
IsLine (call_line f) = IsName f
IsLine (tell_line t) = IsTold t
IsLine close_line = Unit {0}

-- a line's bytes without its LF
abbrev pub row_bytes : IndentedLine → List ℕ
row_bytes r = replicate (2 * r.depth) 32 ++ line_text r.line
