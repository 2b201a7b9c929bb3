-- Where the names of a program stand in its text: the first byte of each, in the order of what the text does with names.
use Rattle.std.specs.Prelude.{◌≡◌, ◌≤◌, ℕ, ◌+◌, ◌*◌, List, [], ◌∷◌, ◌++◌, length, drop, codes, Option, Some, None}
use Rattle.c_ast.specs.declared.Name.{Name}
use Rattle.c_ast.specs.declared.Bound.{Bound}
use Rattle.c_ast.specs.declared.Bound.TheVariants as bounds
use Rattle.c_ast.specs.declared.events.TextEvent.{TextEvent}
use Rattle.c_ast.specs.declared.events.TextEvent.TheVariants as events
use Rattle.c_ast.specs.Syntax.{Exp, num, var, element, neg, not, bin, Place, scalar, cell, Asked, more, input, until, limit, Told, start, event, value, finish, stop, Whole}
use Rattle.c_ast.specs.Spelling.{name_text, op_open, op_text, exp_text, place_text, Line, IndentedLine, header_line, scalar_line, array_line, function_line, main_line, set_line, ask_line, if_line, else_line, for_line, call_line, tell_line, close_line, row_text}
use Rattle.c_parse.specs.Machine.{header_text}
use Rattle.c_parse.specs.Blame.{behind_rows}

-- the byte behind this text, which begins at byte n
abbrev pub past : ℕ → List ℕ → ℕ
past n text = n + length text

-- of an expression whose text begins at byte n
abbrev pub exp_places : ℕ → Exp → List ℕ
exp_places n (num z) = []
exp_places n (var x) = n ∷ []
exp_places n (element x e) = n ∷ exp_places (past (past n (name_text x)) (codes "[")) e
exp_places n (neg e) = exp_places (past n (codes "(-")) e
exp_places n (not e) = exp_places (past n (codes "(int64_t)(!")) e
exp_places n (bin op a b) = exp_places (past n (op_open op)) a ++ exp_places (past (past (past n (op_open op)) (exp_text a)) (op_text op)) b

-- the byte of the argument behind this one
abbrev pub next_place : ℕ → Exp → ℕ
next_place n e = past (past n (exp_text e)) (codes ", ")

abbrev pub three_places : ℕ → Exp → Exp → Exp → List ℕ
three_places n a b c = exp_places n a ++ (exp_places (next_place n a) b ++ exp_places (next_place (next_place n a) b) c)

abbrev pub place_places : ℕ → Place → List ℕ
place_places n (scalar x) = n ∷ []
place_places n (cell x e) = n ∷ exp_places (past (past n (name_text x)) (codes "[")) e

abbrev pub asked_places : ℕ → Asked → List ℕ
asked_places n (more e) = exp_places (past n (codes "sci_more(")) e
asked_places n (input e) = exp_places (past n (codes "sci_input(")) e
asked_places n until = []
asked_places n limit = []

abbrev pub told_places : ℕ → Told → List ℕ
told_places n start = []
told_places n (event a b c) = three_places (past n (codes "sci_event(")) a b c
told_places n (value a b c d) = exp_places (past n (codes "sci_val(")) a ++ three_places (next_place (past n (codes "sci_val(")) a) b c d
told_places n (finish a) = exp_places (past n (codes "sci_end(")) a
told_places n (stop a b c) = three_places (past n (codes "sci_stop(")) a b c

abbrev pub bound_places : ℕ → Bound → List ℕ
bound_places n (bounds.Num z) = []
bound_places n (bounds.Var x) = n ∷ []

-- the byte of a loop's bound, by that of its counter
abbrev pub bound_place : ℕ → List ℕ → ℕ
bound_place n name = past (past (past (past n name) (codes " = INT64_C(0); ")) name) (codes " < ")

-- of a line whose text behind its blanks begins at byte n; what has no name stands at that byte, and an If behind its condition
abbrev pub line_places : ℕ → Line → List ℕ
line_places n (header_line t) = []
line_places n (scalar_line x) = past n (codes "static int64_t ") ∷ []
line_places n (array_line x k) = past n (codes "static int64_t ") ∷ []
line_places n (function_line f) = past n (codes "static void ") ∷ []
line_places n main_line = n ∷ []
line_places n (set_line p e) = place_places n p ++ exp_places (past (past n (place_text p)) (codes " = ")) e
line_places n (ask_line p a) = place_places n p ++ asked_places (past (past n (place_text p)) (codes " = ")) a
line_places n (if_line e) = exp_places (past n (codes "if (")) e ++ past (past n (codes "if (")) (exp_text e) ∷ []
line_places n else_line = []
line_places n (for_line x b) = past n (codes "for (") ∷ bound_places (bound_place (past n (codes "for (")) (name_text x)) b
line_places n (call_line f) = n ∷ []
line_places n (tell_line t) = told_places n t
line_places n close_line = n ∷ []

-- of a line that begins at byte n
abbrev pub row_places : ℕ → IndentedLine → List ℕ
row_places n r = line_places (n + 2 * r.depth) r.line

-- of lines of which the first begins at byte n
abbrev pub rows_places : ℕ → List IndentedLine → List ℕ
rows_places n [] = []
rows_places n (r ∷ rs) = row_places n r ++ rows_places (past n (row_text r)) rs

-- of a program; the header has none
abbrev pub program_places : Whole → List ℕ
program_places p = rows_places (length header_text) (behind_rows p)

-- the name of what the text does
abbrev pub name_of : TextEvent → Option Name
name_of (events.Declare x size) = Some x
name_of (events.Function f) = Some f
name_of events.Main = None
name_of (events.Read x k) = Some x
name_of (events.Assign x k) = Some x
name_of (events.Loop x n) = Some x
name_of (events.Call f) = Some f
name_of events.If = None
name_of events.Close = None

-- the text begins with this name
abbrev pub Begins : List ℕ → Option Name → Type 0
Begins text None = Unit {0}
Begins text (Some x) = (rest : List ℕ) × (text ≡ name_text x ++ rest)

-- there is one place for each event, and the event's name begins there
abbrev pub NamesStand : List ℕ → List ℕ → List TextEvent → Type 0
NamesStand text [] [] = Unit {0}
NamesStand text (n ∷ ns) (e ∷ es) = Begins (drop n text) (name_of e) × NamesStand text ns es
NamesStand text [] (e ∷ es) = ⊥
NamesStand text (n ∷ ns) [] = ⊥

-- numbers that rise, from low on and below high
abbrev pub Rise : ℕ → List ℕ → ℕ → Type 0
Rise low [] high = low ≤ high
Rise low (n ∷ ns) high = (low ≤ n) × Rise (n + 1) ns high
