-- How a program is spelled: each has one text, and no two share one.
use Rattle.std.specs.Prelude.{ℕ, suc, ◌*◌, List, [], ◌∷◌, ◌++◌, Option, Some, None, codes, decimal, replicate, Bool, true, false, if◌then◌else◌, map}
use Rattle.std.specs.List.{flat_map}
use Rattle.std.specs.Fmt.{signed_decimal}
use Rattle.c_ast.specs.declared.Name.{Name}
use Rattle.c_ast.specs.declared.Op.{Op}
use Rattle.c_ast.specs.declared.Op.TheVariants.{Add, Sub, Mul, Div, Rem, Lt, Le, Gt, Ge, Eq, Ne, And, Or}
use Rattle.c_ast.specs.declared.Bound.{Bound}
use Rattle.c_ast.specs.declared.Bound.TheVariants as bounds
use Rattle.c_ast.specs.Syntax.{Exp, num, var, element, neg, not, bin, Place, scalar, cell, Asked, more, input, until, limit, Told, start, event, value, finish, stop, Statement, set, ask, choice, loop, call, tell, Block, done, next, Declared, Function, Whole}

abbrev pub name_text : Name → List ℕ
name_text x = x.letter ∷ decimal x.number

-- what stands between the two sides
abbrev pub op_text : Op → List ℕ
op_text Add = codes " + "
op_text Sub = codes " - "
op_text Mul = codes " * "
op_text Div = codes " / "
op_text Rem = codes " % "
op_text Lt = codes " < "
op_text Le = codes " <= "
op_text Gt = codes " > "
op_text Ge = codes " >= "
op_text Eq = codes " == "
op_text Ne = codes " != "
op_text And = codes " && "
op_text Or = codes " || "

-- Add to Rem give an int64_t as they stand, the others are cast to one
abbrev pub is_arithmetic : Op → Bool
is_arithmetic Add = true
is_arithmetic Sub = true
is_arithmetic Mul = true
is_arithmetic Div = true
is_arithmetic Rem = true
is_arithmetic Lt = false
is_arithmetic Le = false
is_arithmetic Gt = false
is_arithmetic Ge = false
is_arithmetic Eq = false
is_arithmetic Ne = false
is_arithmetic And = false
is_arithmetic Or = false

abbrev pub op_open : Op → List ℕ
op_open op = if is_arithmetic op then codes "(" else codes "(int64_t)("

abbrev pub exp_text : Exp → List ℕ
exp_text (num z) = codes "INT64_C(" ++ (signed_decimal z ++ codes ")")
exp_text (var x) = name_text x
exp_text (element x e) = name_text x ++ (codes "[" ++ (exp_text e ++ codes "]"))
exp_text (neg e) = codes "(-" ++ (exp_text e ++ codes ")")
exp_text (not e) = codes "(int64_t)(!" ++ (exp_text e ++ codes ")")
exp_text (bin op a b) = op_open op ++ (exp_text a ++ (op_text op ++ (exp_text b ++ codes ")")))

abbrev pub place_text : Place → List ℕ
place_text (scalar x) = name_text x
place_text (cell x e) = name_text x ++ (codes "[" ++ (exp_text e ++ codes "]"))

abbrev pub asked_text : Asked → List ℕ
asked_text (more e) = codes "sci_more(" ++ (exp_text e ++ codes ")")
asked_text (input e) = codes "sci_input(" ++ (exp_text e ++ codes ")")
asked_text until = codes "sci_until()"
asked_text limit = codes "sci_limit()"

abbrev pub told_text : Told → List ℕ
told_text start = codes "sci_start()"
told_text (event a b c) = codes "sci_event(" ++ (exp_text a ++ (codes ", " ++ (exp_text b ++ (codes ", " ++ (exp_text c ++ codes ")")))))
told_text (value a b c d) = codes "sci_val(" ++ (exp_text a ++ (codes ", " ++ (exp_text b ++ (codes ", " ++ (exp_text c ++ (codes ", " ++ (exp_text d ++ codes ")")))))))
told_text (finish a) = codes "sci_end(" ++ (exp_text a ++ codes ")")
told_text (stop a b c) = codes "sci_stop(" ++ (exp_text a ++ (codes ", " ++ (exp_text b ++ (codes ", " ++ (exp_text c ++ codes ")")))))

abbrev pub bound_text : Bound → List ℕ
bound_text (bounds.Num z) = codes "INT64_C(" ++ (signed_decimal z ++ codes ")")
bound_text (bounds.Var x) = name_text x

-- One line of the text, without its blanks in front and its LF.
pub data Line : Type 0 where
  header_line : List ℕ → Line
  scalar_line : Name → Line
  array_line : Name → ℕ → Line
  function_line : Name → Line
  main_line : Line
  set_line : Place → Exp → Line
  ask_line : Place → Asked → Line
  if_line : Exp → Line
  else_line : Line
  for_line : Name → Bound → Line
  call_line : Name → Line
  tell_line : Told → Line
  close_line : Line

-- a line and its depth
pub record IndentedLine : Type 0 where
  pub depth : ℕ
  pub line : Line

abbrev pub line_text : Line → List ℕ
line_text (header_line t) = t
line_text (scalar_line x) = codes "static int64_t " ++ (name_text x ++ codes ";")
line_text (array_line x n) = codes "static int64_t " ++ (name_text x ++ (codes "[" ++ (decimal n ++ codes "];")))
line_text (function_line f) = codes "static void " ++ (name_text f ++ codes "(void) {")
line_text main_line = codes "void sci_main(void) {"
line_text (set_line p e) = place_text p ++ (codes " = " ++ (exp_text e ++ codes ";"))
line_text (ask_line p a) = place_text p ++ (codes " = " ++ (asked_text a ++ codes ";"))
line_text (if_line e) = codes "if (" ++ (exp_text e ++ codes ") {")
line_text else_line = codes "} else {"
line_text (for_line x b) = codes "for (" ++ (name_text x ++ (codes " = INT64_C(0); " ++ (name_text x ++ (codes " < " ++ (bound_text b ++ (codes "; " ++ (name_text x ++ (codes " = " ++ (name_text x ++ codes " + INT64_C(1)) {")))))))))
line_text (call_line f) = name_text f ++ codes "();"
line_text (tell_line t) = told_text t ++ codes ";"
line_text close_line = codes "}"

abbrev pub row_of : ℕ → Line → IndentedLine
row_of d l = record { depth = d; line = l }

abbrev pub row_text : IndentedLine → List ℕ
row_text r = replicate (2 * r.depth) 32 ++ (line_text r.line ++ codes "\n")

abbrev pub at_depth : ℕ → Line → List IndentedLine
at_depth d l = row_of d l ∷ []

-- the lines of statements at this depth
abbrev mutual
  pub statement_rows : ℕ → Statement → List IndentedLine
  statement_rows d (set p e) = at_depth d (set_line p e)
  statement_rows d (ask p a) = at_depth d (ask_line p a)
  statement_rows d (choice e a b) = at_depth d (if_line e) ++ (block_rows (suc d) a ++ else_rows d b)
  statement_rows d (loop x b s) = at_depth d (for_line x b) ++ (block_rows (suc d) s ++ at_depth d close_line)
  statement_rows d (call f) = at_depth d (call_line f)
  statement_rows d (tell t) = at_depth d (tell_line t)

  pub block_rows : ℕ → Block → List IndentedLine
  block_rows d done = []
  block_rows d (next s b) = statement_rows d s ++ block_rows d b

  -- the end of an If, with its second list
  pub else_rows : ℕ → Block → List IndentedLine
  else_rows d done = at_depth d close_line
  else_rows d (next s b) = at_depth d else_line ++ ((statement_rows (suc d) s ++ block_rows (suc d) b) ++ at_depth d close_line)

-- the lines in front of each program
abbrev pub header_lines : List (List ℕ)
header_lines =
    codes "#include <stdint.h>"
    ∷ codes "extern void sci_start(void);"
    ∷ codes "extern void sci_event(int64_t a, int64_t b, int64_t c);"
    ∷ codes "extern void sci_val(int64_t a, int64_t b, int64_t c, int64_t d);"
    ∷ codes "extern void sci_end(int64_t a);"
    ∷ codes "extern void sci_stop(int64_t a, int64_t b, int64_t c);"
    ∷ codes "extern int64_t sci_more(int64_t a);"
    ∷ codes "extern int64_t sci_input(int64_t a);"
    ∷ codes "extern int64_t sci_until(void);"
    ∷ codes "extern int64_t sci_limit(void);"
    ∷ []

abbrev pub header_row : List ℕ → IndentedLine
header_row t = row_of 0 (header_line t)

abbrev pub declared_line : Name → Option ℕ → Line
declared_line x None = scalar_line x
declared_line x (Some n) = array_line x n

abbrev pub declared_row : Declared → IndentedLine
declared_row d = row_of 0 (declared_line d.name d.size)

abbrev pub function_rows : Function → List IndentedLine
function_rows f = at_depth 0 (function_line f.name) ++ (block_rows 1 f.body ++ at_depth 0 close_line)

abbrev pub main_rows : Block → List IndentedLine
main_rows b = at_depth 0 main_line ++ (block_rows 1 b ++ at_depth 0 close_line)

-- the lines of a program, in order
abbrev pub program_rows : Whole → List IndentedLine
program_rows p = map header_row header_lines ++ (map declared_row p.decls ++ (flat_map function_rows p.funcs ++ main_rows p.main))

abbrev pub rows_text : List IndentedLine → List ℕ
rows_text rows = flat_map row_text rows

-- the one text of a program
abbrev pub spelling : Whole → List ℕ
spelling p = rows_text (program_rows p)
