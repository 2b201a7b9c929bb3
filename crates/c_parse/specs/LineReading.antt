-- Reading one line of a program, from left to right.
use Rattle.std.specs.Prelude.{◌≡◌, ℕ, ◌^◌, ◌/◌, ◌%◌, ◌-◌, zero, suc, ◌+◌, pos, List, [], ◌∷◌, Option, Some, None, Bool, true, false, nat_eq, nat_le, if◌then◌else◌, codes}
use Rattle.c_ast.specs.declared.Name.{Name}
use Rattle.c_ast.specs.declared.Bound.{Bound}
use Rattle.c_ast.specs.declared.Bound.TheVariants as bounds
use Rattle.c_ast.specs.Rules.{same_name}
use Rattle.c_ast.specs.Syntax.{Exp, Place, scalar, cell, Asked, more, input, until, limit, Told, start, event, value, finish, stop}
use Rattle.c_ast.specs.Spelling.{name_text, Line, IndentedLine, row_of, header_line, scalar_line, array_line, function_line, main_line, set_line, ask_line, if_line, else_line, for_line, call_line, tell_line, close_line}
use Rattle.sci_text.specs.Reading.{◌>>=◌, or_else, after, ended}
use Rattle.sci_text.specs.Numbers.{number_at}
use Rattle.c_parse.specs.Reading.{closed, name_at, exp_at}

-- the value, where this text is all that is left
abbrev pub ending : {A : Type 0} → A → List ℕ → List ℕ → Option A
ending x text bytes = after text bytes >>= ended x

-- an expression at most 64 deep
unfoldable pub full_at : List ℕ → Option (Exp × List ℕ)
full_at bytes = exp_at 64 bytes

-- another argument
unfoldable pub next_at : List ℕ → Option (Exp × List ℕ)
next_at bytes = after (codes ", ") bytes >>= full_at

unfoldable pub target_at : List ℕ → Option (Place × List ℕ)
target_at bytes = name_at bytes >>= λ x. or_else (after (codes "[") x.1)
    (λ rest. full_at rest >>= λ a. closed (cell x.0 a.0) (codes "]") a.1)
    (Some (scalar x.0, x.1))

-- a question, behind `sci_`
unfoldable pub asked_at : List ℕ → Option (Asked × List ℕ)
asked_at bytes = or_else (after (codes "more(") bytes) (λ rest. full_at rest >>= λ a. closed (more a.0) (codes ")") a.1)
    (or_else (after (codes "input(") bytes) (λ rest. full_at rest >>= λ a. closed (input a.0) (codes ")") a.1)
    (or_else (after (codes "until()") bytes) (λ rest. Some (until, rest)) (closed limit (codes "limit()") bytes)))

-- what is assigned to this place
unfoldable pub assigned_at : Place → List ℕ → Option Line
assigned_at p bytes = or_else (after (codes "sci_") bytes)
    (λ rest. asked_at rest >>= λ a. ending (ask_line p a.0) (codes ";") a.1)
    (full_at bytes >>= λ e. ending (set_line p e.0) (codes ";") e.1)

-- a line that begins with a name
unfoldable pub named_at : List ℕ → Option Line
named_at bytes = name_at bytes >>= λ x. or_else (after (codes "();") x.1)
    (ended (call_line x.0))
    (target_at bytes >>= λ p. after (codes " = ") p.1 >>= assigned_at p.0)

unfoldable pub three_at : (Exp → Exp → Exp → Told) → List ℕ → Option (Told × List ℕ)
three_at make bytes = full_at bytes >>= λ a. next_at a.1 >>= λ b. next_at b.1 >>= λ c. closed (make a.0 b.0 c.0) (codes ")") c.1

unfoldable pub four_at : List ℕ → Option (Told × List ℕ)
four_at bytes = full_at bytes >>= λ a. next_at a.1 >>= λ b. next_at b.1 >>= λ c. next_at c.1 >>= λ d. closed (value a.0 b.0 c.0 d.0) (codes ")") d.1

-- an observation, behind `sci_`
unfoldable pub told_at : List ℕ → Option (Told × List ℕ)
told_at bytes = or_else (after (codes "start()") bytes) (λ rest. Some (start, rest))
    (or_else (after (codes "event(") bytes) (three_at event)
    (or_else (after (codes "val(") bytes) four_at
    (or_else (after (codes "end(") bytes) (λ rest. full_at rest >>= λ a. closed (finish a.0) (codes ")") a.1)
    (after (codes "stop(") bytes >>= three_at stop))))

unfoldable pub tell_at : List ℕ → Option Line
tell_at bytes = told_at bytes >>= λ t. ending (tell_line t.0) (codes ";") t.1

unfoldable pub bound_at : List ℕ → Option (Bound × List ℕ)
bound_at bytes = or_else (after (codes "INT64_C(") bytes)
    (λ rest. number_at (2 ^ 63) rest >>= λ n. closed (bounds.Num (pos n.0)) (codes ")") n.1)
    (name_at bytes >>= λ x. Some (bounds.Var x.0, x.1))

-- this name again
unfoldable pub same_at : Name → List ℕ → Option (List ℕ)
same_at x bytes = name_at bytes >>= λ y. if same_name x y.0 then Some y.1 else None

-- the rest of a loop's line, behind its bound
unfoldable pub counted_at : Name → Bound → List ℕ → Option Line
counted_at x b bytes = after (codes "; ") bytes >>= same_at x >>= after (codes " = ") >>= same_at x >>= ending (for_line x b) (codes " + INT64_C(1)) {")

-- a loop's line, behind `for (`
unfoldable pub for_at : List ℕ → Option Line
for_at bytes = name_at bytes >>= λ x. after (codes " = INT64_C(0); ") x.1 >>= same_at x.0 >>= after (codes " < ") >>= bound_at >>= λ b. counted_at x.0 b.0 b.1

-- the size of an array, behind its bracket
unfoldable pub size_at : Name → List ℕ → Option Line
size_at x bytes = number_at 1048577 bytes >>= λ n. if nat_le 1 n.0 then ending (array_line x n.0) (codes "];") n.1 else None

-- a declared variable, behind its type
unfoldable pub declared_at : List ℕ → Option Line
declared_at bytes = name_at bytes >>= λ x. or_else (after (codes "[") x.1) (size_at x.0) (ending (scalar_line x.0) (codes ";") x.1)

-- a declaration or a function's line, behind `static `
unfoldable pub static_at : List ℕ → Option Line
static_at bytes = or_else (after (codes "int64_t ") bytes) declared_at
    (after (codes "void ") bytes >>= name_at >>= λ f. ending (function_line f.0) (codes "(void) {") f.1)

-- a line that ends a list
unfoldable pub closing_at : List ℕ → Option Line
closing_at bytes = or_else (after (codes " else {") bytes) (ended else_line) (ended close_line bytes)

unfoldable pub if_at : List ℕ → Option Line
if_at bytes = full_at bytes >>= λ e. ending (if_line e.0) (codes ") {") e.1

-- a line without the blanks in front and without its LF
unfoldable pub line_at : List ℕ → Option Line
line_at bytes = or_else (after (codes "}") bytes) closing_at
    (or_else (after (codes "if (") bytes) if_at
    (or_else (after (codes "for (") bytes) for_at
    (or_else (after (codes "sci_") bytes) tell_at
    (or_else (after (codes "static ") bytes) static_at
    (or_else (after (codes "void sci_main(void) {") bytes) (ended main_line)
    (named_at bytes))))))

-- how many blanks stand in front
abbrev pub blanks : List ℕ → ℕ
blanks [] = 0
blanks (c ∷ cs) = if nat_eq c 32 then suc (blanks cs) else 0

-- what stands behind the blanks in front
abbrev pub unindented : List ℕ → List ℕ
unindented [] = []
unindented (c ∷ cs) = if nat_eq c 32 then unindented cs else c ∷ cs

-- a line with two blanks in front for each level
unfoldable pub row_at : List ℕ → Option IndentedLine
row_at bytes = if nat_eq (blanks bytes % 2) 0 then (line_at (unindented bytes) >>= λ l. Some (row_of (blanks bytes / 2) l)) else None
