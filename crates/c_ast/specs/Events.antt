-- What the text of a program does with names, name by name in the order of the text.
use Rattle.std.specs.Prelude.{List, [], ◌∷◌, ◌++◌, Some, None, map}
use Rattle.std.specs.List.{flat_map}
use Rattle.c_ast.specs.declared.Bound.{Bound}
use Rattle.c_ast.specs.declared.Bound.TheVariants as bounds
use Rattle.c_ast.specs.declared.events.NameKind.TheVariants as kinds
use Rattle.c_ast.specs.declared.events.TextEvent.{TextEvent}
use Rattle.c_ast.specs.declared.events.TextEvent.TheVariants as events
use Rattle.c_ast.specs.Syntax.{Exp, num, var, element, neg, not, bin, Place, scalar, cell, Asked, more, input, until, limit, Told, start, event, value, finish, stop, Statement, set, ask, choice, loop, call, tell, Block, done, next, Declared, Function, Whole}
use Rattle.c_ast.specs.Spelling.{Line, IndentedLine, header_line, scalar_line, array_line, function_line, main_line, set_line, ask_line, if_line, else_line, for_line, call_line, tell_line, close_line}

abbrev pub exp_events : Exp → List TextEvent
exp_events (num z) = []
exp_events (var x) = events.Read x kinds.Scalar ∷ []
exp_events (element x e) = events.Read x kinds.Array ∷ exp_events e
exp_events (neg e) = exp_events e
exp_events (not e) = exp_events e
exp_events (bin op a b) = exp_events a ++ exp_events b

abbrev pub place_events : Place → List TextEvent
place_events (scalar x) = events.Assign x kinds.Scalar ∷ []
place_events (cell x e) = events.Assign x kinds.Array ∷ exp_events e

abbrev pub asked_events : Asked → List TextEvent
asked_events (more e) = exp_events e
asked_events (input e) = exp_events e
asked_events until = []
asked_events limit = []

abbrev pub told_events : Told → List TextEvent
told_events start = []
told_events (event a b c) = exp_events a ++ (exp_events b ++ exp_events c)
told_events (value a b c d) = exp_events a ++ (exp_events b ++ (exp_events c ++ exp_events d))
told_events (finish a) = exp_events a
told_events (stop a b c) = exp_events a ++ (exp_events b ++ exp_events c)

abbrev pub bound_events : Bound → List TextEvent
bound_events (bounds.Num z) = []
bound_events (bounds.Var x) = events.Read x kinds.Scalar ∷ []

abbrev mutual
  pub statement_events : Statement → List TextEvent
  statement_events (set p e) = place_events p ++ exp_events e
  statement_events (ask p a) = place_events p ++ asked_events a
  statement_events (choice e a b) = exp_events e ++ (events.If ∷ (block_events a ++ (block_events b ++ events.Close ∷ [])))
  statement_events (loop x n s) = events.Loop x n ∷ (bound_events n ++ (block_events s ++ events.Close ∷ []))
  statement_events (call f) = events.Call f ∷ []
  statement_events (tell t) = told_events t

  pub block_events : Block → List TextEvent
  block_events done = []
  block_events (next s b) = statement_events s ++ block_events b

abbrev pub declared_event : Declared → TextEvent
declared_event d = events.Declare d.name d.size

abbrev pub function_events : Function → List TextEvent
function_events f = events.Function f.name ∷ (block_events f.body ++ events.Close ∷ [])

abbrev pub main_events : Block → List TextEvent
main_events b = events.Main ∷ (block_events b ++ events.Close ∷ [])

-- what a whole program does
abbrev pub program_events : Whole → List TextEvent
program_events p = map declared_event p.decls ++ (flat_map function_events p.funcs ++ main_events p.main)

-- The same, line by line.
abbrev pub line_events : Line → List TextEvent
line_events (header_line t) = []
line_events (scalar_line x) = events.Declare x None ∷ []
line_events (array_line x n) = events.Declare x (Some n) ∷ []
line_events (function_line f) = events.Function f ∷ []
line_events main_line = events.Main ∷ []
line_events (set_line p e) = place_events p ++ exp_events e
line_events (ask_line p a) = place_events p ++ asked_events a
line_events (if_line e) = exp_events e ++ events.If ∷ []
line_events else_line = []
line_events (for_line x n) = events.Loop x n ∷ bound_events n
line_events (call_line f) = events.Call f ∷ []
line_events (tell_line t) = told_events t
line_events close_line = events.Close ∷ []

abbrev pub rows_events : List IndentedLine → List TextEvent
rows_events rows = flat_map (λ r. line_events r.line) rows
