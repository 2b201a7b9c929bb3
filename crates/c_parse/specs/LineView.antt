-- The line that was read, without where it lies in memory.
use Rattle.std.specs.Prelude.{ℕ, Option, List}
use Rattle.c_parse.specs.declared.line.Item.{Item}
use Rattle.c_parse.specs.declared.line.Item.TheVariants as items
use Rattle.c_parse.specs.declared.line.Indented.{Indented}
use Rattle.c_ast.specs.View.{exp_of, place_of, asked_of, told_of}
use Rattle.c_ast.specs.Spelling.{Line, IndentedLine, row_of, scalar_line, array_line, function_line, main_line, set_line, ask_line, if_line, else_line, for_line, call_line, tell_line, close_line}

abbrev pub line_of : Item → Line
line_of (items.Scalar x) = scalar_line x
line_of (items.Array x n) = array_line x n
line_of (items.Function f) = function_line f
line_of items.Main = main_line
line_of (items.Set t e) = set_line (place_of t) (exp_of e)
line_of (items.Ask t a) = ask_line (place_of t) (asked_of a)
line_of (items.If e) = if_line (exp_of e)
line_of items.Else = else_line
line_of (items.For x n) = for_line x n
line_of (items.Call f) = call_line f
line_of (items.Tell t) = tell_line (told_of t)
line_of items.Close = close_line

abbrev pub indented_of : Indented → IndentedLine
indented_of i = row_of i.depth (line_of i.item)
