-- Programs put together line by line. What is open stands in the state: a line passes where it and the lines before it begin the lines of
-- some program.
use Rattle.std.specs.Prelude.{◌≡◌, ℕ, zero, suc, ◌+◌, ◌-◌, ◌<◌, ◌≤◌, List, [], ◌∷◌, ◌++◌, Option, Some, None, Bool, true, false, ◌&&◌, nat_eq, nat_lt, if◌then◌else◌, codes}
use Rattle.std.specs.List.{flat_map}
use Rattle.c_ast.specs.declared.Name.{Name}
use Rattle.c_ast.specs.declared.Bound.{Bound}
use Rattle.c_ast.specs.Syntax.{Exp, Place, Asked, Told, Statement, set, ask, choice, loop, call, tell, Block, done, next, Declared, Function, Whole}
use Rattle.c_ast.specs.Spelling.{Line, IndentedLine, row_of, header_line, scalar_line, array_line, function_line, main_line, set_line, ask_line, if_line, else_line, for_line, call_line, tell_line, close_line, header_lines}
use Rattle.sci_text.specs.Reading.{◌>>=◌, after}
use Rattle.sci_text.specs.Lines.{through}
use Rattle.c_parse.specs.LineReading.{row_at}

-- What a block inside another was opened for.
pub data Opened : Type 0 where
  first : Exp → Opened
  second : Exp → Block → Opened
  turn : Name → Bound → Opened

-- The open blocks, the innermost first: the statements that stand in each so far, and what it was opened for.
pub data Open : Type 0 where
  bottom : Block → Open
  inner : Block → Opened → Open → Open

abbrev pub append : Block → Block → Block
append done b = b
append (next s a) b = next s (append a b)

abbrev pub one : Statement → Block
one s = next s done

-- how deep the statements of the innermost block stand
abbrev pub depth_of : Open → ℕ
depth_of (bottom b) = 1
depth_of (inner b o k) = suc (depth_of k)

-- one more statement in the innermost block
abbrev pub add : Statement → Open → Open
add s (bottom b) = bottom (append b (one s))
add s (inner b o k) = inner (append b (one s)) o k

-- the innermost block is closed, which ends its statement
abbrev pub closes : Block → Opened → Open → Option Open
closes b (first e) k = Some (add (choice e b done) k)
closes done (second e a) k = None
closes (next s b) (second e a) k = Some (add (choice e a (next s b)) k)
closes b (turn x n) k = Some (add (loop x n b) k)

abbrev pub close : Open → Option Open
close (bottom b) = None
close (inner b o k) = closes b o k

-- the second list of an If begins, which mustn't stay empty
abbrev pub otherwise : Open → Option Open
otherwise (bottom b) = None
otherwise (inner b (first e) k) = Some (inner done (second e b) k)
otherwise (inner b (second e a) k) = None
otherwise (inner b (turn x n) k) = None

-- one line among the statements; a closing line stands one step further out
abbrev pub step_line : Line → Open → Option Open
step_line (set_line p e) o = Some (add (set p e) o)
step_line (ask_line p a) o = Some (add (ask p a) o)
step_line (if_line e) o = Some (inner done (first e) o)
step_line else_line o = otherwise o
step_line (for_line x n) o = Some (inner done (turn x n) o)
step_line (call_line f) o = Some (add (call f) o)
step_line (tell_line t) o = Some (add (tell t) o)
step_line close_line o = close o
step_line (header_line t) o = None
step_line (scalar_line x) o = None
step_line (array_line x n) o = None
step_line (function_line f) o = None
step_line main_line o = None

abbrev pub outer_depth : Open → ℕ
outer_depth (bottom b) = 1
outer_depth (inner b o k) = depth_of k

-- a line that ends a list stands one step further out
abbrev pub is_outer : Line → Bool
is_outer else_line = true
is_outer close_line = true
is_outer (set_line p e) = false
is_outer (ask_line p a) = false
is_outer (if_line e) = false
is_outer (for_line x n) = false
is_outer (call_line f) = false
is_outer (tell_line t) = false
is_outer (header_line t) = false
is_outer (scalar_line x) = false
is_outer (array_line x n) = false
is_outer (function_line f) = false
is_outer main_line = false

abbrev pub expected_depth : Line → Open → ℕ
expected_depth l o = if is_outer l then outer_depth o else depth_of o

-- statements are nested at most 16 deep: a line passes that needs a statement in the innermost block only where one may stand there
abbrev pub is_close : Line → Bool
is_close close_line = true
is_close else_line = false
is_close (set_line p e) = false
is_close (ask_line p a) = false
is_close (if_line e) = false
is_close (for_line x n) = false
is_close (call_line f) = false
is_close (tell_line t) = false
is_close (header_line t) = false
is_close (scalar_line x) = false
is_close (array_line x n) = false
is_close (function_line f) = false
is_close main_line = false

abbrev pub has_room : Line → Open → Bool
has_room l o = if is_close l then true else nat_lt (depth_of o) 17

abbrev pub step_row : IndentedLine → Open → Option Open
step_row r o = if nat_eq (expected_depth r.line o) r.depth && has_room r.line o then step_line r.line o else None

-- What was read of a whole program.
pub data State : Type 0 where
  -- inside the header, of which this text is missing
  heading : List ℕ → State
  -- between declarations and functions
  outside : List Declared → List Function → State
  -- in the body of a function, or of sci_main
  body : List Declared → List Function → Option Name → Open → State
  -- behind the last line
  over : Whole → State

unfoldable pub header_text : List ℕ
header_text = flat_map (λ t. t ++ codes "\n") header_lines

abbrev pub outset : State
outset = heading header_text

abbrev pub begun : List ℕ → State
begun [] = outside [] []
begun (c ∷ cs) = heading (c ∷ cs)

-- one more declaration, before the first function
abbrev pub declares : Declared → List Declared → List Function → Option State
declares d ds [] = Some (outside (ds ++ d ∷ []) [])
declares d ds (f ∷ fs) = None

abbrev pub step_outside : Line → List Declared → List Function → Option State
step_outside (scalar_line x) ds fs = declares (record { name = x; size = None }) ds fs
step_outside (array_line x n) ds fs = declares (record { name = x; size = Some n }) ds fs
step_outside (function_line f) ds fs = Some (body ds fs (Some f) (bottom done))
step_outside main_line ds fs = Some (body ds fs None (bottom done))
step_outside (header_line t) ds fs = None
step_outside (set_line p e) ds fs = None
step_outside (ask_line p a) ds fs = None
step_outside (if_line e) ds fs = None
step_outside else_line ds fs = None
step_outside (for_line x n) ds fs = None
step_outside (call_line f) ds fs = None
step_outside (tell_line t) ds fs = None
step_outside close_line ds fs = None

-- the end of a body
abbrev pub ends_body : List Declared → List Function → Option Name → Block → State
ends_body ds fs (Some f) b = outside ds (fs ++ record { name = f; body = b } ∷ [])
ends_body ds fs None b = over (record { decls = ds; funcs = fs; main = b })

-- whether the line ends the body
abbrev pub is_end : IndentedLine → Open → Bool
is_end r (bottom b) = is_close r.line && nat_eq r.depth 0
is_end r (inner b o k) = false

abbrev pub body_of : Open → Block
body_of (bottom b) = b
body_of (inner b o k) = done

abbrev pub step_body : IndentedLine → List Declared → List Function → Option Name → Open → Option State
step_body r ds fs owner o =
    if is_end r o then Some (ends_body ds fs owner (body_of o)) else (step_row r o >>= λ p. Some (body ds fs owner p))

abbrev pub step : IndentedLine → State → Option State
step r (heading t) = None
step r (outside ds fs) = if nat_eq r.depth 0 then step_outside r.line ds fs else None
step r (body ds fs owner o) = step_body r ds fs owner o
step r (over p) = None

-- one line of a text, without its LF
abbrev pub pass : List ℕ → State → Option State
pass line (heading t) = after line t >>= after (codes "\n") >>= λ rest. Some (begun rest)
pass line (outside ds fs) = row_at line >>= λ r. step r (outside ds fs)
pass line (body ds fs owner o) = row_at line >>= λ r. step r (body ds fs owner o)
pass line (over p) = None

abbrev pub passes : List (List ℕ) → State → Option State
passes = through pass
