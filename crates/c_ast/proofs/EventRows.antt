-- The events of a program are those of its lines.
use Rattle.std.proofs.Common.{◌≡◌, ℕ, suc, List, [], ◌∷◌, ◌++◌, map, refl, sym, ap, ◌∙◌, append_assoc, append-nil}
use Rattle.std.specs.Prelude.{Option, Some, None}
use Rattle.std.specs.List.{flat_map}
use Rattle.c_ast.specs.declared.Name.{Name}
use Rattle.c_ast.specs.declared.events.TextEvent.{TextEvent}
use Rattle.c_ast.specs.declared.events.TextEvent.TheVariants as events
use Rattle.c_ast.specs.Syntax.{Statement, set, ask, choice, loop, call, tell, Block, done, next, Declared, Function, Whole}
use Rattle.c_ast.specs.Spelling.{IndentedLine, at_depth, if_line, for_line, close_line, statement_rows, block_rows, else_rows, declared_line, declared_row, function_rows, main_rows, program_rows}
use Rattle.c_ast.specs.Events.{exp_events, statement_events, block_events, declared_event, function_events, program_events, line_events, rows_events}

pub rows_events-append : (a b : List IndentedLine) → rows_events (a ++ b) ≡ rows_events a ++ rows_events b
rows_events-append [] b = refl
rows_events-append (r ∷ a) b = ap (λ (l : List TextEvent). line_events r.line ++ l) (rows_events-append a b) ∙ sym (append_assoc (line_events r.line) (rows_events a) (rows_events b))

assoc_one : (e : List TextEvent) (i : TextEvent) (l : List TextEvent) → (e ++ i ∷ []) ++ l ≡ e ++ (i ∷ l)
assoc_one e i l = append_assoc e (i ∷ []) l

mutual
  statement_rows_events : (s : Statement) (d : ℕ) → rows_events (statement_rows d s) ≡ statement_events s
  statement_rows_events (set p e) d = append-nil _
  statement_rows_events (ask p a) d = append-nil _
  statement_rows_events (call f) d = refl
  statement_rows_events (tell t) d = append-nil _
  statement_rows_events (choice e a b) d =
      ap (λ (l : List TextEvent). line_events (if_line e) ++ l) (rows_events-append (block_rows (suc d) a) (else_rows d b) ∙ ap (λ (l : List TextEvent). l ++ rows_events (else_rows d b)) (block_rows_events a (suc d)) ∙ ap (λ (l : List TextEvent). block_events a ++ l) (else_rows_events b d))
      ∙ assoc_one (exp_events e) events.If (block_events a ++ (block_events b ++ events.Close ∷ []))
  statement_rows_events (loop x n s) d =
      ap (λ (l : List TextEvent). line_events (for_line x n) ++ l) (rows_events-append (block_rows (suc d) s) (at_depth d close_line) ∙ ap (λ (l : List TextEvent). l ++ events.Close ∷ []) (block_rows_events s (suc d)))

  block_rows_events : (b : Block) (d : ℕ) → rows_events (block_rows d b) ≡ block_events b
  block_rows_events done d = refl
  block_rows_events (next s b) d =
      rows_events-append (statement_rows d s) (block_rows d b) ∙ ap (λ (l : List TextEvent). l ++ rows_events (block_rows d b)) (statement_rows_events s d) ∙ ap (λ (l : List TextEvent). statement_events s ++ l) (block_rows_events b d)

  else_rows_events : (b : Block) (d : ℕ) → rows_events (else_rows d b) ≡ block_events b ++ events.Close ∷ []
  else_rows_events done d = refl
  else_rows_events (next s b) d =
      rows_events-append (statement_rows (suc d) s ++ block_rows (suc d) b) (at_depth d close_line)
      ∙ ap (λ (l : List TextEvent). l ++ events.Close ∷ []) (rows_events-append (statement_rows (suc d) s) (block_rows (suc d) b) ∙ ap (λ (l : List TextEvent). l ++ rows_events (block_rows (suc d) b)) (statement_rows_events s (suc d)) ∙ ap (λ (l : List TextEvent). statement_events s ++ l) (block_rows_events b (suc d)))

declared_row_event : (x : Name) (size : Option ℕ) → line_events (declared_line x size) ≡ events.Declare x size ∷ []
declared_row_event x None = refl
declared_row_event x (Some n) = refl

declared_rows_events : (ds : List Declared) → rows_events (map declared_row ds) ≡ map declared_event ds
declared_rows_events [] = refl
declared_rows_events (d ∷ ds) = ap (λ (l : List TextEvent). l ++ rows_events (map declared_row ds)) (declared_row_event d.name d.size) ∙ ap (λ (l : List TextEvent). declared_event d ∷ l) (declared_rows_events ds)

body_events : (b : Block) → rows_events (block_rows 1 b ++ at_depth 0 close_line) ≡ block_events b ++ events.Close ∷ []
body_events b = rows_events-append (block_rows 1 b) (at_depth 0 close_line) ∙ ap (λ (l : List TextEvent). l ++ events.Close ∷ []) (block_rows_events b 1)

functions_rows_events : (fs : List Function) → rows_events (flat_map function_rows fs) ≡ flat_map function_events fs
functions_rows_events [] = refl
functions_rows_events (f ∷ fs) =
    rows_events-append (function_rows f) (flat_map function_rows fs)
    ∙ ap (λ (l : List TextEvent). l ++ rows_events (flat_map function_rows fs)) (ap (λ (l : List TextEvent). events.Function f.name ∷ l) (body_events f.body))
    ∙ ap (λ (l : List TextEvent). function_events f ++ l) (functions_rows_events fs)

-- the lines of a program do what the program does
pub program_rows_events : (p : Whole) → rows_events (program_rows p) ≡ program_events p
program_rows_events p =
    rows_events-append (map declared_row p.decls) (flat_map function_rows p.funcs ++ main_rows p.main)
    ∙ ap (λ (l : List TextEvent). l ++ rows_events (flat_map function_rows p.funcs ++ main_rows p.main)) (declared_rows_events p.decls)
    ∙ ap (λ (l : List TextEvent). map declared_event p.decls ++ l) (rows_events-append (flat_map function_rows p.funcs) (main_rows p.main)
    ∙ ap (λ (l : List TextEvent). l ++ rows_events (main_rows p.main)) (functions_rows_events p.funcs)
    ∙ ap (λ (l : List TextEvent). flat_map function_events p.funcs ++ (events.Main ∷ l)) (body_events p.main))
